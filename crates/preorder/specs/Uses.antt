-- How often a node is used as a child or a root, and the lowest that is used twice (81).
use Rattle.std.specs.Prelude.{◌≡◌, refl, cond, List, [], ◌∷◌, ℕ, zero, suc, ◌≤◌, ◌<◌, leb, eqb, length}
use Rattle.std.proofs.Common.{◌∙◌, arith, eq-eqb, ne_eqb, le-leb}
use Rattle.std.proofs.Math.Decide.{ℕ_discrete}
use Rattle.std.proofs.lemmas.Bool.{lt-leb}
use Rattle.sheet.specs.Sheet.{Sheet}
use Rattle.rules.specs.Explain.Chain.{◌∈◌, here, there}
use Rattle.preorder.specs.Numbering.{in_rest}
use Rattle.preorder.specs.NumberingLaws.{Once, uses}

-- how often n stands in a list
unfoldable pub times : ℕ → List ℕ → ℕ
times n [] = 0
times n (m ∷ l) = cond (eqb m n) (suc (times n l)) (times n l)

-- the lowest of the `left` numbers from n on that stands twice or more often; the number behind them where none does
unfoldable pub lowest_from : (n left : ℕ) → List ℕ → ℕ
lowest_from n zero l = n
lowest_from n (suc left) l = cond (leb 2 (times n l)) n (lowest_from (suc n) left l)

-- the lowest node that is used twice; as many as there are where none is
unfoldable pub lowest_twice : Sheet → ℕ
lowest_twice sh = lowest_from 0 (length sh.nodes) (uses sh)

-- TIMES

pub times_here : (n : ℕ) (l : List ℕ) {m : ℕ} → m ≡ n → times n (m ∷ l) ≡ suc (times n l)
unfolding times
times_here n l {m} e = rw (eq-eqb m n e)

pub times_there : (l : List ℕ) {n m : ℕ} → (m ≡ n → ⊥) → times n (m ∷ l) ≡ times n l
unfolding times
times_there l {n} {m} f = rw (ne_eqb m n f)

times_in : {n : ℕ} (l : List ℕ) → n ∈ l → 1 ≤ times n l
times_in {n = n} [] e = elim e [ ]
times_in {n} (m ∷ l) e = go (λ i. times_in l i) (ℕ_discrete m n)
  where
    go : (n ∈ l → 1 ≤ times n l) → Dec (m ≡ n) → 1 ≤ times n (m ∷ l)
    go f (yes q) = omega (arith, times_here n l q)
    go f (no q) = omega (arith, times_there l q, f (in_rest e q))

times_out : (n : ℕ) (l : List ℕ) → (n ∈ l → ⊥) → times n l ≡ 0
unfolding times
times_out n [] f = refl
times_out n (m ∷ l) f = times_there l (λ q. f (rw q here)) ∙ times_out n l (λ i. f (there i))

pub once_times : (l : List ℕ) → Once l → (n : ℕ) → times n l ≤ 1
unfolding times
once_times [] o n = omega arith
once_times (m ∷ l) o n = go (ℕ_discrete m n) (once_times l o.1 n)
  where
    go : Dec (m ≡ n) → times n l ≤ 1 → times n (m ∷ l) ≤ 1
    go (yes q) h = omega (arith, times_here n l q, times_out n l (λ i. o.0 (rw q i)))
    go (no q) h = omega (arith, times_there l q)

times_less : (n m : ℕ) (l : List ℕ) → times n l ≤ times n (m ∷ l)
times_less n m l = go (ℕ_discrete m n)
  where
    go : Dec (m ≡ n) → times n l ≤ times n (m ∷ l)
    go (yes q) = omega (arith, times_here n l q)
    go (no q) = omega (arith, times_there l q)

pub times_once : (l : List ℕ) → ((n : ℕ) → n ∈ l → times n l ≤ 1) → Once l
times_once [] h = tt
times_once (m ∷ l) h = (
  λ i. omega (arith, h m here, times_here m l refl, times_in l i),
  times_once l (λ n i. omega (arith, h n (there i), times_less n m l)),
)

-- THE LOWEST

pub lowest_here : (n left : ℕ) (l : List ℕ) → 2 ≤ times n l → lowest_from n (suc left) l ≡ n
unfolding lowest_from
lowest_here n left l h = rw (le-leb 2 (times n l) h)

pub lowest_later : (n left : ℕ) (l : List ℕ) → times n l < 2 → lowest_from n (suc left) l ≡ lowest_from (suc n) left l
unfolding lowest_from
lowest_later n left l h = rw (lt-leb 2 (times n l) h)

-- A sheet in which no node is used twice, numbered as its nodes are first met: it is in range, and numbered once more it is the same.
use Rattle.std.specs.Prelude.{◌≡◌, ◌⊎◌}
use Rattle.std.proofs.Math.Path.{refl, ap, sym}
use Rattle.std.proofs.Common.{◌∙◌, inl, inr, arith}
use mathlib.Core.List.{List, [], ◌∷◌, ◌++◌, map, map-append}
use Prim.Native.Nat.{ℕ, zero, suc, ◌<◌}
use Rattle.std.proofs.Math.Decide.{ℕ_discrete}
use Rattle.std.proofs.Math.ListN.{length, get_or}
use Rattle.node.specs.declared.Node.{Node}
use Rattle.node.specs.Kinds.{children}
use Rattle.sheet.specs.Sheet.{Sheet}
use Rattle.sheet.specs.Rows.{Every}
use Rattle.rules.specs.Explain.Chain.{◌∈◌, here, there}
use Rattle.preorder.specs.Numbering.{gathered, roots, place_of, in_front, in_either}
use Rattle.preorder.specs.Numbering.{in_at, in_rest, place_first, place_later}

-- EACH NUMBER ONCE

abbrev pub Once : List ℕ → Type 0
Once [] = Unit
Once (n ∷ ns) = (n ∈ ns → ⊥) × Once ns

pub once_both : (xs ys : List ℕ) → Once xs → Once ys → ((n : ℕ) → n ∈ xs → n ∈ ys → ⊥) → Once (xs ++ ys)
once_both [] ys o p f = p
once_both (x ∷ xs) ys o p f = (λ e. go (in_either xs ys e), once_both xs ys o.1 p (λ n i. f n (there i)))
  where
    go : (x ∈ xs) ⊎ (x ∈ ys) → ⊥
    go (inl i) = o.0 i
    go (inr i) = f x here i

-- USES: a node is used as a root, or as a child of each node that names it (81 where one is used twice)

abbrev pub all_children : List Node → List ℕ
all_children [] = []
all_children (n ∷ ns) = children n ++ all_children ns

unfoldable pub uses : Sheet → List ℕ
uses sh = roots sh ++ all_children sh.nodes

-- PLACES

pub place_in : {n : ℕ} (l : List ℕ) → n ∈ l → place_of l n < length l
place_in {n = n} [] e = elim e [ ]
place_in {n} (m ∷ l) e = go (λ i. place_in l i) (ℕ_discrete m n)
  where
    go : (n ∈ l → place_of l n < length l) → Dec (m ≡ n) → place_of (m ∷ l) n < suc (length l)
    go f (yes q) = rw (place_first n l q) (omega arith)
    go f (no q) = rw (place_later l q) (omega (arith, f (in_rest e q)))

-- where each number stands once, the place of the one at i is i
pub place_of_lem : (l : List ℕ) → Once l → (i : ℕ) → i < length l → place_of l (get_or l i 0) ≡ i
place_of_lem [] o i h = absurd (omega arith)
place_of_lem (m ∷ l) o zero h = place_first m l refl
place_of_lem (m ∷ l) o (suc i) h = place_later l (λ e. o.0 (rw (← e) at (in_at l i (omega arith)))) ∙ ap suc (place_of_lem l o.1 i (omega arith))

-- c stands behind n
pub data Before (n c : ℕ) : List ℕ → Type 0 where
  first : {l : List ℕ} → c ∈ l → Before n c (n ∷ l)
  later : {m : ℕ} {l : List ℕ} → Before n c l → Before n c (m ∷ l)

module _ {n c : ℕ} where
  before_front : {xs : List ℕ} (ys : List ℕ) → Before n c xs → Before n c (xs ++ ys)
  before_front ys (first e) = first (in_front ys e)
  before_front ys (later b) = later (before_front ys b)

  before_behind : (xs : List ℕ) {ys : List ℕ} → Before n c ys → Before n c (xs ++ ys)
  before_behind [] b = b
  before_behind (x ∷ xs) b = later (before_behind xs b)

  pub before_gathered : (h : ℕ → List ℕ) {d : ℕ} (cs : List ℕ) → d ∈ cs → Before n c (h d) → Before n c (gathered h cs)
  before_gathered h {d = d} [] x'' b = elim x'' [ ]
  before_gathered h (d ∷ cs) here b = before_front (gathered h cs) b
  before_gathered h (m ∷ cs) (there i) b = before_behind (h m) (before_gathered h cs i b)

  before_one : {l : List ℕ} → Before n c l → n ∈ l
  before_one (first e) = here
  before_one (later b) = there (before_one b)

  before_two : {l : List ℕ} → Before n c l → c ∈ l
  before_two (first e) = there e
  before_two (later b) = there (before_two b)

  pub place_before : (l : List ℕ) → Once l → Before n c l → place_of l n < place_of l c
  place_before [] o x'' = elim x'' [ ]
  place_before (m ∷ l) o (first e) = rw (place_first n l refl, place_later {m = n} {n = c} l (λ q. o.0 (rw (← q) at e))) (omega arith)
  place_before (m ∷ l) o (later b) =
      rw (place_later {m = m} {n = n} l (λ q. o.0 (rw (← q) at (before_one b))), place_later {m = m} {n = c} l (λ q. o.0 (rw (← q) at (before_two b))))
      (omega (arith, place_before l o.1 b))

-- ONCE MORE

pub gathered-map : (P : ℕ → Type 0) (f : ℕ → ℕ) (g h : ℕ → List ℕ) (cs : List ℕ) → Every P cs → ((c : ℕ) → P c → g (f c) ≡ map f (h c))
    → gathered g (map f cs) ≡ map f (gathered h cs)
gathered-map P f g h [] p e = refl
gathered-map P f g h (c ∷ cs) p e =
    ap (λ z. z ++ gathered g (map f cs)) (e c p.0) ∙ ap (λ z. map f (h c) ++ z) (gathered-map P f g h cs p.1 e) ∙ sym (map-append f (h c) (gathered h cs))

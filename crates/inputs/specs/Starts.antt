-- Starts, as an input has them.
use Rattle.std.specs.Prelude.{◌≡◌, refl, ℕ, zero, suc, ◌+◌, ◌*◌, ◌≤◌, ◌<◌, min, length, set}
use Rattle.std.proofs.Common.{sym, ◌∙◌, add-one}
use Rattle.std.proofs.Math.Path.{ap}
use mathlib.Core.List.{List, [], ◌∷◌, ◌++◌}
use native.Mathlib.Omega.{arith}
use Rattle.std.proofs.Math.Decide.{dec_le}
use Rattle.std.proofs.Math.ListN.{get_or}
use Rattle.starts.specs.declared.Starts.{Starts}
use Rattle.starts.specs.Starts.{firsts}
use Rattle.inputs.specs.Format.{two}

-- n numbers of two bytes, from place i on
unfoldable pub numbers_at : List ℕ → (i n : ℕ) → List ℕ
numbers_at bs i zero = []
numbers_at bs i (suc n) = two bs i ∷ numbers_at bs (i + 2) n

-- `Starts` has room for 16 of the numbers; a count over 16 stays as it is, and a lookup refuses it
unfoldable pub starts_in : List ℕ → Starts
starts_in bs = record { count = get_or bs 2 0; at = firsts 16 (numbers_at bs 3 (get_or bs 2 0)) }

-- READ ONE AFTER ANOTHER

numbers_length_is : (bs : List ℕ) (i n : ℕ) → length (numbers_at bs i n) ≡ n
unfolding numbers_at
numbers_length_is bs i zero = refl
numbers_length_is bs i (suc n) = ap suc (numbers_length_is bs (i + 2) n)

numbers_snoc : (bs : List ℕ) (i n : ℕ) → numbers_at bs i n ++ (two bs (i + 2 * n) ∷ []) ≡ numbers_at bs i (suc n)
unfolding numbers_at
numbers_snoc bs i zero = let e : i + 2 * 0 ≡ i = omega arith in rw e
numbers_snoc bs i (suc n) =
    let e : i + 2 * suc n ≡ i + 2 + 2 * n = omega arith in
    ap (λ (l : List ℕ). two bs i ∷ l) (rw e (numbers_snoc bs (i + 2) n))

firsts_snoc : (n : ℕ) (l : List ℕ) (v : ℕ) → length l < n → set (firsts n l) (length l) v ≡ firsts n (l ++ (v ∷ []))
firsts_snoc zero l v h = absurd (omega arith)
firsts_snoc (suc n) [] v h = refl
firsts_snoc (suc n) (a ∷ l) v h = ap (λ (m : List ℕ). a ∷ m) (firsts_snoc n l v (omega arith))

-- the first m of more than m numbers are those of m
firsts_enough : (bs : List ℕ) (i m n : ℕ) → m ≤ n → firsts m (numbers_at bs i m) ≡ firsts m (numbers_at bs i n)
unfolding numbers_at
firsts_enough bs i zero n h = refl
firsts_enough bs i (suc m) zero h = absurd (omega arith)
firsts_enough bs i (suc m) (suc n) h = ap (λ (l : List ℕ). two bs i ∷ l) (firsts_enough bs (i + 2) m n (omega arith))

-- i of the numbers are read: they are at the front of `at`
abbrev pub Filled : (bs at : List ℕ) (i : ℕ) → Type 0
Filled bs at i = at ≡ firsts 16 (numbers_at bs 3 i)

module _ (bs : List ℕ) {at : List ℕ} where
  pub filled_more : {i v : ℕ} → Filled bs at i → i < 16 → v ≡ two bs (3 + 2 * i) → Filled bs (set at i v) (i + 1)
  filled_more {i} {v} f h e =
      let l = numbers_length_is bs 3 i in
      ap (λ (x : List ℕ). set x i v) f ∙ ap (λ (k : ℕ). set (firsts 16 (numbers_at bs 3 i)) k v) (sym l)
      ∙ firsts_snoc 16 (numbers_at bs 3 i) v (omega (arith, l))
      ∙ rw (e, add-one i) (ap (firsts 16) (numbers_snoc bs 3 i))

  pub filled_all : {i : ℕ} → Filled bs at i → i ≡ min (get_or bs 2 0) 16 → record { count = get_or bs 2 0; at = at } ≡ starts_in bs
  unfolding starts_in
  filled_all {i} f e = ap (λ (l : List ℕ). record { count = get_or bs 2 0; at = l }) (f ∙ go (dec_le (get_or bs 2 0) 16))
    where
      go : Dec (get_or bs 2 0 ≤ 16) → firsts 16 (numbers_at bs 3 i) ≡ firsts 16 (numbers_at bs 3 (get_or bs 2 0))
      go (yes h) = let z : i ≡ get_or bs 2 0 = omega arith in rw z
      go (no h) = let z : i ≡ 16 = omega arith in rw z (firsts_enough bs 3 16 (get_or bs 2 0) (omega arith))

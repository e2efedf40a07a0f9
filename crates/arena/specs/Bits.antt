-- Which cells took a view, as the notes of their slots have it, and the bits of them.
use Rattle.std.specs.Prelude.{◌≡◌, refl, Bool, true, false, cond, not, List, [], ◌∷◌, ℕ, zero, suc, ◌+◌, ◌-◌, ◌*◌, ◌≤◌, ◌<◌, eqb, length, get_or}
use Rattle.std.proofs.Common.{ap, ◌∙◌, arith, eq-eqb, ne_eqb}
use mir.Val.{bool_byte}
use Rattle.rules.specs.Bits.{bits_of}
use Rattle.rules.proofs.Bits.Laws.{bits_below}

-- a slot of 0 took no view
unfoldable pub filled : ℕ → Bool
filled s = not (eqb s 0)

-- of n cells, from cell i on
unfoldable pub filled_from : List ℕ → (i n : ℕ) → List Bool
filled_from slots i zero = []
filled_from slots i (suc n) = filled (get_or slots i 0) ∷ filled_from slots (suc i) n

pub filled_not : {s : ℕ} → s ≡ 0 → ◌≡◌ {A = ℕ} 0 (cond (filled s) 1 0)
unfolding filled
filled_not {s} e = rw (eq-eqb s 0 e)

pub filled_so : {s : ℕ} → (s ≡ 0 → ⊥) → ◌≡◌ {A = ℕ} 1 (cond (filled s) 1 0)
unfolding filled
filled_so {s} n = rw (ne_eqb s 0 n)

-- what the code adds for it
pub filled_byte : (s : ℕ) {r : ℕ} → r ≡ bool_byte (not (eqb s 0)) → r ≡ cond (filled s) 1 0
unfolding filled
filled_byte s e = e ∙ go (not (eqb s 0))
  where
    go : (b : Bool) → bool_byte b ≡ cond b 1 0
    go true = refl
    go false = refl

-- ONE CELL MORE, FROM THE LAST ONE DOWN

filled_length : (slots : List ℕ) (i n : ℕ) → length (filled_from slots i n) ≡ n
unfolding filled_from
filled_length slots i zero = refl
filled_length slots i (suc n) = ap suc (filled_length slots (suc i) n)

-- b has the bits of the cells from i on, of k
pub record BitsFrom (slots : List ℕ) (k i b : ℕ) : Type 0 where
  pub inside : i ≤ k
  pub is : b ≡ bits_of (filled_from slots i (k - i))

pub bits_none : (slots : List ℕ) (k : ℕ) → BitsFrom slots k k 0
unfolding bits_of filled_from
bits_none slots k = let z : k - k ≡ 0 = omega arith in record { inside = omega arith; is = rw z }

pub bits_more : {slots : List ℕ} {k i b c : ℕ} → BitsFrom slots k i b → 0 < i → c ≡ cond (filled (get_or slots (i - 1) 0)) 1 0
    → BitsFrom slots k (i - 1) (c + 2 * b)
unfolding bits_of filled_from
bits_more {slots} {k} {i} {b} {c} h l d =
    let z : k - (i - 1) ≡ suc (k - i) = omega (arith, h.inside) in
    let y : suc (i - 1) ≡ i = omega arith in
    record { inside = omega (arith, h.inside); is = rw (z, d, h.is, y) }

-- 16 of them are a number of 16 bits
pub bits_fit : {slots : List ℕ} {k i b : ℕ} → k ≤ 16 → BitsFrom slots k i b → b < 65536
bits_fit {slots} {k} {i} l h = rw h.is (bits_below (filled_from slots i (k - i)) 16 (omega (arith, filled_length slots i (k - i))))

pub bits_all : {slots : List ℕ} {k i b : ℕ} → BitsFrom slots k i b → i ≡ 0 → b ≡ bits_of (filled_from slots 0 k)
bits_all {slots} {k} {i} h z =
    let y : k - i ≡ k = omega arith in
    h.is ∙ ap (λ (n : ℕ). bits_of (filled_from slots i n)) y ∙ ap (λ (j : ℕ). bits_of (filled_from slots j k)) z

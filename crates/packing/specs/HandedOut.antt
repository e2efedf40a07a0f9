-- What is handed out in numbers and bytes that the caller lends.
use Rattle.std.specs.Prelude.{◌≡◌, refl, List, [], ◌∷◌, ◌++◌, ℕ, zero, suc, ◌≤◌, length, take, drop}
use Rattle.std.proofs.Common.{sym, ap, arith}
use Rattle.value.specs.Result.{Result, ok, refusal}
use Rattle.starts.specs.declared.Place.{Place}
use Rattle.starts.specs.Starts.{firsts}

-- the first n of the numbers l at the front of the caller's t; those behind them do not change
unfoldable pub handed : ℕ → (l t : List ℕ) → List ℕ
handed n l t = firsts n l ++ drop n t

-- likewise of items of any type, of which the list has n
abbrev pub handed_over : {A : Type 0} → ℕ → (l t : List A) → List A
handed_over n l t = take n l ++ drop n t

-- a lookup found f: 0 and where the value starts and ends; or the refusal's number, and both numbers are what they were
unfoldable pub found_number : Result Place → ℕ
found_number (ok p) = 0
found_number (refusal c) = c

unfoldable pub start_or : Result Place → ℕ → ℕ
start_or (ok p) old = p.start
start_or (refusal c) old = old

unfoldable pub end_or : Result Place → ℕ → ℕ
end_or (ok p) old = p.end
end_or (refusal c) old = old

pub record Lookup (f : Result Place) (r start start' end end' : ℕ) : Type 0 where
  pub number : r ≡ found_number f
  pub starts_at : start' ≡ start_or f start
  pub ends_at : end' ≡ end_or f end

-- WHAT SHOWS IT

firsts_are : (n : ℕ) (l : List ℕ) → n ≤ length l → firsts n l ≡ take n l
firsts_are zero l h = refl
firsts_are (suc n) [] h = absurd (omega arith)
firsts_are (suc n) (a ∷ l) h = ap (λ (m : List ℕ). a ∷ m) (firsts_are n l (omega arith))

-- of numbers that are there
pub handed_front : (n : ℕ) (l t : List ℕ) → n ≤ length l → handed_over n l t ≡ handed n l t
unfolding handed
handed_front n l t h = ap (λ (m : List ℕ). m ++ drop n t) (sym (firsts_are n l h))

-- the returns of a lookup
pub found_at : (p : Place) (start end : ℕ) → Lookup (ok p) 0 start p.start end p.end
unfolding found_number start_or end_or
found_at p start end = record { number = refl; starts_at = refl; ends_at = refl }

pub found_none : (c start end : ℕ) → Lookup (refusal c) c start start end end
unfolding found_number start_or end_or
found_none c start end = record { number = refl; starts_at = refl; ends_at = refl }

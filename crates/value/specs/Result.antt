-- The result of reading bytes: what was read, or a refusal of document 01's table by its number.
use Rattle.std.proofs.Math.Option.{Option, none, some}
use Rattle.std.specs.Prelude.{Bool, true, false, ℕ}

pub data Result (A : Type 0) : Type 0 where
  ok : A → Result A
  refusal : ℕ → Result A

module _ {A B : Type 0} where
  -- go on with what was read
  unfoldable pub and_then : Result A → (A → Result B) → Result B
  and_then (ok a) f = f a
  and_then (refusal c) f = refusal c

  unfoldable pub map_result : (A → B) → Result A → Result B
  map_result f (ok a) = ok (f a)
  map_result f (refusal c) = refusal c

  -- go on with what is there, or refuse with c
  unfoldable pub or_refuse : ℕ → Option A → (A → Result B) → Result B
  or_refuse c none f = refusal c
  or_refuse c (some a) f = f a

-- go on where the test says yes, or refuse with c
unfoldable pub unless : {A : Type 0} → ℕ → Bool → Result A → Result A
unless c true r = r
unless c false r = refusal c

-- What a value is seen as, each view with the equation that says so.
use Rattle.std.specs.Prelude.{◌≡◌, refl, Bool, true, false, ℕ, ◌≤◌}
use Rattle.std.proofs.Math.Option.{Option, none, some}
use Rattle.std.proofs.Math.Decide.{dec_le}
use Rattle.value.specs.Value.{Value, Values, vfalse, vtrue, list, number, wide, pair, nil, cons, truth}

unfoldable pub as_list : (v : Value) → Option ((l : Values) × (v ≡ list l))
as_list vfalse = none
as_list vtrue = none
as_list (list l) = some (l, refl)
as_list (number n) = none
as_list (wide n) = none
as_list (pair a b) = none

-- a list with members
unfoldable pub as_front : (v : Value) → Option ((f : Value) × (r : Values) × (v ≡ list (cons f r)))
as_front vfalse = none
as_front vtrue = none
as_front (list nil) = none
as_front (list (cons f r)) = some (f, r, refl)
as_front (number n) = none
as_front (wide n) = none
as_front (pair a b) = none

unfoldable pub as_pair : (v : Value) → Option ((a : Value) × (b : Value) × (v ≡ pair a b))
as_pair vfalse = none
as_pair vtrue = none
as_pair (list l) = none
as_pair (number n) = none
as_pair (wide n) = none
as_pair (pair a b) = some (a, b, refl)

unfoldable pub as_truth : (v : Value) → Option ((b : Bool) × (v ≡ truth b))
as_truth vfalse = some (false, refl)
as_truth vtrue = some (true, refl)
as_truth (list l) = none
as_truth (number n) = none
as_truth (wide n) = none
as_truth (pair a b) = none

-- a number of kind 04: one that two bytes hold
unfoldable pub if_small : (n : ℕ) → Dec (n ≤ 65535) → Option ((m : ℕ) × (number n ≡ number m) × (m ≤ 65535))
if_small n (yes h) = some (n, refl, h)
if_small n (no h) = none

unfoldable pub as_number : (v : Value) → Option ((n : ℕ) × (v ≡ number n) × (n ≤ 65535))
as_number vfalse = none
as_number vtrue = none
as_number (list l) = none
as_number (number n) = if_small n (dec_le n 65535)
as_number (wide n) = none
as_number (pair a b) = none

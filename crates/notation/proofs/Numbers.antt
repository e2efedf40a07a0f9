-- Which numbers refuse a text: 70 and 71 while it is read, 72 behind it.
use Rattle.std.specs.Prelude.{Bool, List, [], ◌∷◌, eqb}
use Rattle.std.proofs.Math.Bool.{true, false}
use Prim.Native.Nat.{ℕ, zero, suc}
use Rattle.value.specs.Value.{Value, Values}
use Rattle.value.specs.Result.{Result}
use Rattle.notation.specs.Grammar.{
  Awaits,
  value,
  members,
  more,
  token,
  exactly,
  digits,
  finished,
  numeral,
  white,
  is_digit,
  Start,
  start_false,
  start_true,
  start_array,
  start_object,
  start_number,
  no_start,
  start_of,
  begin,
  found,
  or_member,
  or_comma,
  or_digit,
  skip,
  take,
  judge,
  ends,
  run,
}
use Rattle.notation.specs.Numbers.{Told, deep, malformed, read}

module _ {A : Type 0} (b : ℕ) (next : Awaits → Result A) (on : (w : Awaits) → Told (next w)) where
  begins : (l : ℕ) (k : Value → Awaits) (s : Start) → Told (begin b next l k s)
  unfolding begin
  begins l k start_false = on _
  begins l k start_true = on _
  begins zero k start_array = deep
  begins (suc l) k start_array = on _
  begins zero k start_object = deep
  begins (suc l) k start_object = on _
  begins l k start_number = on _
  begins l k no_start = malformed

  founds : (p : Bool) (w : Awaits) → Told (found b next p w)
  unfolding found
  founds true w = on w
  founds false w = malformed

  or_members : (p : Bool) (l : ℕ) (k : Values → Awaits) → Told (or_member b next p l k)
  unfolding or_member
  or_members true l k = on _
  or_members false l k = begins l _ (start_of b)

  or_commas : (p : Bool) (l : ℕ) (k : Values → Awaits) → Told (or_comma b next p l k)
  unfolding or_comma
  or_commas true l k = on _
  or_commas false l k = founds (eqb b 0x2C) _

  or_digits : (p : Bool) (n : ℕ) (k : Value → Awaits) {e : Result A} → Told e → Told (or_digit b next p n k e)
  unfolding or_digit
  or_digits true n k t = founds _ _
  or_digits false n k t = t

  skips : (w : Awaits) → Told (skip b next w)
  unfolding skip
  skips (value l k) = on _
  skips (members l k) = on _
  skips (more l k) = on _
  skips (token c w) = on _
  skips (exactly c w) = founds (eqb b c) w
  skips (digits n k) = skips (k (numeral n))
  skips (finished v) = on _

  takes : (w : Awaits) → Told (take b next w)
  unfolding take
  takes (value l k) = begins l k (start_of b)
  takes (members l k) = or_members (eqb b 0x5D) l k
  takes (more l k) = or_commas (eqb b 0x5D) l k
  takes (token c w) = founds (eqb b c) w
  takes (exactly c w) = founds (eqb b c) w
  takes (digits n k) = or_digits (is_digit b) n k (takes (k (numeral n)))
  takes (finished v) = malformed

  judges : (p : Bool) (w : Awaits) → Told (judge b next p w)
  unfolding judge
  judges true w = skips w
  judges false w = takes w

at_end : (w : Awaits) → Told (ends w)
unfolding ends
at_end (value l k) = malformed
at_end (members l k) = malformed
at_end (more l k) = malformed
at_end (token c w) = malformed
at_end (exactly c w) = malformed
at_end (digits n k) = at_end (k (numeral n))
at_end (finished v) = read

-- a text that is read is refused with 70 or 71, or with nothing
pub told : (t : List ℕ) (w : Awaits) → Told (run t w)
unfolding run
told [] w = at_end w
told (b ∷ bs) w = judges b (run bs) (λ v. told bs v) (white b) w

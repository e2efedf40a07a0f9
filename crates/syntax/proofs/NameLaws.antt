-- Numbers in decimal are read back, and the printer's names are names, each with its own number.
use Rattle.std.specs.Prelude.{◌≡◌, false}
use Rattle.std.proofs.Math.Path.{refl}
use Rattle.std.proofs.Common.{arith, ne_eqb}
use mathlib.Core.List.{List, [], ◌∷◌}
use Prim.Native.Nat.{ℕ, zero, suc, ◌≤◌}
use Rattle.syntax.specs.Reader.{ok, zero_first, valued, number, by_number}
use Rattle.syntax.specs.Printer.{decimal}
use Rattle.syntax.specs.NameLaws.{limit, below, small_dec, value-decimal, Lead, dec_lead, some_digit}

lead_zero : (ds : List ℕ) → Lead ds → zero_first ds ≡ false
unfolding zero_first
lead_zero [] h = elim h [ ]
lead_zero (d ∷ []) h = refl
lead_zero (d ∷ e ∷ ds) h = ne_eqb d 48 (λ q. omega arith)

decimal_zero : (n : ℕ) → zero_first (decimal n) ≡ false
unfolding decimal limit zero_first
decimal_zero zero = rw (small_dec 0 0 [] (omega arith)) refl
decimal_zero (suc n) = lead_zero (decimal (suc n)) (dec_lead (suc (suc n)) (suc n) [] (omega (arith, below n)) (omega arith))

pub number-decimal : (most detail left behind n : ℕ) → n ≤ most → number most detail left behind (decimal n) false ≡ ok n
unfolding number valued
number-decimal most detail left behind n h = rw (decimal_zero n, value-decimal most n h)

pub hash_decimal : (left n : ℕ) → n ≤ 255 → by_number left (decimal n) false ≡ ok n
unfolding by_number
hash_decimal left n h = let (d, ds, e) = some_digit n in rw e (rw e at (number-decimal 255 64 left 1 n h))

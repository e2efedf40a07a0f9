-- HOW LONG A TEXT IS: what is printed of a sheet has at most 16,384 bytes. A node with all below it, n nodes, takes at most 75 n - 57 bytes, the gap
-- before it among them.
use Rattle.std.specs.Prelude.{Bool, true}
use Rattle.std.proofs.Math.Bool.{false}
use mathlib.Core.List.{List, [], ◌∷◌}
use Prim.Native.Nat.{ℕ, zero, suc, ◌+◌, ◌*◌, ◌/◌, ◌%◌, ◌≤◌, ◌<◌}
use native.Mathlib.Omega.{arith}
use Rattle.std.proofs.Math.Decide.{dec_lt}
use Rattle.std.proofs.Math.ListN.{length}
use Rattle.syntax.specs.Printer.{dec, decimal, suffix, name_of}
use Rattle.syntax.specs.Printer.{called}
use Rattle.syntax.specs.NameLaws.{limit, small_dec, large_dec}

-- NUMBERS AND NAMES

dec_short : (d f n : ℕ) (acc : List ℕ) → n < limit (suc d) → length (dec f n acc) ≤ suc d + length acc
unfolding dec limit
dec_short d zero n acc h = omega arith
dec_short d (suc f) n acc h = go d h (dec_lt n 10) (λ e. dec_short e f (n / 10) ((48 + n % 10) ∷ acc))
  where
    go : (d : ℕ) → n < 10 * limit d → Dec (n < 10)
        → ((e : ℕ) → n / 10 < 10 * limit e → length (dec f (n / 10) ((48 + n % 10) ∷ acc)) ≤ suc e + suc (length acc))
        → length (dec (suc f) n acc) ≤ suc d + length acc
    go d h (yes s) i = rw (small_dec f n acc s) (omega arith)
    go zero h (no s) i = absurd (omega arith)
    go (suc e) h (no s) i = rw (large_dec f n acc s) (omega (arith, i e (omega arith)))

pub decimal_short : (d n : ℕ) → n < limit (suc d) → length (decimal n) ≤ suc d
unfolding decimal
decimal_short d n h = omega (arith, dec_short d (suc n) n [] h)

suffix_short : (q : ℕ) → q < 100 → length (suffix q) ≤ 2
unfolding suffix limit
suffix_short zero h = omega arith
suffix_short (suc q) h = decimal_short 1 (suc q) h

letter_short : (x : ℕ) → x < 2600 → length (name_of x) ≤ 4
unfolding name_of
letter_short x h = omega (arith, suffix_short (x / 26) (omega arith))

pub name_short : (s : Bool) (x : ℕ) → x < 2600 → length (called s x) ≤ 4
unfolding called
name_short false x h = letter_short x h
name_short true zero h = omega arith
name_short true (suc x) h = letter_short (suc x) h

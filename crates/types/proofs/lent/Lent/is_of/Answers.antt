-- `is_of` meets its contract. Assumes nothing.
use native.Mathlib.Omega.{arith}
use Rattle.types.specs.SlotsLaws.{no_byte}
use Rattle.types.proofs.lent.Lent.is_of.Goals as goal

pub returns-in-empty : goal.returns-in-empty
returns-in-empty c = rw (← c.type_in.ensures) (no_byte c.type_in.result.now _ (omega (arith, c.in-empty.len_below)))

pub returns-in-len1-up : goal.returns-in-len1-up
returns-in-len1-up c = rw (c.byte.ensures, c.type_in.ensures)

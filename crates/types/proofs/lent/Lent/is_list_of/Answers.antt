-- `is_list_of` meets its contract. Assumes nothing.
use mathlib.Core.Path.{◌∙◌}
use native.Mathlib.Omega.{arith}
use Rattle.types.specs.SlotsLaws.{same_none, same_other, same_front}
use Rattle.types.proofs.lent.Lent.is_list_of.Goals as goal

pub returns-in_default : goal.returns-in_default
returns-in_default c = same_none c.type_in.ensures _ _ (omega (arith, c.in_default.len_below))

pub returns-then-first-byte : goal.returns-then-first-byte
returns-then-first-byte c = same_other c.type_in.ensures _ _ (omega (arith, c.byte.ensures, c.if-first-byte.true))

pub returns : goal.returns
returns c =
    c.same.ensures ∙ same_front c.type_in.ensures _ c.type_in-2.ensures (omega (arith, c.in-len1-up.len_at_least))
    (c.if-first-byte.false ∙ c.byte.ensures)

-- `is_pair_of` meets its contract. Assumes nothing.
use mathlib.Core.Path.{sym, ◌∙◌}
use native.Mathlib.Omega.{arith}
use Rattle.types.specs.SlotsLaws.{same_short, same_other, same_not_first, same_two}
use Rattle.types.proofs.lent.Lent.is_pair_of.Goals as goal

pub returns-then-pair-first : goal.returns-then-pair-first
returns-then-pair-first c = same_short c.type_in-pair.ensures c.type_in-first.ensures _ _ c.if-pair-first.true

pub returns-then-pair-byte : goal.returns-then-pair-byte
returns-then-pair-byte c = same_other c.type_in-pair.ensures _ _ (omega (arith, c.byte.ensures, c.if-pair-byte.true))

pub returns-then-not-same : goal.returns-then-not-same
returns-then-not-same c = same_not_first c.type_in-pair.ensures c.type_in-first.ensures _ c.if-pair-first.false (c.if-pair-byte.false ∙ c.byte.ensures) _
    (sym c.same.ensures ∙ c.if-not-same.true)

pub returns : goal.returns
returns c = c.same-2.ensures ∙ same_two c.type_in-pair.ensures c.type_in-first.ensures _ c.if-pair-first.false (c.if-pair-byte.false ∙ c.byte.ensures)
    c.type_in.ensures
    (sym c.same.ensures ∙ c.if-not-same.false)

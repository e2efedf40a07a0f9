-- `both_plain` meets its contract. Assumes nothing.
use mathlib.Core.Path.{◌∙◌}
use Rattle.printing.specs.Flat.{flat_in, both_yes, both_no}
use Rattle.printing.proofs.plain.both_plain.Goals as goal

pub returns-then-is_plain : goal.returns-then-is_plain
returns-then-is_plain c =
    both_yes (flat_in c.args.plain.now) _ _ c.is_plain.ensures c.if-is_plain.true c.is_plain-then-is_plain.ensures

pub returns-else-is_plain : goal.returns-else-is_plain
returns-else-is_plain c = c.if-is_plain.false ∙ both_no (flat_in c.args.plain.now) _ _ c.is_plain.ensures c.if-is_plain.false

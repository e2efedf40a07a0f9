-- `is_lent` meets its contract. Assumes nothing.
use Rattle.types.specs.SlotsLaws.{lent_plan, lent_section, lent_node}
use Rattle.types.proofs.lent.is_lent.Goals as goal

pub returns-then-slot-lt-SECTIONS : goal.returns-then-slot-lt-SECTIONS
returns-then-slot-lt-SECTIONS c = lent_plan _ _ _ _ c.requires.0 c.requires.1 c.if-slot-lt-SECTIONS.true

pub returns-then-slot-lt-VIEW : goal.returns-then-slot-lt-VIEW
returns-then-slot-lt-VIEW c = lent_section _ _ _ _ c.requires.0 c.requires.1 c.if-slot-lt-SECTIONS.false c.if-slot-lt-VIEW.true

pub returns : goal.returns
returns c = lent_node _ _ _ _ c.requires.0 c.requires.1 c.if-slot-lt-VIEW.false

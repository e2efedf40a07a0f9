-- `join_line` meets its contract: a field is cut, or what was made. Assumes nothing.
use mathlib.Core.Path.{refl, ◌∙◌}
use mathlib.Core.Bool.{false}
use Rattle.report.specs.Writing.{wrote_text}
use Rattle.letters.specs.Making.{made_is}
use Rattle.letters.specs.SheetLaws.{join_cut, join_whole}
use Rattle.letters.proofs.sheets.join_line.Goals as goal

pub returns-then-input-first : goal.returns-then-input-first
returns-then-input-first c =
    wrote_text c.refusal.ensures (join_cut _ c.number_at-first.ensures.0 c.if-input-first.true)

pub returns : goal.returns
returns c =
    wrote_text c.made_line.ensures (made_is false c.join-made.ensures
    ∙ join_whole _ c.number_at-first.ensures.0 c.if-input-first.false c.part_at.ensures c.rest_from.ensures refl)

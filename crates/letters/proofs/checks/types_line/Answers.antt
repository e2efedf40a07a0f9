-- `types_line` meets its contract: a field is cut, or a case of what the check answers. Assumes nothing.
use mathlib.Core.Path.{◌≡◌, ◌∙◌}
use Rattle.report.specs.Writing.{wrote_text}
use Rattle.typing.specs.Check.{check}
use Rattle.letters.specs.Checks.{judged_line, types_line, checked_passes, checked_refused, checked_at, types_cut, types_whole, passes_text}
use Rattle.letters.proofs.checks.types_line.Goals as goal
use Rattle.letters.proofs.checks.types_line.Goals.{After-check-answer}

-- the line is that of what the check answered
line-is : (c : After-check-answer) → judged_line (check c.part_at.result.now c.rest_from.result.now) ≡ types_line c.args.input.now
line-is c = types_whole _ c.number_at-sheet.ensures.0 c.if-input-sheet.false c.part_at.ensures c.rest_from.ensures

pub returns-then-input-sheet : goal.returns-then-input-sheet
returns-then-input-sheet c =
    wrote_text c.refusal.ensures (types_cut _ c.number_at-sheet.ensures.0 c.if-input-sheet.true)

pub returns-in-Ok : goal.returns-in-Ok
returns-in-Ok c =
    wrote_text c.bytes.ensures (passes_text ∙ checked_passes c.in-Ok.ensures ∙ line-is (goal.at.returns-in-Ok c).After-check-answer)

pub returns-in-None : goal.returns-in-None
returns-in-None c =
    wrote_text c.refused.ensures
    (checked_refused (rw c.in-None.is at c.in-Err.ensures) ∙ line-is (goal.at.returns-in-None c).After-check-answer)

pub returns-in-Some : goal.returns-in-Some
returns-in-Some c =
    wrote_text (rw c.number.ensures at c.node_line.ensures)
    (checked_at (rw c.in-Some.is at c.in-Err.ensures) ∙ line-is (goal.at.returns-in-Some c).After-check-answer)

-- `verdict_line` meets its contract, case by case. Assumes nothing.
use Rattle.std.proofs.Common.{ap, ◌∙◌}
use Rattle.value.specs.Result.{ok}
use Rattle.value.specs.Numbered.{numbered}
use Rattle.report.specs.Writing.{wrote_text}
use Rattle.walking.specs.CheckLaws.{verdict_yes, verdict_no, verdict_refused}
use Rattle.walking.proofs.checks.verdict_line.Goals as goal

pub returns-then-stands : goal.returns-then-stands
returns-then-stands c = wrote_text c.bytes.ensures (verdict_yes (ap numbered c.in-Ok.is ∙ ap ok c.if-stands.true))

pub returns-else-stands : goal.returns-else-stands
returns-else-stands c = wrote_text c.bytes-in-Ok.ensures (verdict_no (ap numbered c.in-Ok.is ∙ ap ok c.if-stands.false))

pub returns-in-Err : goal.returns-in-Err
returns-in-Err c =
    wrote_text (rw (c.from.ensures, c.number.ensures) at c.refusal.ensures) (verdict_refused (ap numbered c.in-Err.is))

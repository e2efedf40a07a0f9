-- `growth_line` meets its contract: a field is cut, or a case of what is reported. Assumes nothing.
use mathlib.Core.Path.{◌∙◌}
use Rattle.report.specs.Writing.{wrote_text}
use Rattle.letters.specs.Growths.{growth_cut, growth_times, growth_refused}
use Rattle.letters.proofs.growths.growth_line.Goals as goal

pub returns-then-input-lt2 : goal.returns-then-input-lt2
returns-then-input-lt2 c =
    wrote_text c.refusal.ensures (growth_cut _ c.if-input-lt2.true)

pub returns-in-Ok : goal.returns-in-Ok
returns-in-Ok c =
    wrote_text (rw c.from.ensures at c.line.ensures)
    (growth_times _ c.if-input-lt2.false (c.from-variable.ensures ∙ c.byte_at.ensures) c.rest_from.ensures c.in-Ok.ensures)

pub returns-in-Err : goal.returns-in-Err
returns-in-Err c =
    wrote_text c.refused.ensures
    (growth_refused _ c.if-input-lt2.false (c.from-variable.ensures ∙ c.byte_at.ensures) c.rest_from.ensures c.in-Err.ensures)

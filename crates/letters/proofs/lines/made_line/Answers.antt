-- `made_line` meets its contract: each return is a case of what was made. Assumes nothing.
use mathlib.Core.Path.{refl, ap, ◌∙◌}
use mathlib.Core.Bool.{false}
use mathlib.Core.List.{[], ◌∷◌}
use Rattle.report.specs.Text.{hex_of, ok_line}
use Rattle.report.specs.Writing.{wrote_text}
use Rattle.letters.specs.Making.{made_hex, made_refused}
use Rattle.letters.proofs.lines.made_line.Goals as goal

pub returns-in-Ok : goal.returns-in-Ok
returns-in-Ok c =
    wrote_text c.line.ensures (ap (λ bs. ok_line (hex_of bs ∷ [])) c.part_at-bytes.ensures ∙ made_hex _ c.in-Ok.is refl)

pub returns-in-Err : goal.returns-in-Err
returns-in-Err c = wrote_text c.refused.ensures (made_refused _ false c.in-Err.is)

-- `text_line` meets its contract: the text as it stands, or a refusal. Assumes nothing.
use mathlib.Core.Path.{refl, ap, ◌∙◌}
use mathlib.Core.Bool.{true}
use mathlib.Core.List.{[], ◌∷◌}
use Rattle.report.specs.Text.{ok_line}
use Rattle.report.specs.Writing.{wrote_text}
use Rattle.letters.specs.Making.{made_is, made_plain, made_refused}
use Rattle.letters.specs.Texts.{text_whole}
use Rattle.letters.proofs.texts.text_line.Goals as goal

pub returns-in-Ok : goal.returns-in-Ok
returns-in-Ok c =
    wrote_text c.line.ensures
    (ap (λ bs. ok_line (bs ∷ [])) c.part_at-bytes.ensures ∙ made_plain _ c.in-Ok.is refl ∙ made_is true c.write.ensures
    ∙ text_whole _ c.rest_from.ensures refl)

pub returns-in-Err : goal.returns-in-Err
returns-in-Err c =
    wrote_text c.refused.ensures (made_refused _ true c.in-Err.is ∙ made_is true c.write.ensures ∙ text_whole _ c.rest_from.ensures refl)

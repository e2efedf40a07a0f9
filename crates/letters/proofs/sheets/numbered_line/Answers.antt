-- `numbered_line` meets its contract: each return is a case of the reply. Assumes nothing.
use mathlib.Core.Path.{ap, ◌∙◌}
use mathlib.Core.List.{[], ◌∷◌}
use Rattle.report.specs.Text.{hex_of, ok_line}
use Rattle.report.specs.Writing.{wrote_text}
use Rattle.std.specs.Prelude.{Err}
use Rattle.numbering.specs.declared.Fault.{Fault}
use Rattle.numbering.specs.Replies.{told}
use Rattle.letters.specs.SheetLaws.{number_done, number_refused, number_twice}
use Rattle.letters.proofs.sheets.numbered_line.Goals as goal

pub returns-in-Ok : goal.returns-in-Ok
returns-in-Ok c =
    wrote_text c.line.ensures (ap (λ bs. ok_line (hex_of bs ∷ [])) c.part_at-bytes.ensures ∙ number_done _ (ap told c.in-Ok.is))

pub returns-in-Refused : goal.returns-in-Refused
returns-in-Refused c =
    wrote_text c.refused.ensures (number_refused _ (ap told c.in-Err.is ∙ ap (λ (f : Fault). told (Err f)) c.in-Refused.is))

pub returns-in-Twice : goal.returns-in-Twice
returns-in-Twice c =
    wrote_text (rw c.number.ensures at c.node_line.ensures)
    (number_twice _ (ap told c.in-Err.is ∙ ap (λ (f : Fault). told (Err f)) c.in-Twice.is))

-- `read_line` meets its contract: each return is a case of the reply. Assumes nothing.
use mathlib.Core.Path.{◌≡◌, refl, ap, ◌∙◌}
use mathlib.Core.List.{[], ◌∷◌}
use native.Mathlib.Omega.{arith}
use Rattle.report.specs.Text.{hex_of, ok_line}
use Rattle.report.specs.Writing.{wrote_text}
use Rattle.parsing.specs.Small.{sheet_inside}
use Rattle.letters.specs.LookupLaws.{fits_refusal}
use Rattle.letters.specs.SheetTexts.{read_line}
use Rattle.letters.specs.SheetTextLaws.{read_reply, read_is, read_done, read_refused, read_fault, done_fits, fits_as}
use Rattle.letters.proofs.sheet_texts.read_line.Goals as goal
use Rattle.letters.proofs.sheet_texts.read_line.Goals.{After-read}

-- the line is that of what was replied
line-is : (c : After-read) → read_reply c.read.result c.read.new.out ≡ read_line c.args.input.now
line-is c = read_is _ c.rest_from.ensures refl _ (c.read.ensures.value, c.read.ensures.out_after)

pub returns-in-Done : goal.returns-in-Done
returns-in-Done c =
    let is = read_done _ c.in-Done.is ∙ line-is (goal.at.returns-in-Done c).After-read in
    record {
      wrote = wrote_text c.line.ensures (ap (λ bs. ok_line (hex_of bs ∷ [])) c.part_at.ensures ∙ is);
      input_len_bound = fits_as is (done_fits _ _ (sheet_inside _ _ c.read.ensures.value c.in-Done.is));
    }

pub returns-in-Refused : goal.returns-in-Refused
returns-in-Refused c =
    let is = read_refused c.read.new.out c.in-Refused.is ∙ line-is (goal.at.returns-in-Refused c).After-read in
    record { wrote = wrote_text (rw c.from.ensures at c.refusal.ensures) is; input_len_bound = fits_as is (fits_refusal _ (omega arith)) }

pub returns-in-At : goal.returns-in-At
returns-in-At c =
    let is = read_fault c.read.new.out c.in-At.is ∙ line-is (goal.at.returns-in-At c).After-read in record {
      wrote = wrote_text c.fault_line.ensures.wrote is;
      input_len_bound = fits_as is c.fault_line.ensures.detail_len_bound;
    }

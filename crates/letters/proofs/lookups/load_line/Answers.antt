-- `load_line` meets its contract: each return is a case of the definition. Assumes nothing.
use mathlib.Core.List.{map}
use mathlib.Core.Path.{◌≡◌, ◌∙◌}
use Rattle.report.specs.Text.{decimal_of}
use Rattle.words.proofs.Starts.{kept}
use Rattle.report.proofs.TextLaws.{wrote_ok}
use Rattle.report.specs.Writing.{wrote_text}
use Rattle.starts.specs.Starts.{load_of}
use Rattle.letters.specs.Lookups.{loaded_line, load_line}
use Rattle.starts.proofs.StartsLaws.{load_few}
use Rattle.letters.specs.LookupLaws.{load_cut, load_whole, loaded_refused, loaded_kept}
use Rattle.letters.proofs.lookups.load_line.Goals as goal
use Rattle.letters.proofs.lookups.load_line.Goals.{After-load-loaded}

-- the line is that of what was loaded
line-is : (c : After-load-loaded) → loaded_line (load_of c.part_at.result.now c.rest_from.result.now) ≡ load_line c.args.input.now
line-is c = load_whole _ c.number_at-sheet.ensures.0 c.if-input-sheet.false c.part_at.ensures c.rest_from.ensures

pub returns-then-input-sheet : goal.returns-then-input-sheet
returns-then-input-sheet c =
    wrote_text c.refusal.ensures (load_cut _ c.number_at-sheet.ensures.0 c.if-input-sheet.true)

pub returns-in-Ok : goal.returns-in-Ok
returns-in-Ok c =
    wrote_text
    (wrote_ok (map decimal_of (kept c.in-Ok.starts)) c.bytes-end.ensures c.start_words-end.ensures c.byte.ensures)
    (loaded_kept c.in-Ok.ensures (load_few _ _) ∙ line-is (goal.at.returns-in-Ok c).After-load-loaded)

pub returns-in-Err : goal.returns-in-Err
returns-in-Err c =
    wrote_text c.refused.ensures (loaded_refused c.in-Err.ensures ∙ line-is (goal.at.returns-in-Err c).After-load-loaded)

-- `pack_verdict` meets its contract, case by case. Assumes nothing.
use Rattle.telling.specs.Tools.{told_yes, told_no, told_refused}
use Rattle.telling.proofs.pack_verdict.Goals as goal

pub returns-in-Ok-true : goal.returns-in-Ok-true
returns-in-Ok-true c = rw (c.in-Ok-true.is, c.in-Ok-true.field-0-test) (told_yes c.pack_told.ensures)

pub returns-in-Ok-false : goal.returns-in-Ok-false
returns-in-Ok-false c = rw (c.in-Ok-false.is, c.in-Ok-false.field-0-test) (told_no c.pack_told-in-Ok-false.ensures)

pub returns-in-Err : goal.returns-in-Err
returns-in-Err c = rw c.in-Err.is (told_refused _ (rw c.number.ensures at c.pack_told-in-Err.ensures))

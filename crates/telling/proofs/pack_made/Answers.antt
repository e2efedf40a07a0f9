-- `pack_made` meets its contract, case by case. Assumes nothing.
use Rattle.telling.specs.Tools.{made_done, made_refused}
use Rattle.telling.proofs.pack_made.Goals as goal

pub returns-in-Ok : goal.returns-in-Ok
returns-in-Ok c = rw c.in-Ok.is (made_done _ c.low.ensures c.pack_told.ensures)

pub returns-in-Err : goal.returns-in-Err
returns-in-Err c = rw c.in-Err.is (made_refused _ (rw c.number.ensures at c.pack_told-in-Err.ensures))

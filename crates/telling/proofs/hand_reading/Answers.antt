-- `hand_reading` meets its contract, case by case. Assumes nothing.
use Rattle.telling.specs.Tools.{read_done, read_refused, read_fault}
use Rattle.telling.proofs.hand_reading.Goals as goal

pub returns-in-Done : goal.returns-in-Done
returns-in-Done c = rw c.in-Done.is (read_done _ _ c.low.ensures c.pack_told.ensures)

pub returns-in-Refused : goal.returns-in-Refused
returns-in-Refused c = rw c.in-Refused.is (read_refused _ _ c.pack_told-in-Refused.ensures)

pub returns-in-At : goal.returns-in-At
returns-in-At c = rw c.in-At.is (read_fault _ _ _ _ (rw c.from.ensures at c.pack_told-in-At.ensures))

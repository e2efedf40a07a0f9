-- `hand_found` meets its contract: a value that was not found, or one that was. Assumes nothing.
use Rattle.packing.specs.HandedOut.{found_at, found_none}
use Rattle.packing.proofs.handing.hand_found.Goals as goal

pub returns-in-Err : goal.returns-in-Err
returns-in-Err c = rw (c.in-Err.is, c.number.ensures) (found_none _ _ _)

pub returns-in-Ok : goal.returns-in-Ok
returns-in-Ok c = rw c.in-Ok.is (found_at _ _ _)

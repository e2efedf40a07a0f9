-- `after` meets its contract.
-- Assumes nothing.
use Rattle.walk.proofs.at.At.after.Goals as goal

pub returns : goal.returns
returns c = rw c.steps.ensures

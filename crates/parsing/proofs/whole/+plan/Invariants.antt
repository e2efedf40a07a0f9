-- `plan`, which calls itself, meets its contract.
-- Assumes nothing.
use Prim.Native.Nat.{◌-◌}
use Rattle.parsing.proofs.whole.+plan.Given as goal

abbrev pub decreases-plan : goal.decreases-plan
decreases-plan l = 16 - l.i

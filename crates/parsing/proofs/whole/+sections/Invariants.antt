-- `sections`, which calls itself, meets its contract.
-- Assumes nothing.
use Prim.Native.Nat.{◌-◌}
use Rattle.parsing.proofs.whole.+sections.Given as goal

abbrev pub decreases-sections : goal.decreases-sections
decreases-sections l = 8 - l.i

-- `gather` meets its contract. The invariant: the values of i variables are gathered, and `at` has their starts.
-- Assumes nothing.
use Prim.Native.Nat.{◌≤◌}
use Rattle.walk.specs.Call.Gather.{Gathered}
use Rattle.walk.proofs.gather.Given as goal

abbrev pub invariant-loop-i : goal.invariant-loop-i
invariant-loop-i l = (l.i ≤ l.scope.count) × Gathered l.i l.slots l.scope l.initial.arena l.arena l.len l.at

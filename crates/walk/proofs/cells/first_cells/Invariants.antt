-- `first_cells` meets its contract. The invariant: i cells are counted.
-- Assumes nothing.
use Prim.Native.Nat.{◌≤◌}
use Rattle.walk.specs.Call.Gather.{Counted}
use Rattle.walk.proofs.cells.first_cells.Given as goal

abbrev pub invariant-loop-i : goal.invariant-loop-i
invariant-loop-i l = (l.i ≤ l.k) × Counted l.i l.of

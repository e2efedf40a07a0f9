-- `sheet::nodes_in_range` meets its contract. Assumes nothing.
use Rattle.sheet.proofs.Numbers.{Nodes}
use Rattle.sheet.proofs.nodes_in_range.Given as goal

abbrev pub invariant-loop-i : goal.invariant-loop-i
invariant-loop-i l = Nodes l.s l.t l.i

-- `count` meets its contract. The invariant: the nodes from i on are counted. Assumes nothing.
use Rattle.growth.specs.Tool.{Counts}
use Rattle.growth.proofs.count.Given as goal

abbrev pub invariant-loop-i : goal.invariant-loop-i
invariant-loop-i l = Counts l.sheet l.table l.variable l.counts l.i

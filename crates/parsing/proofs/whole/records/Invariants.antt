-- `records` meets its contract: n records are written. Assumes nothing.
use Rattle.parsing.specs.Nodes.{Written}
use Rattle.parsing.proofs.whole.records.Given as goal

abbrev pub invariant-loop-n : goal.invariant-loop-n
invariant-loop-n l = Written l.slots l.count l.n l.at l.initial.out l.out l.end

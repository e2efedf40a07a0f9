-- `named` meets its contract. The invariant: the variables that the records so far name are marked. Assumes nothing.
use Rattle.accepts.specs.Marks.{Marking}
use Rattle.accepts.proofs.named.Given as goal

abbrev pub invariant-loop-at : goal.invariant-loop-at
invariant-loop-at l = Marking l.sheet l.fn.table l.marks l.at-index

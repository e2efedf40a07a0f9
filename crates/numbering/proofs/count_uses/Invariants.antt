-- `numbering::count_uses` meets its contract: the roots and the children of the first nodes are counted. Assumes nothing.
use Rattle.numbering.specs.Counting.{Fine, fine_read, Counted}
use Rattle.numbering.proofs.count_uses.Given as goal

abbrev pub invariant-loop-start : goal.invariant-loop-start
invariant-loop-start l = (f : Fine l.sheet l.fn.t) → Counted (fine_read f).0 l.start-index l.uses

-- `all_plain` meets its contract. The invariant: the nodes so far are of the kinds. Assumes nothing.
use Rattle.growth.specs.Tool.{Plains}
use Rattle.growth.proofs.all_plain.Given as goal

abbrev pub invariant-loop-start : goal.invariant-loop-start
invariant-loop-start l = Plains l.sheet l.fn.table l.start-index

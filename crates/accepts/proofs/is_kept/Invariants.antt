-- `is_kept` meets its contract. The invariant: the variables below x are spared. Assumes nothing.
use Rattle.accepts.specs.Kept.{Keeping}
use Rattle.accepts.proofs.is_kept.Given as goal

abbrev pub invariant-loop-x : goal.invariant-loop-x
invariant-loop-x l = Keeping l.sheet l.fn.table l.old l.before l.new l.after l.x

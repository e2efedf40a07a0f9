-- `is_proper` meets its contract. The invariant: so many of the numbers are judged. Assumes nothing.
use Rattle.starts.proofs.Lookup.{Judged}
use Rattle.starts.proofs.is_proper.Given as goal

abbrev pub invariant-loop-start : goal.invariant-loop-start
invariant-loop-start l = Judged l.fn.starts l.len l.low l.start-index

-- `value::read_plan` meets its contract. The loop's invariant is `Progress`: the values read so far and how the reading goes on.
-- Assumes nothing.
use Rattle.value.proofs.Progress.{Progress}
use Rattle.value.proofs.read_plan.Given as goal

abbrev pub invariant-loop-i : goal.invariant-loop-i
invariant-loop-i l = Progress l.k l.s l.starts l.lens l.at l.i

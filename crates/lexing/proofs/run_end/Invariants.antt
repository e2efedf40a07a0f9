-- `run_end` meets its contract: all bytes so far are of the run. Assumes nothing.
use Rattle.lexing.specs.Lexing.{Run, in_run}
use Rattle.lexing.proofs.run_end.Given as goal

abbrev pub invariant-loop-at : goal.invariant-loop-at
invariant-loop-at l = Run (in_run l.run) l.text l.from l.at

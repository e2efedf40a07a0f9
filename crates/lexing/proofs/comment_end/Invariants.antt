-- `comment_end` meets its contract: no line ended so far. Assumes nothing.
use Rattle.lexing.specs.Lexing.{Commented}
use Rattle.lexing.proofs.comment_end.Given as goal

abbrev pub invariant-loop-at : goal.invariant-loop-at
invariant-loop-at l = Commented l.text l.from l.at

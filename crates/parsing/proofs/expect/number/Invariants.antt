-- `number` meets its contract: v is the value of the digits so far. Assumes nothing.
use Rattle.parsing.specs.Expect.{Counted}
use Rattle.parsing.proofs.expect.number.Given as goal

abbrev pub invariant-loop-i : goal.invariant-loop-i
invariant-loop-i l = Counted l.text l.from l.end l.most l.i l.v

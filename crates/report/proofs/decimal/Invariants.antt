-- `decimal` meets its contract: the digits behind place i are those of the number behind m, which has room up to i. Assumes nothing.
use Rattle.report.proofs.Digits.{Set}
use Rattle.report.proofs.decimal.Given as goal

abbrev pub invariant-loop-m : goal.invariant-loop-m
invariant-loop-m l = Set l.n l.digits l.m l.i

abbrev pub decreases-loop-m : goal.decreases-loop-m
decreases-loop-m l = l.m

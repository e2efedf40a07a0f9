-- `judged` meets its contract: a return for each case of the verdict. Assumes nothing.
use native.Mathlib.Omega.{arith}
use mathlib.Core.Path.{ap}
use Rattle.std.proofs.lemmas.List.{take_min}
use Rattle.calls.specs.Reply.{told}
use Rattle.together.specs.RoundTrips.{verdict_refused, verdict_more, verdict_same, verdict_other}
use Rattle.together.proofs.second.judged.Goals as goal

pub returns-then-most-steps : goal.returns-then-most-steps
returns-then-most-steps c = verdict_more _ _ _ _ _ (ap told c.in-Ok.is) c.if-most-steps.true

pub returns-then-same : goal.returns-then-same
returns-then-same c =
    verdict_same _ _ _ _ _ (ap told c.in-Ok.is) (omega (arith, c.if-most-steps.false)) (rw (c.min.ensures, take_min) at c.same.ensures) c.if-same.true

pub returns-in-Err : goal.returns-in-Err
returns-in-Err c = verdict_refused _ _ _ _ _ (ap told c.in-Err.is)

pub returns-else-same : goal.returns-else-same
returns-else-same c =
    verdict_other _ _ _ _ _ (ap told c.in-Ok.is) (omega (arith, c.if-most-steps.false)) (rw (c.min.ensures, take_min) at c.same.ensures) c.if-same.false

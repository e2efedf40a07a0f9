-- `returned` meets its contract: a return for each case of the last reply. Assumes nothing.
use mathlib.Core.Path.{ap}
use Rattle.std.proofs.lemmas.List.{take_min}
use Rattle.calls.specs.Reply.{told}
use Rattle.together.specs.Undone.{replied_refused, replied_other, replied_same, replied_unlike}
use Rattle.together.proofs.last.returned.Goals as goal

pub returns-then-steps-first : goal.returns-then-steps-first
returns-then-steps-first c = replied_other _ _ _ _ (ap told c.in-Ok.is) c.if-steps-first.true

pub returns-then-same : goal.returns-then-same
returns-then-same c =
    replied_same _ _ _ _ (ap told c.in-Ok.is) c.if-steps-first.false (rw (c.min.ensures, take_min) at c.same.ensures) c.if-same.true

pub returns-in-Err : goal.returns-in-Err
returns-in-Err c = replied_refused _ _ _ _ (ap told c.in-Err.is)

pub returns-else-same : goal.returns-else-same
returns-else-same c =
    replied_unlike _ _ _ _ (ap told c.in-Ok.is) c.if-steps-first.false (rw (c.min.ensures, take_min) at c.same.ensures) c.if-same.false

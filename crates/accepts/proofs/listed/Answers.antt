-- `listed` meets its contract: a walk that refused, or one that is done. Assumes nothing.
use mathlib.Core.Path.{refl}
use Rattle.value.proofs.Numbered.{passed_on}
use Rattle.accepts.specs.Calls.{listed_of, listed_done}
use Rattle.accepts.proofs.listed.Goals as goal

pub returns-in_err-len : goal.returns-in_err-len
unfolding listed_of
returns-in_err-len c = rw (passed_on c.from_residual.result c.from_residual.ensures.1, c.in_err-len.was) refl

pub returns : goal.returns
returns c = rw c.in_ok-len.was (listed_done _ _ _ _ c.same.ensures)

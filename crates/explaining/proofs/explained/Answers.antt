-- `explained` meets its contract: a walk that is done, or one that refused. Assumes nothing.
use mathlib.Core.Path.{◌∙◌}
use Rattle.explaining.specs.Explain.{why_reply}
use Rattle.explaining.specs.Explain.Calls.{told_done, told_refused}
use Rattle.explaining.proofs.explained.Goals as goal

pub returns-in-Ok : goal.returns-in-Ok
unfolding why_reply
returns-in-Ok c = told_done _ _ c.in-Ok.is

pub returns-in-Err : goal.returns-in-Err
returns-in-Err c = c.refused.ensures ∙ told_refused _ _ c.in-Err.is

-- `answered` meets its contract: a walk that is done, or one that refused. Assumes nothing.
use mathlib.Core.Path.{sym, ap, ◌∙◌}
use Rattle.buffers.specs.Buffers.{cleared_whole}
use Rattle.calls.specs.Output.{kept_refused, copied_done}
use Rattle.calls.specs.Reply.{told}
use Rattle.calls.proofs.answered.Goals as goal

pub returns-in-Err : goal.returns-in-Err
returns-in-Err c =
    let r = c.refused.ensures in
    let e = c.in-Err.is in
    (r.0 ∙ sym e, kept_refused (ap told e) _ _, cleared_whole _ r.1 c.requires.in_bounds)

pub returns-in-Ok : goal.returns-in-Ok
returns-in-Ok c =
    let r = c.given.ensures in
    let e = c.in-Ok.is in
    (r.0 ∙ sym e, r.1 ∙ copied_done (ap told e) _ _, r.2)

-- `reply_line` meets its contract: a case for each case of the reply. Assumes nothing.
use Rattle.std.proofs.Common.{ap, sym, length-take-le}
use Rattle.calls.specs.CallLaws.{within-done}
use Rattle.calls.specs.Reply.{told}
use Rattle.report.specs.Writing.{wrote_text}
use Rattle.job.specs.LineLaws.{line_refused, line_done}
use Rattle.job.proofs.reply_line.Goals as goal

pub slice_bounds-success-end : goal.slice_bounds-success-end
slice_bounds-success-end c = sym (length-take-le _ _ (within-done c.args.out.now c.requires (ap told c.in-Ok.is)))

pub returns-in-Err : goal.returns-in-Err
returns-in-Err c =
    wrote_text (rw (c.from.ensures, c.number.ensures) at c.refusal.ensures) (line_refused c.args.out.now (ap told c.in-Err.is))

pub returns-in-Ok : goal.returns-in-Ok
returns-in-Ok c =
    wrote_text c.success.ensures (line_done c.args.out.now (ap told c.in-Ok.is))

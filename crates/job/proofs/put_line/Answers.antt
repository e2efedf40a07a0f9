-- `put_line` meets its contract: the reply is the answer's, and the line is the reply's. Assumes nothing.
use native.Mathlib.Omega.{arith}
use Rattle.calls.specs.CallLaws.{reply_within}
use Rattle.job.specs.LineLaws.{said_put}
use Rattle.job.proofs.put_line.Goals as goal

pub reply_line-requires : goal.reply_line-requires
reply_line-requires c = reply_within c.in-Ok.ensures.put_answered.call

pub returns-in-Ok : goal.returns-in-Ok
returns-in-Ok c =
    said_put (omega arith) (omega arith) (omega arith) c.args.sheet.now c.args.plan.now c.args.allowance c.args.view.now
    c.in-Ok.ensures.put_answered.call c.reply_line.ensures

pub returns-in-Err : goal.returns-in-Err
returns-in-Err c =
    said_put (omega arith) (omega arith) (omega arith) c.args.sheet.now c.args.plan.now c.args.allowance c.args.view.now
    c.in-Err.ensures.put_answered.call c.reply_line-in-Err.ensures

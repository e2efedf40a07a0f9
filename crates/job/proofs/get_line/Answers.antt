-- `get_line` meets its contract: the reply is the answer's, and the line is the reply's. Assumes nothing.
use native.Mathlib.Omega.{arith}
use Rattle.calls.specs.CallLaws.{reply_within}
use Rattle.job.specs.LineLaws.{said_get}
use Rattle.job.proofs.get_line.Goals as goal

pub reply_line-requires : goal.reply_line-requires
reply_line-requires c = reply_within c.get-reply.ensures.answered

pub returns : goal.returns
returns c =
    said_get (omega arith) (omega arith) (omega arith) c.args.sheet.now c.args.plan.now c.args.allowance
    c.get-reply.ensures.answered c.reply_line.ensures

-- `put_line` meets its contract: what is no put, and a put with the line of its reply. Assumes nothing.
use native.Mathlib.Omega.{arith}
use Rattle.calls.specs.CallLaws.{reply_within}
use Rattle.walking.specs.PutLaws.{said, ended_as, put_cut, put_whole, ended_put}
use Rattle.calls.specs.StartsLaws.{put_few}
use Rattle.walking.proofs.puts.put_line.Goals as goal

pub returns-in_default : goal.returns-in_default
returns-in_default c =
    ended_as (put_cut _ _ c.take_fields.ensures c.in_default.is) (said c.refusal.ensures)

pub reply_line-requires : goal.reply_line-requires
reply_line-requires c = let w = c.put-put.ensures.put_answered in (reply_within w.call, put_few w)

pub returns : goal.returns
returns c =
    ended_as
    (put_whole _ _ c.take_fields.ensures c.in-Some.is c.sheet_of.ensures c.plan_of.ensures
    c.view_of.ensures (omega (arith, c.put-arg-1.given)) (omega (arith, c.put-arg-2-1.given)))
    (ended_put _ c.put-put.ensures.put_answered c.reply_line.ensures)

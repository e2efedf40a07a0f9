-- `why_put` meets its contract: refused at the door, or explained behind it by the walk. Assumes nothing.
use lib.ListN.{length}
use Rattle.rules.specs.Laws.Answers.{DoorOpens}
use Rattle.buffers.specs.Buffers.{cleared_whole}
use Rattle.calls.specs.CallLaws.{refused_shut, lent_else}
use Rattle.explaining.proofs.Calls.{put_shut, why_long, put_explained}
use Rattle.explaining.proofs.why_put.Goals as goal
use Rattle.explaining.proofs.why_put.Goals.{In_default}

-- what is lent behind the door
lent : (c : In_default) → DoorOpens 0 0 (length c.args.scratch.now) c.args.allowance
lent c = lent_else _ c.side_door.ensures c.in_default.not-Err

pub returns-in-Err : goal.returns-in-Err
returns-in-Err c = let s = refused_shut _ _ _ _ _ c.in-Err.ensures in put_shut _ _ s.0 s.1 c.unmet.ensures _ _ _

pub explained-why-requires : goal.explained-why-requires
explained-why-requires c =
    let p = c.put-put.ensures in
    (p.explains.few, why_long (lent (goal.at.explained-why-requires c).In_default) p.walk_call)

pub returns : goal.returns
returns c =
    let l = lent (goal.at.returns c).In_default in
    let p = c.put-put.ensures in
    put_explained l p.walk_call c.explained-why.ensures (cleared_whole _ c.clear.ensures (why_long l p.walk_call)) _ _ _ p.explains

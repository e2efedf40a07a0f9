-- `accepts` meets its contract: refused at the door, or judged behind it. Assumes nothing.
use native.Mathlib.Omega.{arith}
use lib.ListN.{length}
use Rattle.value.proofs.Numbered.{passed_on}
use Rattle.rules.specs.Laws.Answers.{DoorOpens}
use Rattle.buffers.specs.Buffers.{cleared_whole}
use Rattle.arena.specs.Door.{door_opens}
use Rattle.calls.specs.CallLaws.{refused_shut}
use Rattle.accepts.specs.Calls.{shut_told}
use Rattle.accepts.proofs.Behind.{behind}
use Rattle.accepts.proofs.accepts.Goals as goal
use Rattle.accepts.proofs.accepts.Goals.{In_ok-side_door}

-- what is lent behind the door
lent : (c : In_ok-side_door) → DoorOpens 0 0 (length c.args.scratch.now) c.args.allowance
lent c = door_opens c.in_ok-side_door.ensures

pub returns-in_err-side_door : goal.returns-in_err-side_door
returns-in_err-side_door c =
    let d = refused_shut _ _ _ _ _ c.in_err-side_door.ensures in
    rw (passed_on c.from_residual.result c.from_residual.ensures.1)
    (shut_told c.args.sheet.now c.args.old.now c.args.view.now c.args.new.now c.args.allowance c.args.scratch.now d.0 d.1)

pub judged-verdict-requires : goal.judged-verdict-requires
judged-verdict-requires c = lent (goal.at.judged-verdict-requires c).In_ok-side_door

pub returns : goal.returns
returns c =
    let l = lent (goal.at.returns c).In_ok-side_door in
    behind c.args.sheet.now c.args.old.now c.args.view.now c.args.new.now c.args.allowance c.args.scratch.now l
    c.judged-verdict.ensures.value c.judged-verdict.ensures.free
    (cleared_whole _ c.clear.ensures (omega (arith, l.scratch_long, c.judged-verdict.ensures.free.long)))

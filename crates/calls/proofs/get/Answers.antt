-- `get` meets its contract: refused at the door, or answered behind it by the walk. Assumes nothing.
use mathlib.Core.Path.{ap}
use lib.ListN.{length}
use Rattle.value.proofs.Numbered.{passed_on}
use Rattle.rules.specs.Numbers.{get_output}
use Rattle.rules.specs.Laws.Answers.{DoorOpens}
use Rattle.arena.specs.Door.{door_opens}
use Rattle.calls.specs.CallLaws.{refused_shut}
use Rattle.calls.specs.Reply.{told}
use Rattle.calls.specs.Trips.{with_acceptable}
use Rattle.calls.specs.WalkCalls.{get_behind, call_shut, call_fits, call_told}
use Rattle.calls.proofs.get.Goals as goal
use Rattle.calls.proofs.get.Goals.{In_ok-door}

-- what is lent behind the door
lent : (c : In_ok-door) → DoorOpens get_output (length c.args.out.now) (length c.args.scratch.now) c.args.allowance
lent c = door_opens c.in_ok-door.ensures

pub returns-in_err-door : goal.returns-in_err-door
returns-in_err-door c =
    let s = refused_shut _ _ _ _ _ c.in_err-door.ensures in
    let (p0, p1) = with_acceptable _ _ _ _ _ (call_shut (get_behind _ _ _ _ _) s.0 s.1) in
    rw (passed_on c.from_residual.result c.from_residual.ensures.1) (record { answered = p0; acceptable = p1 })

pub answered-requires : goal.answered-requires
answered-requires c =
    let p = call_fits (get_behind c.args.sheet.now c.args.plan.now c.args.allowance c.args.out.now c.args.scratch.now)
    (lent (goal.at.answered-requires c).In_ok-door) c.get-got.ensures.walk_call in
    record { in_bounds = p.0; has_room = p.1 }

pub returns : goal.returns
returns c =
    let t = c.answered.ensures in
    let (p0, p1) = with_acceptable _ _ _ _ _ (call_told (get_behind _ _ _ _ _) (lent (goal.at.returns c).In_ok-door) c.get-got.ensures.walk_call (ap told t.0)
    t.1 t.2) in record { answered = p0; acceptable = p1 }

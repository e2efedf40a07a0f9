-- `put` meets its contract: refused at the door, or answered behind it by the walk. Assumes nothing.
use mathlib.Core.Path.{ap, ◌∙◌}
use lib.ListN.{length}
use Rattle.value.proofs.Numbered.{passed_on}
use Rattle.rules.specs.Numbers.{put_output}
use Rattle.rules.specs.Laws.Answers.{DoorOpens}
use Rattle.arena.specs.Door.{door_opens}
use Rattle.calls.specs.CallLaws.{refused_shut}
use Rattle.calls.specs.Reply.{told}
use Rattle.calls.specs.Trips.{with_consistent}
use Rattle.calls.specs.WalkCalls.{put_behind, none_refused, clear_refused, call_shut, call_fits, call_told, call_starts, call_written}
use Rattle.calls.proofs.put.Goals as goal
use Rattle.calls.proofs.put.Goals.{In_ok-door}

-- what is lent behind the door
lent : (c : In_ok-door) → DoorOpens put_output (length c.args.out.now) (length c.args.scratch.now) c.args.allowance
lent c = door_opens c.in_ok-door.ensures

pub returns-in_err-door : goal.returns-in_err-door
returns-in_err-door c =
    let d = refused_shut _ _ _ _ _ c.in_err-door.ensures in
    let s = call_shut (put_behind _ _ _ _ _ _) d.0 d.1 in
    let (p0, p1) = with_consistent _ _ _ _ _ _ s (none_refused _ _ s.answer) (clear_refused _ _ _ _ _ s.answer) in
    rw (passed_on c.from_residual.result c.from_residual.ensures.1) (record { put_answered = p0; consistent = p1 })

pub answered-requires : goal.answered-requires
answered-requires c =
    let p = call_fits (put_behind c.args.sheet.now c.args.plan.now c.args.view.now c.args.allowance c.args.out.now c.args.scratch.now)
    (lent (goal.at.answered-requires c).In_ok-door) c.put-put.ensures.walk_call in
    record { in_bounds = p.0; has_room = p.1 }

pub returns-in_err-done : goal.returns-in_err-done
returns-in_err-done c =
    let t = c.in_err-done.ensures in
    let s = call_told (put_behind _ _ _ _ _ _) (lent (goal.at.returns-in_err-done c).In_ok-door) c.put-put.ensures.walk_call (ap told t.0) t.1 t.2 in
    let (p0, p1) = with_consistent _ _ _ _ _ _ s (none_refused _ _ s.answer) (clear_refused _ _ _ _ _ s.answer) in
    rw (passed_on c.from_residual-in_err-done.result c.from_residual-in_err-done.ensures.1) (record { put_answered = p0; consistent = p1 })

pub returns : goal.returns
returns c =
    let t = c.in_ok-done.ensures in
    let p = c.put-put.ensures in
    let l = lent (goal.at.returns c).In_ok-door in
    let b = put_behind _ _ _ _ _ _ in
    let (p0, p1) = with_consistent _ _ _ _ _ _ (call_told b l p.walk_call (ap told t.0) t.1 t.2)
    (p.starts_value ∙ call_starts b l p.walk_call _) (p.written_value ∙ call_written b l p.walk_call _ _ _ _) in
    record { put_answered = p0; consistent = p1 }

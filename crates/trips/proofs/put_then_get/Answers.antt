-- `put_then_get` meets its contract: a list put back is the list read out. Assumes nothing.
use mathlib.Core.Path.{refl}
use Rattle.calls.specs.CallLaws.{refused_shut, done_inside, lent_else}
use Rattle.trips.specs.TripCalls.{front_long, put_stopped, get_shut, get_judged}
use Rattle.trips.proofs.put_then_get.Goals as goal

pub returns-in-Err-door : goal.returns-in-Err-door
returns-in-Err-door c =
    let d = refused_shut _ _ _ _ _ c.in-Err-door.ensures in
    let (p0, p1) = get_shut _ _ _ _ _ _ _ c.in-Ok.ensures.put_answered.call c.put.auto.scratch refl d.0 d.1 in
    record { tripped = p0; list_stands = p1 }

pub slice_bounds-get-end : goal.slice_bounds-get-end
slice_bounds-get-end c = done_inside c.in-Ok.ensures.put_answered.call refl

pub slice_bounds-get-end-in-Ok : goal.slice_bounds-get-end-in-Ok
slice_bounds-get-end-in-Ok c = front_long _ _ (done_inside c.in-Ok.ensures.put_answered.call refl)

pub returns-in-Err : goal.returns-in-Err
returns-in-Err c =
    let (p0, p1) = put_stopped _ _ _ _ _ _ _ c.in-Err.ensures.put_answered.call refl in
    record { tripped = p0; list_stands = p1 }

pub returns-in_default : goal.returns-in_default
returns-in_default c =
    let l = lent_else _ c.door-door.ensures c.in_default.not-Err in
    let (p0, p1) = get_judged _ _ _ _ _ _ _ c.in-Ok.ensures.put_answered.call c.put.auto.scratch refl l c.get-again.ensures.answered c.judged.ensures in
    record { tripped = p0; list_stands = p1 }

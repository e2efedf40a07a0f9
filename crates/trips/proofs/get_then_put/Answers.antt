-- `get_then_put` meets its contract: an unedited list gives back the old plan. Assumes nothing.
use mathlib.Core.Path.{refl}
use native.Mathlib.Omega.{arith}
use Rattle.calls.specs.CallLaws.{refused_shut, done_inside, lent_else}
use Rattle.trips.specs.TripCalls.{front_long, get_few, get_stopped, put_shut, put_judged}
use Rattle.trips.proofs.get_then_put.Goals as goal

pub overflow_mul-most : goal.overflow_mul-most
overflow_mul-most c = omega (arith, get_few _ _ _ _ _ c.in-Ok.ensures.answered refl)

pub returns-in-Err-door : goal.returns-in-Err-door
returns-in-Err-door c =
    let d = refused_shut _ _ _ _ _ c.in-Err-door.ensures in
    let (p0, p1) = put_shut _ _ _ _ _ _ c.in-Ok.ensures.answered c.get.auto.scratch refl d.0 d.1 in
    record { tripped = p0; plan_stays = p1 }

pub slice_bounds-put-end : goal.slice_bounds-put-end
slice_bounds-put-end c = done_inside c.in-Ok.ensures.answered refl

pub slice_bounds-put-end-in-Ok : goal.slice_bounds-put-end-in-Ok
slice_bounds-put-end-in-Ok c = front_long _ _ (done_inside c.in-Ok.ensures.answered refl)

pub overflow_cast-most : goal.overflow_cast-most
overflow_cast-most c = omega (arith, get_few _ _ _ _ _ c.in-Ok.ensures.answered refl)

pub returns-in-Err : goal.returns-in-Err
returns-in-Err c = let (p0, p1) = get_stopped _ _ _ _ _ _ c.in-Err.ensures.answered refl in record { tripped = p0; plan_stays = p1 }

pub returns-in_default : goal.returns-in_default
returns-in_default c =
    let l = lent_else _ c.door-door.ensures c.in_default.not-Err in
    let v = rw c.reply_of.ensures at c.judged.ensures in
    let (p0, p1) = put_judged _ _ _ _ _ _ c.in-Ok.ensures.answered c.get.auto.scratch refl l c.put-again.ensures.put_answered.call v in
    record { tripped = p0; plan_stays = p1 }

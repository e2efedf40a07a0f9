-- `put_and_undo` meets its contract: an edit that is taken back gives the old plan. Assumes nothing.
use mathlib.Core.Path.{refl}
use Rattle.calls.specs.CallLaws.{done_inside}
use Rattle.trips.specs.TripCalls.{front_long}
use Rattle.trips.specs.UndoneCalls.{list_refused, edit_refused, last_judged}
use Rattle.trips.proofs.undone.put_and_undo.Goals as goal

-- the new plan that is lent to the last put, and the list
pub slice_bounds-put-end : goal.slice_bounds-put-end
slice_bounds-put-end c = done_inside c.in-Ok-put.ensures.put_answered.call refl

pub slice_bounds-put-end-in-Ok-put : goal.slice_bounds-put-end-in-Ok-put
slice_bounds-put-end-in-Ok-put c = front_long _ _ (done_inside c.in-Ok-put.ensures.put_answered.call refl)

pub slice_bounds-put-end-in-Ok-put-2 : goal.slice_bounds-put-end-in-Ok-put-2
slice_bounds-put-end-in-Ok-put-2 c = done_inside c.in-Ok.ensures.answered refl

pub slice_bounds-put-end-in-Ok-put-3 : goal.slice_bounds-put-end-in-Ok-put-3
slice_bounds-put-end-in-Ok-put-3 c = front_long _ _ (done_inside c.in-Ok.ensures.answered refl)

pub returns-in-Err : goal.returns-in-Err
returns-in-Err c =
    let (p0, p1) = list_refused _ _ _ _ _ _ _ _ _ c.in-Err.ensures.answered refl in
    record { three_calls = p0; takes_back = p1 }

pub returns-in-Err-put : goal.returns-in-Err-put
returns-in-Err-put c =
    let (p0, p1) = edit_refused _ _ _ _ _ _ _ _ _ c.in-Ok.ensures.answered c.get.auto.scratch refl c.in-Err-put.ensures.put_answered.call refl in
    record { three_calls = p0; takes_back = p1 }

pub returns-in-Ok-put : goal.returns-in-Ok-put
returns-in-Ok-put c =
    let v = rw c.reply_of.ensures at c.returned.ensures in
    let (p0, p1) = last_judged _ _ _ _ _ _ _ _ _ c.in-Ok.ensures.answered c.get.auto.scratch refl c.in-Ok-put.ensures.put_answered.call
    c.put.auto.scratch refl c.put-again.ensures.put_answered.call v in
    record { three_calls = p0; takes_back = p1 }

-- `get` meets its contract.
-- Assumes nothing.
use mathlib.Core.Path.{sym, ◌∙◌}
use native.Mathlib.Omega.{arith}
use lib.Seq.{length-take-le}
use Rattle.rules.specs.Numbers.{scratch_size}
use Rattle.walk.specs.Call.{call_done, get_barred, plan_values, all_read, planned}
use Rattle.walk.specs.Call.Explained.{unread_walked, unread_met, explains_whole}
use Rattle.walk.proofs.get.Goals as goal

pub slice_bounds-get_plan-end : goal.slice_bounds-get_plan-end
slice_bounds-get_plan-end c = c.in-Ok.ensures.lent.scratch_long

pub slice_bounds-get_plan-end-in-Ok : goal.slice_bounds-get_plan-end-in-Ok
slice_bounds-get_plan-end-in-Ok c = sym (length-take-le scratch_size c.args.arena.now c.in-Ok.ensures.lent.scratch_long)

pub get_plan-requires : goal.get_plan-requires
get_plan-requires c = planned c.args.arena.now c.in-Ok.ensures

pub returns-in-Ok : goal.returns-in-Ok
returns-in-Ok c =
    let o = c.in-Ok.ensures in
    let g = c.get_plan.ensures in record {
      walk_call = call_done o.lent (all_read o.read.read (plan_values o).1) (omega arith) g.plan_walked;
      explains = explains_whole o.lent (g.plan_walked.long ∙ length-take-le scratch_size c.args.arena.now o.lent.scratch_long) g.explains;
    }

pub returns-in-Err : goal.returns-in-Err
returns-in-Err c =
    let e = c.unread.ensures in
    let p = get_barred c.in-Err.ensures in
    record { walk_call = rw (unread_walked _ e) p.0; explains = rw (unread_walked _ e, unread_met _ e) p.1 }

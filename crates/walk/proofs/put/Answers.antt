-- `put` meets its contract.
-- Assumes nothing.
use mathlib.Core.Path.{sym, ◌∙◌}
use native.Mathlib.Omega.{arith}
use lib.Seq.{length-take-le}
use Rattle.rules.specs.Numbers.{scratch_size}
use Rattle.walk.specs.Call.{call_done, plan_values, all_read, planned}
use Rattle.walk.specs.Call.NewStarts.{walked_is, met_is, none_with, starts_whole}
use Rattle.walk.specs.Call.Bits.{none_set}
use Rattle.walk.specs.Call.Put.{put_all_read, put_barred}
use Rattle.walk.specs.Call.Explained.{explains_whole}
use Rattle.walk.proofs.put.Goals as goal

pub slice_bounds-put_plan-end : goal.slice_bounds-put_plan-end
slice_bounds-put_plan-end c = c.in-Ok.ensures.0.lent.scratch_long

pub slice_bounds-put_plan-end-in-Ok : goal.slice_bounds-put_plan-end-in-Ok
slice_bounds-put_plan-end-in-Ok c = sym (length-take-le scratch_size c.args.arena.now c.in-Ok.ensures.0.lent.scratch_long)

pub put_plan-requires : goal.put_plan-requires
put_plan-requires c = record { planned = planned c.args.arena.now c.in-Ok.ensures.0; viewed = c.in-Ok.ensures.1 }

pub returns-in-Ok : goal.returns-in-Ok
returns-in-Ok c =
    let o = c.in-Ok.ensures.0 in
    let g = c.put_plan.ensures in
    let long = g.plan_walked.long ∙ length-take-le scratch_size c.args.arena.now o.lent.scratch_long in
    record {
      walk_call = call_done o.lent (put_all_read (all_read o.read.read (plan_values o).1) c.in-Ok.ensures.1) (omega arith) g.plan_walked;
      starts_value = g.starts_value ∙ starts_whole _ _ (omega arith) long g.plan_walked.says;
      written_value = g.written_value;
      explains = explains_whole o.lent long g.explains;
    }

pub returns-in-Err : goal.returns-in-Err
returns-in-Err c =
    let e = c.refused.ensures in
    let m = met_is _ _ e ∙ c.nowhere.ensures in
    let p = put_barred c.in-Err.ensures in
    record {
      walk_call = rw (walked_is _ _ e) p.0;
      starts_value = none_with _ _ e _ _;
      written_value = none_set _ _ e _ _ _ _;
      explains = rw (walked_is _ _ e, m) p.1;
    }

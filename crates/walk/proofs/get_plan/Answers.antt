-- `get_plan` meets its contract.
-- Assumes nothing.
use Rattle.outcome.proofs.Numbers.{no_refusal}
use Rattle.walk.specs.Get.Top.{movable}
use Rattle.walk.specs.Call.{plan_fits, plan_ready, few_met, get_met, get_unmet, get_refused, get_done}
use Rattle.walk.proofs.get_plan.Goals as goal

pub copy_in-requires : goal.copy_in-requires
copy_in-requires c = plan_fits c.requires

pub get_node-got-requires : goal.get_node-got-requires
get_node-got-requires c = plan_ready c.requires c.copy_in.ensures

pub bring-got-requires : goal.bring-got-requires
bring-got-requires c =
    movable (plan_ready c.requires c.copy_in.ensures) c.get_node-got.ensures.get_shows c.get_node-got.ensures.sized

pub met_at-met-requires : goal.met_at-met-requires
met_at-met-requires c =
    few_met c.requires c.copy_in.ensures c.get_node-got.ensures.get_shows c.get_node-got.ensures.sized c.bring-got.ensures
    c.in-Some.ensures.0

pub returns-in-Some : goal.returns-in-Some
returns-in-Some c =
    let e = c.in-Some.ensures.0 in record {
      plan_walked = get_refused c.requires c.copy_in.ensures c.get_node-got.ensures.get_shows c.get_node-got.ensures.sized c.bring-got.ensures e
          c.in-Some.ensures.1;
      explains = get_met c.requires c.copy_in.ensures c.get_node-got.ensures.get_shows c.get_node-got.ensures.sized c.bring-got.ensures e c.in-Some.ensures.1
          c.met_at-met.ensures;
    }

pub shape_of-arena-in-Some : goal.shape_of-arena-in-Some
shape_of-arena-in-Some c = (returns-in-Some c).plan_walked.long

pub returns : goal.returns
returns c =
    let e = no_refusal _ _ c.refusal.ensures c.in_default.not-Some in record {
      plan_walked = get_done c.requires c.copy_in.ensures c.get_node-got.ensures.get_shows c.get_node-got.ensures.sized c.bring-got.ensures e
          c.len.ensures
          c.steps.ensures;
      explains = get_unmet c.requires c.copy_in.ensures c.get_node-got.ensures.get_shows c.get_node-got.ensures.sized c.bring-got.ensures e
          c.nowhere-met.ensures;
    }

pub shape_of-arena : goal.shape_of-arena
shape_of-arena c = (returns c).plan_walked.long

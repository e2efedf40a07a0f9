-- `put_plan` meets its contract.
-- Assumes nothing.
use mathlib.Core.Bool.{false}
use mathlib.Core.Path.{◌≡◌, refl, ◌∙◌}
use Rattle.outcome.specs.Outcome.{is_refusal}
use Rattle.outcome.proofs.Numbers.{no_refusal}
use Rattle.walk.specs.Call.{plan_fits}
use Rattle.walk.specs.Call.NewStarts.{walked_is, met_is, none_with}
use Rattle.walk.specs.Call.Bits.{none_set}
use Rattle.walk.specs.Call.Put.{few_variables, put_ready, put_placed, put_refused, put_met, few_met, put_unmet, put_done, put_starts, put_written_lem}
use Rattle.walk.proofs.put_plan.Goals as goal
use Rattle.walk.proofs.put_plan.Goals.{In_default}

fine : (c : In_default) → is_refusal c.put_node-put.result ≡ false
fine c = no_refusal _ _ c.refusal.ensures c.in_default.not-Some

pub copy_in-requires : goal.copy_in-requires
copy_in-requires c = plan_fits c.requires.planned

pub first_cells-cells-requires : goal.first_cells-cells-requires
first_cells-cells-requires c = rw c.from-k.ensures (few_variables c.requires.planned c.requires.viewed)

pub put_node-put-requires : goal.put_node-put-requires
put_node-put-requires c =
    rw c.from-k.ensures (put_ready c.requires.planned c.requires.viewed c.copy_in.ensures (rw c.from-k.ensures at c.first_cells-cells.ensures))

pub met_at-requires : goal.met_at-requires
met_at-requires c =
    few_met c.requires.planned c.requires.viewed c.copy_in.ensures (rw c.from-k.ensures at c.first_cells-cells.ensures)
    (rw c.from-k.ensures at c.put_node-put.ensures.task_tells)
    c.in-Some.ensures.0

pub returns-in-Some : goal.returns-in-Some
returns-in-Some c =
    let e = c.refused.ensures in record {
      plan_walked = rw (walked_is _ _ e) (put_refused c.requires.planned c.requires.viewed c.copy_in.ensures
          (rw c.from-k.ensures at c.first_cells-cells.ensures)
          (rw c.from-k.ensures at c.put_node-put.ensures.task_tells)
          c.in-Some.ensures.0 c.in-Some.ensures.1);
      starts_value = none_with _ _ e _ _;
      written_value = none_set _ _ e _ _ _ _;
      explains = rw (walked_is _ _ e) (put_met c.requires.planned c.requires.viewed c.copy_in.ensures (rw c.from-k.ensures at c.first_cells-cells.ensures)
          (rw c.from-k.ensures at c.put_node-put.ensures.task_tells)
          c.in-Some.ensures.0 c.in-Some.ensures.1 (met_is _ _ e ∙ c.met_at.ensures));
    }

pub shape_of-arena-in-Some : goal.shape_of-arena-in-Some
shape_of-arena-in-Some c = (returns-in-Some c).plan_walked.long

pub gather-new-requires : goal.gather-new-requires
gather-new-requires c =
    put_placed c.requires.planned c.requires.viewed c.copy_in.ensures (rw c.from-k.ensures at c.first_cells-cells.ensures)
    (rw c.from-k.ensures at c.put_node-put.ensures.task_tells)
    (fine (goal.at.gather-new-requires c).In_default)

pub returns : goal.returns
returns c = record {
  plan_walked = put_done c.requires.planned c.requires.viewed c.copy_in.ensures (rw c.from-k.ensures at c.first_cells-cells.ensures)
      (rw c.from-k.ensures at c.put_node-put.ensures.task_tells) (fine (goal.at.returns c).In_default) c.gather-new.ensures c.steps-steps.ensures;
  starts_value = put_starts c.requires.planned c.requires.viewed c.copy_in.ensures (rw c.from-k.ensures at c.first_cells-cells.ensures)
      (rw c.from-k.ensures at c.put_node-put.ensures.task_tells)
      (fine (goal.at.returns c).In_default) c.gather-new.ensures _;
  written_value = put_written_lem c.requires.planned c.requires.viewed c.copy_in.ensures (rw c.from-k.ensures at c.first_cells-cells.ensures)
      (rw c.from-k.ensures at c.put_node-put.ensures.task_tells)
      (fine (goal.at.returns c).In_default) (rw c.from-k.ensures at c.bits_of-written.ensures) refl _ _;
  explains = put_unmet c.requires.planned c.requires.viewed c.copy_in.ensures (rw c.from-k.ensures at c.first_cells-cells.ensures)
      (rw c.from-k.ensures at c.put_node-put.ensures.task_tells)
      (fine (goal.at.returns c).In_default) c.nowhere-met.ensures;
}

pub shape_of-arena : goal.shape_of-arena
shape_of-arena c = (returns c).plan_walked.long

-- `part` meets its contract: what is found lies within the plan. Assumes nothing.
use native.Mathlib.Omega.{arith}
use lib.ListN.{length}
use Rattle.starts.proofs.Lookup.{Inside, found_inside, part_found, part_refused}
use Rattle.starts.proofs.part.Goals as goal
use Rattle.starts.proofs.part.Goals.{In-Ok}

-- WHAT IS KNOWN THERE
inside : (c : In-Ok) → Inside (length c.args.plan.now) c.in-Ok.place.start c.in-Ok.place.end
inside c = found_inside _ _ _ c.in-Ok.ensures

pub slice_bounds-result-count : goal.slice_bounds-result-count
slice_bounds-result-count c = omega (arith, (inside (goal.at.slice_bounds-result-count c).In-Ok).some)

pub slice_bounds-result-start : goal.slice_bounds-result-start
slice_bounds-result-start c = omega (arith, (inside (goal.at.slice_bounds-result-start c).In-Ok).some)

pub slice_bounds-result-end : goal.slice_bounds-result-end
slice_bounds-result-end c = (inside (goal.at.slice_bounds-result-end c).In-Ok).within

pub returns-in-Ok : goal.returns-in-Ok
returns-in-Ok c = part_found _ c.in-Ok.ensures

pub returns-in-Err : goal.returns-in-Err
returns-in-Err c = part_refused _ c.in-Err.ensures

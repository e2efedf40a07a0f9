-- `parts_of` meets its contract.
-- Assumes nothing.
use native.Mathlib.Omega.{arith}
use Rattle.outcome.specs.Outcome.{start_small}
use Rattle.walk.specs.Put.Under.{got_parts_lem}
use Rattle.walk.proofs.putter.parts_of.Goals as goal

pub overflow_add-result : goal.overflow_add-result
overflow_add-result c = let z = start_small c.args.got in record { fits = omega (arith, c.start.ensures) }

pub overflow_sub-result : goal.overflow_sub-result
overflow_sub-result c = c.requires.0

pub overflow_sub-result-2 : goal.overflow_sub-result-2
overflow_sub-result-2 c = omega (arith, c.len.ensures, c.requires.1)

pub returns : goal.returns
returns c =
    got_parts_lem c.args.got c.args.mid c.made.ensures c.start.ensures c.len.ensures

-- `stood_for` meets its contract.
-- Assumes nothing.
use mathlib.Core.Path.{sym, ◌∙◌}
use native.Mathlib.Omega.{arith}
use Rattle.walk.specs.Get.{ready_scope, as_scope}
use Rattle.walk.specs.Arena.{below_ends}
use Rattle.walk.specs.Put.Member.{old_stood, default_asks, default_stood, first_middle, first_some}
use Rattle.walk.proofs.putter.stood_for.Goals as goal

pub overflow_add-by : goal.overflow_add-by
overflow_add-by c =
    record { fits = omega (arith, below_ends c.requires.some.held.place c.requires.base, c.requires.room) }

pub overflow_sub-mid : goal.overflow_sub-mid
overflow_sub-mid c = first_some _ (sym c.in-Some.is ∙ first_middle c.requires.some.held c.requires.middle)

pub returns-in-Some : goal.returns-in-Some
returns-in-Some c = old_stood c.requires c.in-Some.is c.done.ensures

pub get_node-requires : goal.get_node-requires
get_node-requires c = ready_scope c.none.ensures (default_asks c.requires)

pub returns-in-None : goal.returns-in-None
returns-in-None c =
    default_stood c.requires c.in-None.is
    (as_scope c.none.ensures c.get_node.ensures.get_shows)

-- Every function of put meets its contract. The measure: the levels left, eight times, and more for each function that calls another at the same
-- levels.
use Prim.Native.Nat.{◌-◌, ◌+◌, ◌*◌}
use lib.ListN.{length}
use Rattle.walk.specs.Put.Members.{Turned}
use Rattle.walk.proofs.putter.+put.Given as goal

abbrev pub decreases-put_add : goal.decreases-put_add
decreases-put_add l = 8 * l.at.levels + 4

abbrev pub decreases-put_all : goal.decreases-put_all
decreases-put_all l = 8 * l.at.levels + 2

abbrev pub decreases-put_both : goal.decreases-put_both
decreases-put_both l = 8 * l.at.levels + 1

abbrev pub decreases-put_call : goal.decreases-put_call
decreases-put_call l = 8 * l.at.levels + 4

abbrev pub decreases-put_case : goal.decreases-put_case
decreases-put_case l = 8 * l.at.levels + 4

abbrev pub decreases-put_each : goal.decreases-put_each
decreases-put_each l = 8 * l.at.levels + 4

abbrev pub decreases-put_node : goal.decreases-put_node
decreases-put_node l = 8 * l.at.levels

abbrev pub decreases-put_one : goal.decreases-put_one
decreases-put_one l = 8 * l.turn.at.levels + 1

abbrev pub decreases-put_rebuilt : goal.decreases-put_rebuilt
decreases-put_rebuilt l = 8 * l.at.levels + 1

abbrev pub decreases-put_switch : goal.decreases-put_switch
decreases-put_switch l = 8 * l.at.levels + 3

abbrev pub decreases-put_two : goal.decreases-put_two
decreases-put_two l = 8 * l.at.levels + 4

abbrev pub decreases-put_under : goal.decreases-put_under
decreases-put_under l = 8 * l.at.levels + 2

abbrev pub invariant-put_all-loop-from : goal.invariant-put_all-loop-from
invariant-put_all-loop-from l =
    Turned l.sheet l.initial.arena l.initial.slots l.scope l.cells l.by l.view l.at l.arena l.slots l.whole l.to l.next l.from l.built

abbrev pub decreases-put_all-loop-from : goal.decreases-put_all-loop-from
decreases-put_all-loop-from l = length l.view - l.from

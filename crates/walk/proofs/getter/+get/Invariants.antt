-- Every function of get meets its contract. The measure: the levels left, three times, and more for each function that calls another at the same
-- levels: `get_members` nodes, and the function of a kind nodes and `get_members`.
use Prim.Native.Nat.{◌+◌, ◌-◌, ◌*◌}
use Rattle.walk.specs.Scope.{TwoOf}
use Rattle.walk.specs.Get.Members.{Building}
use Rattle.walk.proofs.getter.+get.Given as goal

abbrev pub decreases-get_add : goal.decreases-get_add
decreases-get_add l = 3 * l.at.levels + 2

abbrev pub decreases-get_call : goal.decreases-get_call
decreases-get_call l = 3 * l.at.levels + 2

abbrev pub decreases-get_case : goal.decreases-get_case
decreases-get_case l = 3 * l.at.levels + 2

abbrev pub decreases-get_each : goal.decreases-get_each
decreases-get_each l = 3 * l.at.levels + 2

abbrev pub decreases-get_members : goal.decreases-get_members
decreases-get_members l = 3 * l.at.levels + 1

abbrev pub decreases-get_node : goal.decreases-get_node
decreases-get_node l = 3 * l.at.levels

abbrev pub decreases-get_two : goal.decreases-get_two
decreases-get_two l = 3 * l.at.levels + 2

abbrev pub invariant-get_members-loop-arena : goal.invariant-get_members-loop-arena
invariant-get_members-loop-arena l =
    Building (record {
      sheet = l.sheet;
      table = l.table;
      arena = l.initial.arena;
      scope = l.scope;
      top = l.at.top;
      left = l.at.left;
      levels = l.at.levels;
    }) l.x l.root l.start l.end
    l.arena l.to l.next × TwoOf l.scope l.inner

abbrev pub decreases-get_members-loop-arena : goal.decreases-get_members-loop-arena
decreases-get_members-loop-arena l = l.end - l.next

-- `value::value`, `value::part` and `value::list`, which call each other, meet their contracts: a lemma of `specs/Turns` answers each return and
-- each turn. The measure is three times the length that is left, and 1 more for a part and 2 for a value, which hand all of it on.
use mathlib.Core.List.{[], ◌∷◌}
use Prim.Native.Nat.{◌+◌, ◌-◌, ◌*◌}
use lib.ListN.{length}
use Rattle.value.specs.Reading.{rest}
use Rattle.value.proofs.Turns.{Begun, Values}
use Rattle.value.proofs.+list_part_value.Given as goal

abbrev pub decreases-list : goal.decreases-list
decreases-list l = 3 * length l.s.now

abbrev pub decreases-part : goal.decreases-part
decreases-part l = 3 * length l.s.now + 1

abbrev pub decreases-value : goal.decreases-value
decreases-value l = 3 * length l.s.now + 2

abbrev pub invariant-list-loop-at : goal.invariant-list-loop-at
invariant-list-loop-at l = Begun rest l.s l.room l.at (rest ∷ [])

abbrev pub decreases-list-loop-at : goal.decreases-list-loop-at
decreases-list-loop-at l = length l.s - l.at

abbrev pub invariant-value-loop-owed : goal.invariant-value-loop-owed
invariant-value-loop-owed l = Values l.s l.room l.at l.owed

abbrev pub decreases-value-loop-owed : goal.decreases-value-loop-owed
decreases-value-loop-owed l = length l.s - l.at

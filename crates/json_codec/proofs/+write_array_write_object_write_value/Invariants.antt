-- `write_value`, `write_array` and `write_object`, which call each other. Twice the length of the value's bytes that is left falls at each call; a value
-- stands above a list at the same place, and a pair above its first value.
use mathlib.Core.List.{List, [], ◌∷◌}
use Prim.Native.Nat.{ℕ, ◌+◌, ◌-◌, ◌*◌}
use lib.ListN.{length}
use Rattle.value.specs.Value.{Values}
use Rattle.report.specs.Writing.{Wrote}
use Rattle.json_codec.specs.Writer.{HeldList}
use Rattle.json_codec.specs.WriterTurns.{Turning}
use Rattle.json_codec.proofs.+write_array_write_object_write_value.Given as goal

abbrev pub decreases-write_array : goal.decreases-write_array
decreases-write_array l = 2 * (length l.v.now - l.at)

abbrev pub decreases-write_object : goal.decreases-write_object
decreases-write_object l = 2 * (length l.v.now - l.at) + 2

abbrev pub decreases-write_value : goal.decreases-write_value
decreases-write_value l = 2 * (length l.v.now - l.at) + 1

abbrev pub invariant-write_array-loop-member : goal.invariant-write_array-loop-member
invariant-write_array-loop-member l = (m : Values) (more : List ℕ) → HeldList l.v l.at m more → (b : List ℕ) →
    Wrote (0x5B ∷ []) l.put b l.initial.text l.initial.p → Turning l.v l.at l.levels l.put b m more l.i l.text l.p

abbrev pub decreases-write_array-loop-member : goal.decreases-write_array-loop-member
decreases-write_array-loop-member l = length l.v - l.i

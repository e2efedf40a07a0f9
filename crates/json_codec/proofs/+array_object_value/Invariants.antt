-- `value`, `array` and `object`, which call each other. The measure is twice the length that is left, and 1 more for an array and an object, which may
-- hand on all of it. The invariant: where the first 03 was written before the loop, the members so far are read and written, with the 03 of the next.
use mathlib.Core.List.{List, [], ◌∷◌}
use Prim.Native.Nat.{ℕ, ◌+◌, ◌-◌, ◌*◌}
use lib.ListN.{length}
use Rattle.report.specs.Writing.{Wrote}
use Rattle.json_codec.specs.Turns.{Listed}
use Rattle.json_codec.proofs.+array_object_value.Given as goal

abbrev pub decreases-array : goal.decreases-array
decreases-array l = 2 * (length l.s.now - l.at) + 1

abbrev pub decreases-object : goal.decreases-object
decreases-object l = 2 * (length l.s.now - l.at) + 1

abbrev pub decreases-value : goal.decreases-value
decreases-value l = 2 * (length l.s.now - l.at)

abbrev pub invariant-array-loop-member : goal.invariant-array-loop-member
invariant-array-loop-member l = (b : List ℕ) → Wrote (3 ∷ []) l.put b l.initial.out l.initial.p → Listed l.levels l.s l.at l.put b l.i l.out l.p

abbrev pub decreases-array-loop-member : goal.decreases-array-loop-member
decreases-array-loop-member l = length l.s - l.i

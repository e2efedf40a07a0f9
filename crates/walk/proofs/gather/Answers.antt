use mathlib.Core.Path.{refl}
use Prim.Native.Nat.{◌<◌}
use native.Mathlib.Omega.{arith}
use Rattle.walk.specs.Call.Gather.{gathered_none, gather_fits, grown_more, gathered_all}
use Rattle.walk.proofs.gather.Goals as goal
use Rattle.walk.proofs.gather.Goals.{In-loop-i}

-- there are no more than 16 variables
few : (c : In-loop-i) → c.loop-i.i < 16
few c = let p = c.requires.placed in omega (arith, p.few, p.count, c.loop-i-test.true, c.from-i-end.ensures)

pub loop-i-init : goal.loop-i-init
loop-i-init c = (omega arith, gathered_none _)

pub bounds-scope-i : goal.bounds-scope-i
bounds-scope-i c = omega (arith, few c)

pub offset_bounds-scope-i : goal.offset_bounds-scope-i
offset_bounds-scope-i c = omega (arith, few (goal.at.offset_bounds-scope-i c).In-loop-i)

pub bounds-scope-i-in-loop-i : goal.bounds-scope-i-in-loop-i
bounds-scope-i-in-loop-i c = omega (arith, few (goal.at.bounds-scope-i-in-loop-i c).In-loop-i)

pub offset_bounds-slots-i : goal.offset_bounds-slots-i
offset_bounds-slots-i c = omega (arith, few (goal.at.offset_bounds-slots-i c).In-loop-i)

pub bounds-slots-i : goal.bounds-slots-i
bounds-slots-i c = omega (arith, few (goal.at.bounds-slots-i c).In-loop-i)

pub overflow_add-len : goal.overflow_add-len
overflow_add-len c = omega (arith, few (goal.at.overflow_add-len c).In-loop-i, c.loop-i.invariant.1.short)

pub copy-requires : goal.copy-requires
copy-requires c =
    gather_fits c.loop-i.invariant.1 c.requires (rw c.from-i-end.ensures at c.loop-i-test.true) c.length_of-stood.ensures
    (rw c.from-start.ensures at c.place_of-from.ensures)

pub loop-i-preserved : goal.loop-i-preserved
loop-i-preserved c = (
  omega (arith, c.loop-i-test.true, c.from-i-end.ensures),
  grown_more c.loop-i.invariant.1 c.requires (rw c.from-i-end.ensures at c.loop-i-test.true) c.length_of-stood.ensures
      (rw c.from-start.ensures at c.place_of-from.ensures)
      c.copy.ensures c.grow-len.ensures.value c.grow-len.ensures.at_after,
)

pub overflow_cast-count : goal.overflow_cast-count
overflow_cast-count c = let p = c.requires.placed in omega (arith, p.few, p.count)

pub returns : goal.returns
returns c = let v = c.loop-i.invariant in record { count = refl; all = gathered_all v.1 (omega (arith, v.0, c.loop-i-test.false, c.from-i-end.ensures)) }

pub shape_of-arena : goal.shape_of-arena
shape_of-arena c = (returns c).all.kept.long

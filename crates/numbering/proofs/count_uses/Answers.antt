use mathlib.Core.Path.{refl}
use Prim.Native.Nat.{◌<◌}
use native.Mathlib.Omega.{arith}
use Rattle.std.proofs.Common.{length-take-le, get_or-take}
use Rattle.numbering.specs.Counting.{counted_start, counted_more, counted_all, named_few}
use Rattle.numbering.proofs.count_uses.Goals as goal

pub loop-start-init : goal.loop-start-init
loop-start-init c f = counted_start f c.count_roots.ensures

pub shared_ref_as_front-count_all : goal.shared_ref_as_front-count_all
shared_ref_as_front-count_all c = rw c.children_at-c.ensures (named_few _ _)

pub loop-start-preserved : goal.loop-start-preserved
loop-start-preserved c f =
    let i : c.loop-start.start-index < c.args.t.nodes =
    omega (arith, c.loop-start-test.true, length-take-le c.args.t.nodes c.args.t.starts (omega arith)) in
    counted_more f (c.loop-start.invariant f) i (get_or-take c.args.t.nodes c.args.t.starts c.loop-start.start-index 0 i) c.children_at-c.ensures
    refl c.count_all.ensures

pub returns : goal.returns
returns c f =
    counted_all f (c.loop-start.invariant f) (omega (arith, c.loop-start-test.false, length-take-le c.args.t.nodes c.args.t.starts (omega arith)))

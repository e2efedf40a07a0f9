use mathlib.Core.Path.{ap, ◌∙◌}
use Rattle.std.proofs.Common.{arith}
use Rattle.node.specs.Decoding.{node_at}
use Rattle.types.specs.Uses.{early, late, place_in, counted_none, sheet_roots, used_none, used_next, used_told}
use Rattle.types.proofs.uses.first_used_twice.Goals as goal

pub loop-start-init : goal.loop-start-init
loop-start-init c sh r = used_none r (c.count_roots.ensures _ (sheet_roots r) counted_none)

pub loop-start-preserved : goal.loop-start-preserved
loop-start-preserved c sh r =
    let h = c.loop-start-test.true in
    used_next r (early c.args.t h) (c.node_at.ensures ∙ ap (node_at c.args.sheet.now) (place_in c.args.t h c.from.ensures))
    (c.count_children.ensures _ (c.loop-start.invariant sh r))

pub returns : goal.returns
returns c sh r =
    used_told r (late c.args.t c.loop-start-test.false (omega arith)) c.loop-start.auto.start-index-end (c.loop-start.invariant sh r)
    c.lowest_of.ensures

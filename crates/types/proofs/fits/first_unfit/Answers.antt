use mathlib.Core.Path.{ap, ◌∙◌}
use Rattle.node.specs.Decoding.{node_at}
use Prim.Native.Nat.{◌<◌}
use Rattle.types.specs.Uses.{sheet_roots}
use Rattle.types.specs.Unfit.{ready_nodes, ready_rooted, walk_start, walk_skip, walk_here, walk_stands, walk_stood, walk_unfit}
use Rattle.types.specs.Unfit.{walk_misplaced, walk_asked, walk_next, walk_done}
use Rattle.types.proofs.fits.first_unfit.Goals as goal
use Rattle.types.proofs.fits.first_unfit.Goals.{In-loop-i}

few : (c : In-loop-i) → c.loop-i.i < 200
few c = ready_nodes c.requires c.loop-i-test.true

pub loop-i-init : goal.loop-i-init
loop-i-init c g = walk_start g (c.place_roots.ensures _ (sheet_roots g.reads))

pub loop-i-preserved-in_default : goal.loop-i-preserved-in_default
loop-i-preserved-in_default c g = walk_skip g (c.loop-i.invariant g) c.loop-i-test.true c.in_default.is

pub fits-requires : goal.fits-requires
fits-requires c = let k = walk_here c.requires (c.loop-i.invariant c.requires) c.loop-i-test.true c.in-Some.is in
    (few (goal.at.fits-requires c).In-loop-i, (k.scope, walk_stands c.requires (c.loop-i.invariant c.requires) c.loop-i-test.true k))

pub returns-then-not-fits : goal.returns-then-not-fits
returns-then-not-fits c g =
    let w = c.loop-i.invariant g in let h = c.loop-i-test.true in let k = walk_here g w h c.in-Some.is in
    let n = c.node_at-n.ensures ∙ ap (node_at c.args.sheet.now) c.from.ensures in
    walk_unfit g w h k n (c.fits.ensures _ _ _ _ (walk_stood g w h k n)) (c.if-not-fits.true)

pub returns-then-not-is_placed : goal.returns-then-not-is_placed
returns-then-not-is_placed c g =
    let w = c.loop-i.invariant g in let h = c.loop-i-test.true in let k = walk_here g w h c.in-Some.is in
    let n = c.node_at-n.ensures ∙ ap (node_at c.args.sheet.now) c.from.ensures in
    walk_misplaced g w h k n (c.fits.ensures _ _ _ _ (walk_stood g w h k n)) (c.if-not-fits.false)
    (c.is_placed.ensures _ _ (ready_rooted g h)) (c.if-not-is_placed.true)

pub place_children-requires : goal.place_children-requires
place_children-requires c =
    let w = c.loop-i.invariant c.requires in let h = c.loop-i-test.true in
    walk_asked c.requires w h (walk_here c.requires w h c.in-Some.is)

pub loop-i-preserved : goal.loop-i-preserved
loop-i-preserved c g =
    let w = c.loop-i.invariant g in let h = c.loop-i-test.true in let k = walk_here g w h c.in-Some.is in
    let n = c.node_at-n.ensures ∙ ap (node_at c.args.sheet.now) c.from.ensures in
    walk_next g w h k n (c.fits.ensures _ _ _ _ (walk_stood g w h k n)) (c.if-not-fits.false)
    (c.is_placed.ensures _ _ (ready_rooted g h)) (c.if-not-is_placed.false) c.place_children.ensures

pub returns : goal.returns
returns c g = walk_done g (c.loop-i.invariant g) c.loop-i-test.false

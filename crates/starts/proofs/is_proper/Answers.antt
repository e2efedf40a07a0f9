use mathlib.Core.Path.{◌≡◌, ◌∙◌}
use Prim.Native.Nat.{◌<◌}
use lib.ListN.{get_or, take}
use native.Mathlib.Omega.{arith}
use Rattle.starts.proofs.Lookup.{none_there, too_many, not_from_0, judged_none, falls, too_far, judged_more, judged_all, item_at, items_all}
use Rattle.starts.proofs.is_proper.Goals as goal
use Rattle.starts.proofs.is_proper.Goals.{In-loop-start}

pub returns-then-starts-eq0 : goal.returns-then-starts-eq0
returns-then-starts-eq0 c = none_there _ _ c.if-starts-eq0.true

pub returns-then-starts-gt16 : goal.returns-then-starts-gt16
returns-then-starts-gt16 c = too_many _ _ c.if-starts-gt16.true

pub returns-then-starts-ne0 : goal.returns-then-starts-ne0
returns-then-starts-ne0 c = not_from_0 _ _ (omega (arith, c.if-starts-eq0.false)) (omega (arith, c.if-starts-gt16.false)) c.if-starts-ne0.true

pub loop-start-init : goal.loop-start-init
loop-start-init c = judged_none _ _ (omega (arith, c.if-starts-eq0.false)) (omega (arith, c.if-starts-gt16.false)) c.if-starts-ne0.false

-- the number that is looked at
item : (c : In-loop-start) → (c.loop-start.start-index < c.args.starts.count) × (get_or (take c.from.result c.args.starts.at) c.loop-start.start-index 0
    ≡ get_or c.args.starts.at c.loop-start.start-index 0)
item c = item_at c.from.result c.args.starts.at c.loop-start.start-index c.from.ensures c.loop-start-test.true

pub returns-then-start-low : goal.returns-then-start-low
returns-then-start-low c =
    let i = item (goal.at.returns-then-start-low c).In-loop-start in
    falls _ _ c.loop-start.invariant i.0 (c.from-start.ensures ∙ i.1) c.if-start-low.true

pub returns-then-len-start : goal.returns-then-len-start
returns-then-len-start c =
    let i = item (goal.at.returns-then-len-start c).In-loop-start in
    too_far _ _ c.loop-start.invariant i.0 (c.from-start.ensures ∙ i.1) (omega (arith, c.if-start-low.false)) c.if-len-start.true

pub loop-start-preserved : goal.loop-start-preserved
loop-start-preserved c =
    let i = item (goal.at.loop-start-preserved c).In-loop-start in
    judged_more _ _ c.loop-start.invariant i.0 (c.from-start.ensures ∙ i.1) (omega (arith, c.if-start-low.false)) (omega (arith, c.if-len-start.false))

pub returns : goal.returns
returns c =
    judged_all _ _ c.loop-start.invariant
    (items_all c.from.result c.args.starts.at c.loop-start.start-index c.from.ensures (omega (arith, c.well_formed)) c.loop-start-test.false)

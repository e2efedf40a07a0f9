-- `type_in` meets its contract. Assumes nothing.
use Prim.Native.Nat.{◌<◌}
use Rattle.typing.specs.Numbers.{past_slots}
use Rattle.types.specs.SlotsLaws.{part_past, part_back, part_out, part_in}
use Rattle.types.proofs.lent.Lent.type_in.Goals as goal
use Rattle.types.proofs.lent.Lent.type_in.Goals.{After-from-end}

-- WHAT IS KNOWN THERE
below : (c : After-from-end) → c.args.slot < past_slots
below c = c.if-slot-ge-PAST.false

pub returns-then-slot-ge-PAST : goal.returns-then-slot-ge-PAST
returns-then-slot-ge-PAST c = part_past _ _ _ c.if-slot-ge-PAST.true

pub returns-then-end-start : goal.returns-then-end-start
returns-then-end-start c = part_back _ _ _ (below (goal.at.returns-then-end-start c).After-from-end) c.from-start.ensures c.from-end.ensures
    c.if-end-start.true

pub returns-then-self-end : goal.returns-then-self-end
returns-then-self-end c = part_out _ _ _ (below (goal.at.returns-then-self-end c).After-from-end) c.from-start.ensures c.from-end.ensures
    c.if-end-start.false c.if-self-end.true

pub returns : goal.returns
returns c = part_in _ _ _ (below (goal.at.returns c).After-from-end) c.from-start.ensures c.from-end.ensures c.if-end-start.false c.if-self-end.false

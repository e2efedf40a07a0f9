-- `place` meets its contract. Assumes nothing.
use Rattle.types.specs.Placing.{place_past, place_kept, place_set}
use Rattle.types.proofs.scopes.place.Goals as goal

pub returns-then-is_none : goal.returns-then-is_none
returns-then-is_none c = place_set _ _ _ c.if-n-lt200.true c.is_none.ensures c.if-is_none.true

pub returns-else-is_none : goal.returns-else-is_none
returns-else-is_none c = place_kept _ _ _ c.if-n-lt200.true c.is_none.ensures c.if-is_none.false

pub returns-else-n-lt200 : goal.returns-else-n-lt200
returns-else-n-lt200 c = place_past _ _ _ c.if-n-lt200.false

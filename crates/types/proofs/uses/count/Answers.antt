-- `count` meets its contract. Assumes nothing.
use Rattle.types.specs.Uses.{counted_past, counted_full, counted_more}
use Rattle.types.proofs.uses.count.Goals as goal

pub returns-then-uses-n-lt2 : goal.returns-then-uses-n-lt2
returns-then-uses-n-lt2 c l k = counted_more k _ c.if-n-lt200.true c.if-uses-n-lt2.true

pub returns-else-uses-n-lt2 : goal.returns-else-uses-n-lt2
returns-else-uses-n-lt2 c l k = counted_full k _ c.if-uses-n-lt2.false

pub returns-else-n-lt200 : goal.returns-else-n-lt200
returns-else-n-lt200 c l k = counted_past k _ c.if-n-lt200.false

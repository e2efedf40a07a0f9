use Rattle.std.proofs.Common.{rules}
use Rattle.records.specs.AnewLaws.{shift_more, shift_all}
use Rattle.records.proofs.shifted.Goals as goal

pub loop-i-preserved : goal.loop-i-preserved
loop-i-preserved c = rw c.from.ensures (shift_more c.loop-i.invariant (search rules))

pub returns : goal.returns
returns c = shift_all c.loop-i.invariant (search rules)

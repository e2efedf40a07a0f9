use mathlib.Core.List.{[]}
use Rattle.types.specs.Uses.{roots_next, roots_done}
use Rattle.types.proofs.uses.count_roots.Goals as goal

pub loop-c-preserved : goal.loop-c-preserved
loop-c-preserved c rs w k = roots_next w c.loop-c-test.true c.section_root.ensures (c.count-in-loop-c.ensures _ (c.loop-c.invariant rs w k))

pub returns : goal.returns
returns c rs w k = roots_done w c.loop-c-test.false (c.loop-c.invariant rs w (c.count.ensures [] k))

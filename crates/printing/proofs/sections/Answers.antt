use native.Mathlib.Omega.{arith}
use Rattle.printing.specs.Whole.{sections_more}
use Rattle.printing.proofs.sections.Goals as goal

pub loop-i-preserved : goal.loop-i-preserved
loop-i-preserved c = sections_more c.loop-i.invariant (omega arith) c.head-end.ensures c.section_root.ensures c.body-end.ensures

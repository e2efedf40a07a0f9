use native.Mathlib.Omega.{arith}
use Rattle.parsing.specs.Nodes.{written_first, written_more}
use Rattle.parsing.proofs.whole.records.Goals as goal

pub loop-n-init : goal.loop-n-init
loop-n-init c = written_first c.place-end.ensures

pub loop-n-preserved : goal.loop-n-preserved
loop-n-preserved c =
    written_more c.loop-n.invariant c.record-end.ensures (omega arith)

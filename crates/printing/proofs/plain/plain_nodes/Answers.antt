use native.Mathlib.Omega.{arith}
use lib.ListN.{length-set}
use Rattle.printing.specs.Flat.{flats_more}
use Rattle.printing.proofs.plain.plain_nodes.Goals as goal

pub loop-n-preserved : goal.loop-n-preserved
loop-n-preserved c =
    let i = c.loop-n.invariant in (
      simp length-set i.0,
      λ sh r. flats_more r (i.1 sh r) (omega arith) (omega arith) i.0 c.record_at-node.ensures c.plain_node.ensures,
    )

use Prim.Native.Nat.{◌+◌, ◌*◌}
use native.Mathlib.Omega.{arith}
use Rattle.numbering.specs.Counting.{rooted_more, rooted_all, root_small}
use Rattle.numbering.proofs.write_roots.Goals as goal

pub overflow_cast-root : goal.overflow_cast-root
overflow_cast-root c =
    let i = c.loop-i.i in
    omega (arith, root_small c.args.sheet.now i c.section_root-root.ensures (c.type_inv.sheet (4 + 2 * i)))

pub loop-i-preserved : goal.loop-i-preserved
loop-i-preserved c = rooted_more c.loop-i.invariant (omega arith) c.section_root-root.ensures c.byte-end-in-loop-i.ensures

pub returns : goal.returns
returns c = rooted_all c.byte-end.ensures c.loop-i.invariant (omega arith)

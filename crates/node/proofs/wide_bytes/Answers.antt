-- `wide_bytes` meets its contract.
-- Assumes nothing.
use native.Mathlib.Omega.{arith}
use Prim.Native.Nat.{◌+◌}
use Rattle.node.specs.Wide.{wide_bytes_lem}
use Rattle.node.proofs.wide_bytes.Goals as goal

pub returns : goal.returns
returns c =
    let n = c.args.at in
    wide_bytes_lem c.args.s.now n c.byte_of.ensures c.byte_of-2.ensures c.byte_of-3.ensures
    c.byte_of-4.ensures (omega (arith, c.byte_of-2.ensures, c.type_inv.s (n + 2)))
    (omega (arith, c.byte_of-3.ensures, c.type_inv.s (n + 3)))
    (omega (arith, c.byte_of-4.ensures, c.type_inv.s (n + 4)))

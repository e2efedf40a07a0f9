-- `bytes` meets its contract: as many are copied as have room. Assumes nothing.
use borrow.Rule.Slice.PartMut.{Post-is}
use native.Mathlib.Omega.{arith}
use Prim.Native.Nat.{◌+◌}
use Rattle.report.proofs.TextLaws.{wrote_room}
use Rattle.report.proofs.bytes.Goals as goal

pub returns : goal.returns
returns c =
    let p = c.place-start.result in
    rw (c.copy_from_slice.ensures.after, Post-is p (p + c.min-count.result) c.args.text.now (omega arith))
    (wrote_room c.args.bytes.now c.args.text.now c.place-start.ensures c.min-count.ensures)

use Prim.Native.Nat.{◌+◌}
use native.Mathlib.Omega.{arith}
use lib.ListN.{get_or}
use Rattle.sheet.proofs.PartsLaws.{kind_narrow}
use Rattle.records.specs.AnewLaws.{copied_more, copied_all}
use Rattle.records.proofs.write_record.Goals as goal

pub overflow_cast-width : goal.overflow_cast-width
overflow_cast-width c =
    let w = rw c.byte_of-kind.ensures at c.record_width-width.ensures in
    omega (arith, w, kind_narrow (get_or c.args.s.now (c.args.at + 0) 0))

pub loop-i-preserved : goal.loop-i-preserved
loop-i-preserved c =
    let w = rw c.byte_of-kind.ensures at c.record_width-width.ensures in
    copied_more c.loop-i.invariant (omega (arith, w)) c.byte_of-kind.ensures c.part.ensures c.byte_of-b.ensures
    (rw c.from-k.ensures at c.chosen.ensures) c.byte-end.ensures

pub returns : goal.returns
returns c =
    let w = rw c.byte_of-kind.ensures at c.record_width-width.ensures in
    copied_all c.loop-i.invariant (omega (arith, w))

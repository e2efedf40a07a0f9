-- `record` meets its contract. Assumes nothing.
use native.Mathlib.Omega.{arith}
use Prim.Native.Nat.{◌*◌}
use lib.ListN.{get_or}
use Rattle.sheet.proofs.PartsLaws.{kind_narrow}
use Rattle.parsing.specs.Nodes.{record_part}
use Rattle.report.specs.Writing.{wrote_text}
use Rattle.parsing.proofs.whole.record.Goals as goal

pub overflow_add-n : goal.overflow_add-n
overflow_add-n c =
    let i = c.record_width-width.ensures in
    let k = kind_narrow (get_or c.args.slots.now (8 * c.args.n) 0) in
    omega arith

pub slice_bounds-bytes-end : goal.slice_bounds-bytes-end
slice_bounds-bytes-end c =
    let i = c.record_width-width.ensures in
    let k = kind_narrow (get_or c.args.slots.now (8 * c.args.n) 0) in
    omega arith

pub returns : goal.returns
returns c =
    wrote_text c.bytes.ensures (record_part c.args.slots.now c.args.n c.record_width-width.ensures)

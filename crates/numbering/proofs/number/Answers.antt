-- `numbering::number` meets its contract: the refusals in their order, or the sheet in the one numbering. Assumes nothing.
use mathlib.Core.Path.{◌≡◌, sym, ◌∙◌}
use native.Mathlib.Omega.{arith}
use Rattle.std.specs.Prelude.{None}
use Rattle.value.proofs.Numbered.{passed_on}
use Rattle.records.specs.AnewLaws.{bytes_known}
use Rattle.numbering.specs.Counting.{Fine, fine_read, fine_table, used_twice}
use Rattle.numbering.specs.Meeting.{Single, ordered_few}
use Rattle.numbering.specs.NumberStages.{no_room, no_sheet, is_twice, is_single, is_done}
use Rattle.numbering.proofs.number.Goals as goal
use Rattle.numbering.proofs.number.Goals.{In_ok-t, In_default}

pub returns-then-out-lt-OUTPUT : goal.returns-then-out-lt-OUTPUT
returns-then-out-lt-OUTPUT c = let both = no_room _ _ c.if-out-lt-OUTPUT.true in record { value = both.0; out_after = both.1 }

pub returns-in_err-t : goal.returns-in_err-t
returns-in_err-t c =
    let both = no_sheet _ _ c.if-out-lt-OUTPUT.false c.in_err-t.ensures in
    record { value = rw (passed_on c.from_residual.result c.from_residual.ensures.1) both.0; out_after = both.1 }

-- WHAT IS KNOWN THERE
abbrev fine : (c : In_ok-t) → Fine c.args.sheet.now c.in_ok-t.t
fine c = record { table = c.in_ok-t.ensures }

pub returns-in-Some : goal.returns-in-Some
returns-in-Some c =
    let f = fine (goal.at.returns-in-Some c).In_ok-t in
    let first = c.first_used_twice.ensures (fine_read f).0 (fine_read f).1.sheet (fine_table f) in
    let both = is_twice f (sym c.in-Some.is ∙ first) _ c.if-out-lt-OUTPUT.false in
    record { value = both.0; out_after = both.1 }

-- no node is used twice
abbrev fine-once : (c : In_default) → Fine c.args.sheet.now c.in_ok-t.t
fine-once c = record { table = c.in_ok-t.ensures }

none : (c : In_default) → None ≡ used_twice (fine_read (fine-once c)).0
none c =
    let f = fine-once c in
    sym c.in_default.is ∙ c.first_used_twice.ensures (fine_read f).0 (fine_read f).1.sheet (fine_table f)

single : (c : In_default) → Single c.args.sheet.now c.in_ok-t.t
single c = is_single (fine-once c) (none c)

pub meet-requires : goal.meet-requires
meet-requires c = single (goal.at.meet-requires c).In_default

pub in_order-m-requires : goal.in_order-m-requires
in_order-m-requires c = omega (arith, ordered_few (single (goal.at.in_order-m-requires c).In_default) c.meet.ensures)

pub returns : goal.returns
returns c =
    let p = (goal.at.returns c).In_default in
    let both = is_done (fine-once p) _ c.if-out-lt-OUTPUT.false (none p) (bytes_known c.args.sheet.now c.type_inv.sheet) c.meet.ensures
    c.in_order-m.ensures c.write.ensures in
    record { value = both.0; out_after = both.1 }

-- `lens_print_sheet` meets its contract: the printer's reply, packed. Assumes nothing.
use native.Mathlib.Omega.{arith}
use Rattle.records.specs.AnewLaws.{bytes_known}
use Rattle.printing.specs.Small.{text_inside, node_inside}
use Rattle.lens.specs.Tools.{number_packed, told_inside}
use Rattle.lens.proofs.sheet_texts.lens_print_sheet.Goals as goal

pub returns : goal.returns
returns c =
    let e = c.print.ensures in
    let bytes = bytes_known c.args.sheet.now c.type_inv.sheet in
    let h = told_inside 16384 (λ n f. text_inside _ _ e.value bytes f) (λ n f. omega (arith, node_inside _ _ e.value f)) in
    number_packed (e.value, e.out_after) (omega (arith, h)) c.pack_numbered.ensures

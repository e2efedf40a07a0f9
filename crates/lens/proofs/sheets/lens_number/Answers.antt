-- `lens_number` meets its contract: the numbering's reply, packed. Assumes nothing.
use native.Mathlib.Omega.{arith}
use Rattle.numbering.specs.Small.{sheet_inside, node_inside}
use Rattle.lens.specs.Tools.{number_packed, told_inside}
use Rattle.lens.proofs.sheets.lens_number.Goals as goal

pub returns : goal.returns
returns c =
    let e = c.number.ensures in
    let h = told_inside 1619 (λ n f. sheet_inside _ _ e.value f) (λ n f. omega (arith, node_inside _ _ e.value f)) in
    number_packed (e.value, e.out_after) (omega (arith, h)) c.pack_numbered.ensures

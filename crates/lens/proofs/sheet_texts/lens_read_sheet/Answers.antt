-- `lens_read_sheet` meets its contract: the reader's reply, packed, and the place of a fault. Assumes nothing.
use native.Mathlib.Omega.{arith}
use Rattle.parsing.specs.Small.{sheet_inside}
use Rattle.lens.specs.Readings.{read_packed}
use Rattle.lens.proofs.sheet_texts.lens_read_sheet.Goals as goal

pub returns : goal.returns
returns c =
    let e = c.read.ensures in
    read_packed (e.value, e.out_after) (λ n f. omega (arith, sheet_inside _ _ e.value f)) c.hand_reading.ensures

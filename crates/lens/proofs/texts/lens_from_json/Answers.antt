-- `lens_from_json` meets its contract: what was made, packed. Assumes nothing.
use native.Mathlib.Omega.{arith}
use Rattle.notation.proofs.Laws.{from_short}
use Rattle.lens.specs.Tools.{made_packed, made_inside}
use Rattle.lens.proofs.texts.lens_from_json.Goals as goal

pub returns : goal.returns
returns c =
    let m = c.read.ensures in
    made_packed m (omega (arith, made_inside 256 m (λ u e. from_short _ _ e))) c.pack_made.ensures

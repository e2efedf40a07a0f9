-- `lens_to_json` meets its contract: what was made, packed. Assumes nothing.
use native.Mathlib.Omega.{arith}
use Rattle.notation.proofs.Laws.{to_short}
use Rattle.lens.specs.Tools.{made_packed, made_inside}
use Rattle.lens.proofs.texts.lens_to_json.Goals as goal

pub returns : goal.returns
returns c =
    let m = c.write.ensures in
    made_packed m (omega (arith, made_inside 2048 m (λ u e. to_short _ _ e))) c.pack_made.ensures

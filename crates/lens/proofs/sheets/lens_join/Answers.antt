-- `lens_join` meets its contract: what was made, packed. Assumes nothing.
use native.Mathlib.Omega.{arith}
use Rattle.join.specs.JoinAnswer.{join_short}
use Rattle.lens.specs.Tools.{made_packed, made_inside}
use Rattle.lens.proofs.sheets.lens_join.Goals as goal

pub returns : goal.returns
returns c =
    let m = c.join.ensures in
    made_packed m (omega (arith, made_inside 1619 m (λ u e. join_short _ _ _ e))) c.pack_made.ensures

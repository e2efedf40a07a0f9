-- `lens_why_get` meets its contract: the explanation, handed out. Assumes nothing.
use native.Mathlib.Omega.{arith}
use Rattle.lens.specs.Explanations.{get_handed}
use Rattle.lens.proofs.explanations.lens_why_get.Goals as goal

pub returns : goal.returns
returns c =
    get_handed _ _ _ _ (omega arith) c.hand_why.ensures c.why_get-why.ensures

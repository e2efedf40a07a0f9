-- `lens_why_put` meets its contract: the explanation, handed out. Assumes nothing.
use native.Mathlib.Omega.{arith}
use Rattle.lens.specs.Explanations.{put_handed}
use Rattle.lens.proofs.explanations.lens_why_put.Goals as goal

pub returns : goal.returns
returns c =
    put_handed _ _ _ _ (omega arith) c.hand_why.ensures _ c.why_put-why.ensures

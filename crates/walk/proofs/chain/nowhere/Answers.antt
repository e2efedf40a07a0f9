-- `nowhere` meets its contract. Assumes nothing.
use mathlib.Core.Path.{refl}
use Rattle.walk.specs.Call.Explained.{nowhere}
use Rattle.walk.proofs.chain.nowhere.Goals as goal

pub returns : goal.returns
unfolding nowhere
returns c = refl

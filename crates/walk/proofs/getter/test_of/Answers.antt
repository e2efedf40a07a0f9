-- `test_of` meets its contract.
-- Assumes nothing.
use mathlib.Core.Path.{◌∙◌}
use Rattle.walk.specs.Get.Case.{test_none, test_there}
use Rattle.walk.proofs.getter.test_of.Goals as goal

pub returns-then-kind-eq25 : goal.returns-then-kind-eq25
returns-then-kind-eq25 c = test_none _ _ _ _ c.if-kind-eq25.true

pub returns : goal.returns
returns c = c.byte_of.ensures ∙ test_there _ _ _ _ c.if-kind-eq25.false

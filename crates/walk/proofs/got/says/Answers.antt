-- `says` meets its contract: the test 0 says yes to anything. Assumes nothing.
use mathlib.Core.Path.{sym}
use Rattle.walk.specs.Get.Branch.{says_any}
use Rattle.walk.proofs.got.says.Goals as goal

pub returns-then-test-eq0 : goal.returns-then-test-eq0
returns-then-test-eq0 c = sym (says_any _ c.if-test-eq0.true)

pub returns : goal.returns
returns c = c.passes.ensures.value

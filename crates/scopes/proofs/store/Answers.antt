use native.Mathlib.Omega.{arith}
use Rattle.scopes.specs.Storing.{pasting_more}
use Rattle.scopes.proofs.store.Goals as goal

pub loop-i-preserved : goal.loop-i-preserved
loop-i-preserved c = (c.loop-i.invariant.0, pasting_more c.loop-i.invariant.1 (omega arith) c.loop-i-test.true)

-- `met_at` meets its contract. Assumes nothing.
use mathlib.Core.Path.{ap₂}
use native.Mathlib.Omega.{arith}
use Prim.Native.Nat.{ℕ}
use Rattle.outcome.specs.Outcome.{start_small}
use Rattle.walk.proofs.chain.met_at.Goals as goal

pub overflow_cast-result : goal.overflow_cast-result
overflow_cast-result c = record { fits = omega (arith, c.len.ensures, c.requires) }

pub overflow_cast-result-2 : goal.overflow_cast-result-2
overflow_cast-result-2 c = record { fits = omega (arith, c.start.ensures, start_small c.args.answer) }

pub returns : goal.returns
returns c = ap₂ (λ (d f : ℕ). record { depth = d; first = f }) c.len.ensures c.start.ensures

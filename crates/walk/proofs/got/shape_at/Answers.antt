-- `shape_at` meets its contract.
-- Assumes nothing.
use mathlib.Core.Path.{◌≡◌}
use native.Mathlib.Omega.{arith}
use Prim.Native.Nat.{◌+◌, ◌-◌}
use Rattle.outcome.specs.Outcome.{len_of, start_of}
use Rattle.walk.proofs.got.shape_at.Goals as goal

pub returns : goal.returns
returns c =
    let z : start_of c.args.got + len_of c.args.got - start_of c.args.got ≡ len_of c.args.got = omega arith in
    rw (← z) (rw (← c.start-start.ensures, ← c.len.ensures) c.shape_of.ensures)

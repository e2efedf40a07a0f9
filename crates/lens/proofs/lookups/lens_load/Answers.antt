-- `lens_load` meets its contract: what loading gives, handed out, and packed with its count. Assumes nothing.
use native.Mathlib.Omega.{arith}
use Rattle.lens.specs.HandedOut.{starts_handed, few_loaded, counted_load, refused_load}
use Rattle.lens.proofs.lookups.lens_load.Goals as goal

pub returns-in-Err : goal.returns-in-Err
returns-in-Err c = rw (← c.in-Err.ensures) (refused_load _ (rw c.number.ensures at c.pack.ensures) _)

pub returns-in-Ok : goal.returns-in-Ok
returns-in-Ok c =
    let few = few_loaded _ _ c.in-Ok.ensures in
    rw (← c.in-Ok.ensures)
    (counted_load _ c.pack-in-Ok.ensures (starts_handed _ _ c.hand.ensures c.from.ensures (omega arith) few (omega (arith, few))))

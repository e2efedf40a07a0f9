-- `hand_put` meets its contract: no start, or those of the new plan. Assumes nothing.
use native.Mathlib.Omega.{arith}
use Rattle.starts.specs.Starts.{no_starts}
use Rattle.lens.specs.HandedOut.{none_handed, starts_handed}
use Rattle.lens.proofs.answers.hand_put.Goals as goal

pub pack-requires : goal.pack-requires
pack-requires c = rw c.in-Err.is at c.requires.0

pub pack-requires-in-Ok : goal.pack-requires-in-Ok
pack-requires-in-Ok c = rw c.in-Ok.is at c.requires.0

pub returns-in-Err : goal.returns-in-Err
unfolding no_starts
returns-in-Err c = rw c.in-Err.is (record { packed = c.pack.ensures; starts = none_handed _ })

pub returns-in-Ok : goal.returns-in-Ok
returns-in-Ok c =
    let few = rw c.in-Ok.is at c.requires.1 in
    rw c.in-Ok.is (record { packed = c.pack-in-Ok.ensures; starts = starts_handed _ _ c.hand.ensures c.from.ensures (omega arith) few (omega (arith, few)) })

-- `scopes::store` meets its contract. The invariant: the bytes fit, and i of them are copied.
use Prim.Native.Nat.{◌≤◌, ◌+◌}
use lib.ListN.{length}
use Rattle.scopes.specs.Storing.{Pasting}
use Rattle.scopes.proofs.store.Given as goal

abbrev pub invariant-loop-i : goal.invariant-loop-i
invariant-loop-i l = (l.at + length l.from ≤ length l.initial.arena) × Pasting l.at l.i l.from l.initial.arena l.arena

-- `type_len` meets its contract: the types still owed are counted from byte to byte. Assumes nothing.
use Prim.Native.Nat.{◌≤◌}
use Rattle.types.specs.SlotsLaws.{Owing}
use Rattle.types.proofs.lent.type_len.Given as goal

abbrev pub invariant-loop-at : goal.invariant-loop-at
invariant-loop-at l = Owing l.s l.at l.owed × (1 ≤ l.owed)

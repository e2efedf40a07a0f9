-- The invariant: `bits` has those of the cells from i on.
use Prim.Native.Nat.{min}
use Rattle.arena.specs.Bits.{BitsFrom}
use Rattle.arena.proofs.bits_of.Given as goal

abbrev pub invariant-loop-i : goal.invariant-loop-i
invariant-loop-i l = BitsFrom l.slots (min l.k 16) l.i l.bits

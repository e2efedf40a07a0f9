-- `copy_in` meets its contract. The invariant: i bytes are copied.
use Rattle.walk.specs.Arena.Parts.{CopyingIn}
use Rattle.walk.proofs.bytes.copy_in.Given as goal

abbrev pub invariant-loop-i : goal.invariant-loop-i
invariant-loop-i l = CopyingIn l.i l.from l.initial.arena l.arena

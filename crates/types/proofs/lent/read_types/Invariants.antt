-- `read_types` meets its contract: slot after slot. Assumes nothing.
use Rattle.types.specs.Slots.{lent_below}
use Rattle.types.specs.Laying.{Reading}
use Rattle.types.proofs.lent.read_types.Given as goal

abbrev pub invariant-loop-slot : goal.invariant-loop-slot
invariant-loop-slot l = Reading l.types (lent_below l.k l.sections l.nodes) l.starts l.at l.slot

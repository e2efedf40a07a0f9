-- `numbering::places` meets its contract: the places of the first i nodes are set. Assumes nothing.
use Rattle.numbering.specs.Places.{Placing}
use Rattle.numbering.proofs.places.Given as goal

abbrev pub invariant-loop-i : goal.invariant-loop-i
invariant-loop-i l = Placing l.fn.l l.i l.places

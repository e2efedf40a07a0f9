-- `numbering::write_roots` meets its contract: the main root and i sections' roots are written. Assumes nothing.
use Rattle.numbering.specs.Counting.{Rooted}
use Rattle.numbering.proofs.write_roots.Given as goal

abbrev pub invariant-loop-i : goal.invariant-loop-i
invariant-loop-i l = Rooted l.sheet l.fn.t l.i l.initial.end l.initial.list l.list l.end

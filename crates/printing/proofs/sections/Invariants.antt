-- `sections` meets its contract: the first i sections are written. Assumes nothing.
use Rattle.printing.specs.Whole.{SectionsPut}
use Rattle.printing.proofs.sections.Given as goal

abbrev pub invariant-loop-i : goal.invariant-loop-i
invariant-loop-i l = SectionsPut l.source l.fn.count l.i l.fn.at l.initial.out l.out l.end

-- `records::write_sections` meets its contract: i sections are written. Assumes nothing.
use Rattle.records.specs.AnewLaws.{Rooted}
use Rattle.records.proofs.write_sections.Given as goal

abbrev pub invariant-loop-i : goal.invariant-loop-i
invariant-loop-i l = Rooted l.s l.m l.i l.at l.initial.out l.out l.end

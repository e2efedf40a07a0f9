-- `records::write_record` meets its contract: i bytes of the record are written. Assumes nothing.
use Rattle.records.specs.AnewLaws.{Copied}
use Rattle.records.proofs.write_record.Given as goal

abbrev pub invariant-loop-i : goal.invariant-loop-i
invariant-loop-i l = Copied l.s l.at l.m l.i l.to l.initial.out l.out l.end

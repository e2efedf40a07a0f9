-- `records::write_nodes` meets its contract: i records are written. Assumes nothing.
use Rattle.records.specs.AnewLaws.{Listed}
use Rattle.records.proofs.write_nodes.Given as goal

abbrev pub invariant-loop-i : goal.invariant-loop-i
invariant-loop-i l = Listed l.s l.t.starts l.m l.i l.at l.initial.out l.out l.end

-- `hex` meets its contract: the first bytes are written. Assumes nothing.
use lib.ListN.{take}
use Rattle.report.specs.Text.{hex_of}
use Rattle.report.specs.Writing.{Wrote}
use Rattle.report.proofs.hex.Given as goal

abbrev pub invariant-loop-b : goal.invariant-loop-b
invariant-loop-b l = Wrote (hex_of (take l.b-index l.bytes)) l.at l.initial.text l.text l.end

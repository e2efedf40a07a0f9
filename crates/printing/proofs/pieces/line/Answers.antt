-- `line` meets its contract. Assumes nothing.
use Rattle.report.specs.Writing.{wrote_then}
use Rattle.printing.proofs.pieces.line.Goals as goal

pub returns : goal.returns
returns c = wrote_then c.byte-end.ensures (rw c.min.ensures at c.blanks.ensures)

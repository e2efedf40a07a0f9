-- `each_open` meets its contract: the parts of the text, one behind the other. Assumes nothing.
use Rattle.report.specs.Writing.{wrote_then}
use Rattle.printing.specs.Pieces.{each_text}
use Rattle.printing.proofs.pieces.each_open.Goals as goal

pub returns : goal.returns
unfolding each_text
returns c =
    wrote_then c.bytes-end.ensures (wrote_then c.part-end.ensures c.byte.ensures)

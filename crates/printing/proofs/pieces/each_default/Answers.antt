-- `each_default` meets its contract: the parts of the text, one behind the other. Assumes nothing.
use Rattle.report.specs.Writing.{wrote_then}
use Rattle.printing.specs.Pieces.{with_text}
use Rattle.printing.proofs.pieces.each_default.Goals as goal

pub returns : goal.returns
unfolding with_text
returns c =
    wrote_then c.bytes-end.ensures (wrote_then c.variable-end.ensures c.bytes.ensures)

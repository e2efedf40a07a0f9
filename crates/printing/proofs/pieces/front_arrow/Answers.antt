-- `front_arrow` meets its contract: the parts of the text, one behind the other. Assumes nothing.
use Rattle.report.specs.Writing.{wrote_then}
use Rattle.printing.specs.Pieces.{front_text}
use Rattle.printing.proofs.pieces.front_arrow.Goals as goal

pub returns : goal.returns
unfolding front_text
returns c =
    wrote_then c.line-end.ensures (wrote_then c.byte-end.ensures (wrote_then c.name-end.ensures (wrote_then c.bytes-end.ensures
    (wrote_then c.name-end-2.ensures c.bytes.ensures))))

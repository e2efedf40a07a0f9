-- `rest_default` meets its contract: the parts of the text, one behind the other. Assumes nothing.
use Rattle.report.specs.Writing.{wrote_then}
use Rattle.printing.specs.Pieces.{rest_text}
use Rattle.printing.proofs.pieces.rest_default.Goals as goal

pub returns : goal.returns
unfolding rest_text
returns c =
    wrote_then c.bytes-end.ensures (wrote_then c.name-end.ensures c.bytes.ensures)

-- `first_default` meets its contract: the parts of the text, one behind the other. Assumes nothing.
use Rattle.report.specs.Writing.{wrote_then}
use Rattle.printing.specs.Pieces.{first_text}
use Rattle.printing.proofs.pieces.first_default.Goals as goal

pub returns : goal.returns
unfolding first_text
returns c =
    wrote_then c.line-end.ensures (wrote_then c.bytes-end.ensures (wrote_then c.name-end.ensures c.bytes.ensures))

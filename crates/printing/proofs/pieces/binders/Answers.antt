-- `binders` meets its contract: the parts of the text, one behind the other. Assumes nothing.
use Rattle.report.specs.Writing.{wrote_then}
use Rattle.printing.specs.Pieces.{binders_text}
use Rattle.printing.proofs.pieces.binders.Goals as goal

pub returns : goal.returns
unfolding binders_text
returns c =
    wrote_then c.bytes-end.ensures (wrote_then c.name-end.ensures (wrote_then c.bytes-end-2.ensures (wrote_then c.name-end-2.ensures
    c.bytes.ensures)))

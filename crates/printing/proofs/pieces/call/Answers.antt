-- `call` meets its contract: the parts of the text, one behind the other. Assumes nothing.
use Rattle.report.specs.Writing.{wrote_then}
use Rattle.printing.specs.Pieces.{call_text}
use Rattle.printing.proofs.pieces.call.Goals as goal

pub returns : goal.returns
unfolding call_text
returns c =
    wrote_then c.part-end.ensures (wrote_then c.byte-end.ensures (wrote_then c.variable-end.ensures (wrote_then c.bytes-end.ensures
    (wrote_then c.variable-end-2.ensures c.byte.ensures))))

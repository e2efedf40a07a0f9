-- `head` meets its contract: the parts of the text, one behind the other. Assumes nothing.
use Rattle.report.specs.Writing.{wrote_then}
use Rattle.printing.specs.Whole.{head_text}
use Rattle.printing.proofs.head.Goals as goal

pub returns : goal.returns
unfolding head_text
returns c =
    wrote_then c.bytes-end.ensures (wrote_then c.part-end.ensures c.bytes.ensures)

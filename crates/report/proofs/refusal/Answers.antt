-- `refusal` meets its contract: the parts of the line, one behind the other. Assumes nothing.
use Rattle.report.specs.Text.{refusal_line}
use Rattle.report.specs.Writing.{wrote_then}
use Rattle.report.proofs.refusal.Goals as goal

pub returns : goal.returns
unfolding refusal_line
returns c =
    wrote_then c.bytes-end.ensures (wrote_then c.decimal_word-end.ensures c.byte.ensures)

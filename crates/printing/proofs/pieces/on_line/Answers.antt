-- `on_line` meets its contract. Assumes nothing.
use Rattle.report.specs.Writing.{wrote_then}
use Rattle.printing.proofs.pieces.on_line.Goals as goal

pub returns : goal.returns
returns c =
    wrote_then c.line-end.ensures c.bytes.ensures

-- `comma` meets its contract. Assumes nothing.
use Rattle.report.specs.Writing.{wrote_then}
use Rattle.printing.proofs.pieces.comma.Goals as goal

pub returns : goal.returns
returns c =
    wrote_then c.or_line-end.ensures c.bytes.ensures

-- `write` meets its contract. Assumes nothing.
use Rattle.report.specs.Writing.{wrote_then}
use Rattle.parsing.proofs.whole.write.Goals as goal

pub returns : goal.returns
returns c =
    wrote_then c.bytes-end.ensures c.records.ensures

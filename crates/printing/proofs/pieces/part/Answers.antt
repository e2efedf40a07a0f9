-- `part` meets its contract. Assumes nothing.
use mathlib.Core.Path.{sym}
use Rattle.report.specs.Writing.{wrote_then, wrote_text}
use Rattle.printing.specs.Pieces.{part_is}
use Rattle.printing.proofs.pieces.part.Goals as goal

pub returns : goal.returns
returns c =
    wrote_text (wrote_then c.bytes-end.ensures c.decimal.ensures) (sym (part_is _))

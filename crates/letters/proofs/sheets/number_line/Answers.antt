-- `number_line` meets its contract: the line of what was replied. Assumes nothing.
use mathlib.Core.Path.{refl}
use Rattle.report.specs.Writing.{wrote_text}
use Rattle.letters.specs.SheetLaws.{number_is}
use Rattle.letters.proofs.sheets.number_line.Goals as goal

pub returns : goal.returns
returns c =
    wrote_text c.numbered_line.ensures (number_is _ c.rest_from.ensures refl _ (c.number-reply.ensures.value, c.number-reply.ensures.out_after))

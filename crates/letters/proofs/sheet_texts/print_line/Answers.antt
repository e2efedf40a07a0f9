-- `print_line` meets its contract: the line of what was replied. Assumes nothing.
use mathlib.Core.Path.{refl}
use Rattle.report.specs.Writing.{wrote_text}
use Rattle.letters.specs.SheetTextLaws.{print_is}
use Rattle.letters.proofs.sheet_texts.print_line.Goals as goal

pub returns : goal.returns
returns c =
    wrote_text c.numbered_line.ensures (print_is _ c.rest_from.ensures refl _ (c.print-reply.ensures.value, c.print-reply.ensures.out_after))

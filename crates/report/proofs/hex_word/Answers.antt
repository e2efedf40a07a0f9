-- `hex_word` meets its contract: a space, and the word. Assumes nothing.
use Rattle.report.proofs.TextLaws.{wrote_word}
use Rattle.report.proofs.hex_word.Goals as goal

pub returns : goal.returns
returns c =
    wrote_word c.byte-end.ensures c.hex.ensures

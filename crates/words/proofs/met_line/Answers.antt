-- `met_line` meets its contract: the words of the line, one behind another. Assumes nothing.
use Rattle.words.proofs.AnswersLaws.{wrote_met}
use Rattle.words.proofs.met_line.Goals as goal

pub returns : goal.returns
returns c =
    wrote_met _ _ _ c.bytes-end.ensures (rw c.from.ensures at c.decimal_word-end.ensures) (rw c.from-2.ensures at c.decimal_word-end-2.ensures)
    c.decimal_word-end-3.ensures
    c.number_words-end.ensures c.by_words-end.ensures c.byte.ensures

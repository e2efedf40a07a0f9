-- `node_line` meets its contract: the words of the line, one behind another. Assumes nothing.
use Rattle.words.proofs.AnswersLaws.{wrote_node_line}
use Rattle.words.proofs.node_line.Goals as goal

pub returns : goal.returns
returns c =
    wrote_node_line _ _ c.bytes-end.ensures (rw c.from.ensures at c.decimal_word-end.ensures) c.decimal_word-end-2.ensures c.byte.ensures

-- `by_words` meets its contract: nobody, or a node. Assumes nothing.
use Rattle.report.specs.Writing.{wrote_then, wrote_text}
use Rattle.words.proofs.AnswersLaws.{by_none, by_some}
use Rattle.words.proofs.by_words.Goals as goal

pub returns-then-first-eq0 : goal.returns-then-first-eq0
returns-then-first-eq0 c = wrote_text c.place.ensures (by_none c.if-first-eq0.true)

pub returns : goal.returns
returns c =
    wrote_text (wrote_then c.bytes-end.ensures c.decimal_word.ensures) (by_some _ c.if-first-eq0.false c.from.ensures)

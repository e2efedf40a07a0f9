-- `empty_arrow` meets its contract: the parts of the text, one behind the other. Assumes nothing.
use Rattle.printing.specs.Pieces.{empty_put}
use Rattle.printing.proofs.pieces.empty_arrow.Goals as goal

pub returns : goal.returns
returns c =
    empty_put _ _ c.name_length-first.ensures.value c.name_length-rest.ensures.value
    c.bytes-end.ensures c.line-end.ensures c.bytes-end-2.ensures c.blanks-end.ensures c.bytes.ensures

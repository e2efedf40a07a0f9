-- `success` meets its contract: the words of the line, one behind the other. Assumes nothing.
use mathlib.Core.List.{[], ◌∷◌}
use Rattle.report.specs.Text.{decimal_of, hex_of, success_line}
use Rattle.report.proofs.TextLaws.{wrote_words, wrote_ok}
use Rattle.report.proofs.success.Goals as goal

pub returns : goal.returns
unfolding success_line
returns c =
    let n = decimal_of c.args.steps in
    let o = hex_of c.args.output.now in
    wrote_ok (n ∷ o ∷ []) c.bytes-end.ensures
    (wrote_words (n ∷ []) (o ∷ []) c.decimal_word-end.ensures c.hex_word-end.ensures) c.byte.ensures

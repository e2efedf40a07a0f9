-- `number_words` meets its contract: the numbers so far are written. Assumes nothing.
use mathlib.Core.List.{map}
use lib.ListN.{take}
use Rattle.report.specs.Text.{decimal_of, words}
use Rattle.report.specs.Writing.{Wrote}
use Rattle.words.proofs.number_words.Given as goal

abbrev pub invariant-loop-n : goal.invariant-loop-n
invariant-loop-n g l =
    Wrote (words (map (λ n. decimal_of (g.T.Decimal.number n)) (take l.n-index l.numbers))) l.at l.initial.text l.text l.end

use native.Mathlib.Omega.{arith}
use Rattle.report.specs.Text.{decimal_of, words}
use Rattle.words.proofs.Starts.{wrote_number}
use Rattle.words.proofs.number_words.Goals as goal

pub loop-n-init : goal.loop-n-init
unfolding words
loop-n-init g c = c.place-end.ensures

pub loop-n-preserved : goal.loop-n-preserved
loop-n-preserved g c =
    wrote_number (λ n. decimal_of (g.T.Decimal.number n)) c.args.numbers.now c.loop-n.n-index c.n-item.result (omega arith) c.n-item.is
    c.loop-n.invariant (rw c.number.ensures at c.decimal_word-end.ensures)

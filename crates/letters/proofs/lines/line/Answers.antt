-- `line` meets its contract: the line of one word. Assumes nothing.
use Rattle.std.proofs.Common.{append-nil}
use Rattle.report.specs.Text.{words, ok_line}
use Rattle.report.specs.Writing.{wrote_then}
use Rattle.letters.proofs.lines.line.Goals as goal

pub returns : goal.returns
unfolding ok_line words
returns g c =
    rw (append-nil (g.T.Say.said c.args.word.now)) (wrote_then c.bytes-end.ensures (wrote_then c.say-end.ensures c.byte.ensures))

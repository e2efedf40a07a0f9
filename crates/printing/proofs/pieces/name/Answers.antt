-- `name` meets its contract: `sent`, a letter, or a letter and a number. Assumes nothing.
use mathlib.Core.Path.{sym, ap}
use Rattle.report.specs.Writing.{wrote_then, wrote_text}
use Rattle.printing.specs.Pieces.{is_sent, name_sent, name_a, name_first, name_more}
use Rattle.printing.proofs.pieces.name.Goals as goal

pub returns-in-A : goal.returns-in-A
returns-in-A c = wrote_text c.byte.ensures (sym (name_a _ _ c.if-x-eq0.true (ap is_sent c.in-A.is)))

pub returns-in-Sent : goal.returns-in-Sent
returns-in-Sent c = wrote_text c.bytes.ensures (sym (name_sent _ _ c.if-x-eq0.true (ap is_sent c.in-Sent.is)))

pub returns-then-x-lt26 : goal.returns-then-x-lt26
returns-then-x-lt26 c =
    wrote_text c.byte-end.ensures (sym (name_first (is_sent c.args.first) _ c.if-x-eq0.false
    c.if-x-lt26.true))

pub returns : goal.returns
returns c =
    wrote_text (wrote_then c.byte-end.ensures c.decimal.ensures)
    (sym (name_more (is_sent c.args.first) _ c.if-x-lt26.false))

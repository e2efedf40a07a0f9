use mathlib.Core.Path.{sym}
use Rattle.report.specs.Writing.{wrote_text}
use Rattle.report.proofs.TextLaws.{decimal_small}
use Rattle.report.proofs.Digits.{set_more, all_set}
use Rattle.report.proofs.decimal.Goals as goal

pub returns-then-n-lt10 : goal.returns-then-n-lt10
returns-then-n-lt10 c =
    wrote_text (rw c.digit.ensures at c.byte.ensures) (sym (decimal_small c.args.n c.if-n-lt10.true))

pub loop-m-preserved : goal.loop-m-preserved
loop-m-preserved c = set_more c.loop-m.i c.loop-m.invariant c.loop-m-test.true c.digit-in-loop-m.ensures

pub returns : goal.returns
returns c = wrote_text c.bytes.ensures (all_set c.loop-m.invariant c.loop-m-test.false c.digit-2.ensures)

-- `test` meets its contract. Assumes nothing.
use mathlib.Core.Path.{sym, ap}
use native.Mathlib.Omega.{arith}
use Rattle.report.specs.Writing.{wrote_text}
use Rattle.printing.specs.Pieces.{test_text, test_many}
use Rattle.syntax.specs.Printer.{test_name}
use Rattle.printing.proofs.pieces.test.Goals as goal

pub returns-in-0 : goal.returns-in-0
unfolding test_text test_name
returns-in-0 c = wrote_text c.place.ensures (sym (ap test_text c.in-0.is))

pub returns-in-1 : goal.returns-in-1
unfolding test_text test_name
returns-in-1 c = wrote_text c.bytes.ensures (sym (ap test_text c.in-1.is))

pub returns-in-2 : goal.returns-in-2
unfolding test_text test_name
returns-in-2 c = wrote_text c.bytes-in-2.ensures (sym (ap test_text c.in-2.is))

pub returns-in-3 : goal.returns-in-3
unfolding test_text test_name
returns-in-3 c = wrote_text c.bytes-in-3.ensures (sym (ap test_text c.in-3.is))

pub returns-in-4 : goal.returns-in-4
unfolding test_text test_name
returns-in-4 c = wrote_text c.bytes-in-4.ensures (sym (ap test_text c.in-4.is))

pub returns-in-5 : goal.returns-in-5
unfolding test_text test_name
returns-in-5 c = wrote_text c.bytes-in-5.ensures (sym (ap test_text c.in-5.is))

pub returns-in_default : goal.returns-in_default
returns-in_default c =
    wrote_text c.bytes-in_default.ensures
    (sym (test_many _ (λ z. omega arith) (λ z. omega arith) (λ z. omega arith) (λ z. omega arith) (λ z. omega arith) (λ z. omega arith)))

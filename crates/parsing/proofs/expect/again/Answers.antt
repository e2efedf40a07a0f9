-- `again` meets its contract. Assumes nothing.
use mathlib.Core.Path.{sym, ◌∙◌}
use Rattle.parsing.specs.Names.{fails}
use Rattle.parsing.specs.Expect.{again_none, again_other, again_read}
use Rattle.parsing.proofs.expect.again.Goals as goal

pub returns-then-not-is : goal.returns-then-not-is
returns-then-not-is c =
    rw c.fault.ensures (again_none c.args.place c.args.detail c.next-t.ensures c.if-c-ne0.false (fails c.is.ensures c.if-not-is.true))

pub returns-then-not-is_same : goal.returns-then-not-is_same
returns-then-not-is_same c =
    rw c.fault-then-not-is_same.ensures (again_other c.args.place c.args.detail c.next-t.ensures c.if-c-ne0.false
    (sym c.is_same.ensures ∙ c.if-not-is_same.true))

pub returns : goal.returns
returns c =
    rw c.read.ensures (again_read c.args.place c.args.detail c.next-t.ensures c.if-c-ne0.false
    (sym c.is_same.ensures ∙ c.if-not-is_same.false))

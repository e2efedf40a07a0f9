-- `callee` meets its contract. Assumes nothing.
use mathlib.Core.Path.{sym, ◌∙◌}
use Rattle.parsing.specs.Expect.{name_kind, no_callee, callee_read}
use Rattle.parsing.proofs.expect.callee.Goals as goal

pub returns-then-not-is_name : goal.returns-then-not-is_name
returns-then-not-is_name c =
    rw c.fault.ensures
    (no_callee c.args.table.now c.args.c c.next-t.ensures c.if-c-ne0.false (sym c.is_name.ensures ∙ c.if-not-is_name.true))

pub resolved-requires : goal.resolved-requires
resolved-requires c =
    (c.next-t.ensures.shape, name_kind c.args.text.now c.next-t.result (sym c.is_name.ensures ∙ c.if-not-is_name.false), c.requires)

pub returns : goal.returns
returns c =
    callee_read c.args.table.now c.args.c c.next-t.ensures c.if-c-ne0.false (sym c.is_name.ensures ∙ c.if-not-is_name.false)
    (rw c.read.ensures at c.resolved.ensures)

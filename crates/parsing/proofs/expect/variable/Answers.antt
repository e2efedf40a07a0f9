-- `variable` meets its contract. Assumes nothing.
use mathlib.Core.Path.{sym, ◌∙◌}
use Rattle.parsing.specs.Names.{fails, found_some, found_none}
use Rattle.parsing.specs.Expect.{name_kind, variable_hash, variable_none, variable_lost, variable_named}
use Rattle.parsing.proofs.expect.variable.Goals as goal

pub returns-then-is : goal.returns-then-is
returns-then-is c =
    variable_hash c.args.names.now c.args.sc c.args.c c.next-t.ensures c.if-c-ne0.false (c.is.ensures.0 c.if-is.true) c.by_number.ensures

pub returns-then-not-is_name : goal.returns-then-not-is_name
returns-then-not-is_name c =
    rw c.fault.ensures (variable_none c.args.names.now c.args.sc c.args.c c.next-t.ensures c.if-c-ne0.false (fails c.is.ensures c.if-is.false)
    (sym c.is_name.ensures ∙ c.if-not-is_name.true))

pub lookup-requires : goal.lookup-requires
lookup-requires c =
    (c.next-t.ensures.shape, name_kind c.args.text.now c.next-t.result (sym c.is_name.ensures ∙ c.if-not-is_name.false), c.requires)

pub returns-in-None : goal.returns-in-None
returns-in-None c =
    rw c.fault-in-None.ensures (variable_lost c.args.names.now c.args.sc c.args.c c.next-t.ensures c.if-c-ne0.false
    (sym c.is_name.ensures ∙ c.if-not-is_name.false) (found_none c.in-None.ensures))

pub returns-in-Some : goal.returns-in-Some
returns-in-Some c =
    rw c.read.ensures (variable_named c.args.names.now c.args.sc c.args.c c.next-t.ensures c.if-c-ne0.false
    (sym c.is_name.ensures ∙ c.if-not-is_name.false) (found_some c.in-Some.ensures))

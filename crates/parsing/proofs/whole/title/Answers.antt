-- `title` meets its contract. Assumes nothing.
use mathlib.Core.Path.{sym, ◌∙◌}
use mathlib.Core.Bool.{true, false}
use native.Mathlib.Omega.{arith}
use Rattle.parsing.specs.Names.{found_is}
use Rattle.parsing.specs.Whole.{title_none, title_taken, title_new}
use Rattle.parsing.specs.Expect.{name_kind}
use Rattle.parsing.proofs.whole.title.Goals as goal

pub returns-then-not-is_name : goal.returns-then-not-is_name
returns-then-not-is_name c =
    rw c.fault.ensures (title_none c.args.fresh.now c.next-t.ensures c.if-c-ne0.false (sym c.is_name.ensures ∙ c.if-not-is_name.true))

pub lookup-requires : goal.lookup-requires
lookup-requires c =
    let l = c.requires.1 in
    let h = c.requires.0 in
    (c.next-t.ensures.shape, name_kind c.args.text.now c.next-t.result (sym c.is_name.ensures ∙ c.if-not-is_name.false), omega arith)

pub returns-then-is_some : goal.returns-then-is_some
returns-then-is_some c =
    rw c.fault-then-is_some.ensures (title_taken c.args.fresh.now c.next-t.ensures c.if-c-ne0.false (sym c.is_name.ensures ∙ c.if-not-is_name.false)
    (found_is _ true c.lookup.ensures (sym c.is_some.ensures ∙ c.if-is_some.true)))

pub returns : goal.returns
returns c =
    let h = c.requires.0 in
    let p = c.requires.1 in
    rw c.read.ensures (title_new c.args.fresh.now c.next-t.ensures c.if-c-ne0.false (sym c.is_name.ensures ∙ c.if-not-is_name.false)
    (found_is _ false c.lookup.ensures (sym c.is_some.ensures ∙ c.if-is_some.false)) (omega arith))

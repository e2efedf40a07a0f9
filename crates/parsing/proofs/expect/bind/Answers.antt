-- `bind` meets its contract. Assumes nothing.
use mathlib.Core.Path.{sym, ◌∙◌}
use mathlib.Core.Bool.{true, false}
use native.Mathlib.Omega.{arith}
use Rattle.parsing.specs.Names.{found_is}
use Rattle.parsing.specs.Expect.{some_same, bind_none, bind_taken, bind_wild, bind_new, name_kind, word_kind}
use Rattle.parsing.proofs.expect.bind.Goals as goal

pub returns-then-is_word : goal.returns-then-is_word
returns-then-is_word c =
    let w = sym c.is_word.ensures ∙ c.if-is_word.true in
    rw c.read.ensures
    (bind_wild c.args.sc.base c.args.sc.many c.next-t.ensures c.if-c-ne0.false c.requires
    (word_kind c.args.text.now c.next-t.result (some_same _ _ (omega arith) w)) w)

pub returns-then-not-is_name : goal.returns-then-not-is_name
returns-then-not-is_name c =
    rw c.fault.ensures
    (bind_none c.args.sc.base c.args.sc.many c.next-t.ensures c.if-c-ne0.false (sym c.is_word.ensures ∙ c.if-is_word.false)
    (sym c.is_name.ensures ∙ c.if-not-is_name.true))

pub lookup-requires : goal.lookup-requires
lookup-requires c =
    (c.next-t.ensures.shape, name_kind c.args.text.now c.next-t.result (sym c.is_name.ensures ∙ c.if-not-is_name.false), omega arith)

pub returns-then-is_some : goal.returns-then-is_some
returns-then-is_some c =
    rw c.fault-then-is_some.ensures
    (bind_taken c.args.sc.base c.args.sc.many c.next-t.ensures c.if-c-ne0.false (sym c.is_word.ensures ∙ c.if-is_word.false)
    (sym c.is_name.ensures ∙ c.if-not-is_name.false) (found_is _ true c.lookup.ensures (sym c.is_some.ensures ∙ c.if-is_some.true)))

pub returns : goal.returns
returns c =
    let w = sym c.is_name.ensures ∙ c.if-not-is_name.false in
    rw c.read-2.ensures
    (bind_new c.args.sc.base c.args.sc.many c.next-t.ensures c.if-c-ne0.false c.requires (name_kind c.args.text.now c.next-t.result w)
    (sym c.is_word.ensures ∙ c.if-is_word.false) w (found_is _ false c.lookup.ensures (sym c.is_some.ensures ∙ c.if-is_some.false)))

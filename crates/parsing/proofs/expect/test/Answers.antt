-- `test` meets its contract. Assumes nothing.
use mathlib.Core.Path.{sym, ◌∙◌}
use Rattle.parsing.specs.Names.{found_some, found_none}
use Rattle.parsing.specs.Expect.{test_bare, test_missing, test_read}
use Rattle.parsing.proofs.expect.test.Goals as goal

pub returns-then-not-is_word : goal.returns-then-not-is_word
returns-then-not-is_word c =
    rw c.read.ensures
    (test_bare c.args.bare c.args.after c.args.c c.next-t.ensures c.if-c-ne0.false (sym c.is_word.ensures ∙ c.if-not-is_word.true))

pub returns-in-None : goal.returns-in-None
returns-in-None c =
    rw c.fault.ensures
    (test_missing c.args.bare c.args.after c.args.c c.next-t.ensures c.if-c-ne0.false (sym c.is_word.ensures ∙ c.if-not-is_word.false)
    c.next-u.ensures (found_none c.in-None.ensures))

pub returns-in-Some : goal.returns-in-Some
returns-in-Some c =
    rw c.read-in-Some.ensures
    (test_read c.args.bare c.args.after c.args.c c.next-t.ensures c.if-c-ne0.false (sym c.is_word.ensures ∙ c.if-not-is_word.false)
    c.next-u.ensures (found_some c.in-Some.ensures))

-- `keyword` meets its contract. Assumes nothing.
use mathlib.Core.Path.{refl, sym, ◌∙◌}
use Rattle.parsing.specs.Expect.{goes, keyword_other, keyword_read}
use Rattle.parsing.proofs.expect.keyword.Goals as goal

pub returns-then-not-is_word : goal.returns-then-not-is_word
returns-then-not-is_word c =
    rw c.fault.ensures (goes _ c.if-c-ne0.false refl
    (keyword_other c.args.c c.next-t.ensures c.args.detail c.args.w.now (sym c.is_word.ensures ∙ c.if-not-is_word.true)))

pub returns : goal.returns
returns c =
    rw c.read.ensures (goes _ c.if-c-ne0.false refl
    (keyword_read c.args.c c.next-t.ensures c.args.detail c.args.w.now (sym c.is_word.ensures ∙ c.if-not-is_word.false)))

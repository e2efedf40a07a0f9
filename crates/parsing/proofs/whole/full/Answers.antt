-- `full` meets its contract. Assumes nothing.
use mathlib.Core.Path.{sym, ◌∙◌}
use Rattle.parsing.specs.Whole.{full_wild, full_name, full_none}
use Rattle.parsing.proofs.whole.full.Goals as goal

pub returns-then-is_word : goal.returns-then-is_word
returns-then-is_word c =
    rw c.fault.ensures (full_wild c.next-t.ensures (sym c.is_word.ensures ∙ c.if-is_word.true))

pub returns-then-is_name : goal.returns-then-is_name
returns-then-is_name c =
    rw c.fault-then-is_name.ensures (full_name c.next-t.ensures (sym c.is_word.ensures ∙ c.if-is_word.false) (sym c.is_name.ensures ∙ c.if-is_name.true))

pub returns : goal.returns
returns c =
    rw c.fault-2.ensures (full_none c.next-t.ensures (sym c.is_word.ensures ∙ c.if-is_word.false) (sym c.is_name.ensures ∙ c.if-is_name.false))

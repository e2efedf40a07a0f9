use mathlib.Core.Path.{sym, ◌∙◌}
use native.Mathlib.Omega.{arith}
use Rattle.parsing.specs.Expect.{counted_more, counted_over, zero_fault, letter_fault, number_read, digit_at, at_end}
use Rattle.parsing.proofs.expect.number.Goals as goal

pub returns-then-zero_first : goal.returns-then-zero_first
returns-then-zero_first c =
    rw c.fault.ensures (zero_fault c.requires c.args.detail c.args.c (sym c.zero_first.ensures ∙ c.if-zero_first.true))

pub overflow_sub-digit : goal.overflow_sub-digit
overflow_sub-digit c =
    let d = digit_at c.requires c.loop-i.i c.loop-i.invariant.later (omega arith) in
    omega arith

pub returns-then-most-w : goal.returns-then-most-w
returns-then-most-w c =
    rw c.fault-then-most-w.ensures
    (counted_over c.requires c.loop-i.invariant c.loop-i-test.true c.args.detail c.args.c (rw c.from.ensures at c.if-most-w.true)
    (sym c.zero_first.ensures ∙ c.if-zero_first.false))

pub loop-i-preserved : goal.loop-i-preserved
loop-i-preserved c =
    rw c.from.ensures (counted_more c.requires c.loop-i.invariant c.loop-i-test.true (rw c.from.ensures at c.if-most-w.false))

pub returns-then-letter_at : goal.returns-then-letter_at
returns-then-letter_at c =
    rw c.fault-then-letter_at.ensures
    (letter_fault c.requires (sym c.zero_first.ensures ∙ c.if-zero_first.false) (at_end c.loop-i.invariant c.loop-i-test.false)
    c.args.detail c.args.c
    (sym c.letter_at.ensures ∙ c.if-letter_at.true))

pub returns : goal.returns
returns c =
    rw c.read.ensures
    (number_read c.requires (sym c.zero_first.ensures ∙ c.if-zero_first.false) (at_end c.loop-i.invariant c.loop-i-test.false)
    c.args.detail c.args.c
    (sym c.letter_at.ensures ∙ c.if-letter_at.false))

use native.Mathlib.Omega.{arith}
use Rattle.json_codec.specs.Reader.{counted, counted_all, ended_other, counted_more, counted_over, no_follow_zero}
use Rattle.json_codec.specs.Reader.{no_follow_over}
use Rattle.json_codec.proofs.number.Goals as goal

pub returns-then-not-is_ascii_digit : goal.returns-then-not-is_ascii_digit
returns-then-not-is_ascii_digit c =
    counted c.loop-i.invariant (ended_other c.loop-i.invariant c.loop-i-test.true c.is_ascii_digit.ensures.value c.if-not-is_ascii_digit.true)
    c.store.ensures

pub returns-then-n-eq0 : goal.returns-then-n-eq0
returns-then-n-eq0 c =
    let d = rw c.if-not-is_ascii_digit.false at c.is_ascii_digit.ensures.cases in
    counted_over c.loop-i.invariant c.loop-i-test.true d.0 d.1
    c.args.put
    (no_follow_zero c.loop-i.n _ c.if-n-eq0.true)

pub returns-then-n-gt4294967295 : goal.returns-then-n-gt4294967295
returns-then-n-gt4294967295 c =
    let d = rw c.if-not-is_ascii_digit.false at c.is_ascii_digit.ensures.cases in
    counted_over c.loop-i.invariant c.loop-i-test.true d.0 d.1
    c.args.put
    (no_follow_over c.loop-i.n _ (omega (arith, c.if-n-gt4294967295.true)))

pub loop-i-preserved : goal.loop-i-preserved
loop-i-preserved c =
    let d = rw c.if-not-is_ascii_digit.false at c.is_ascii_digit.ensures.cases in
    rw c.from.ensures (counted_more c.loop-i.invariant c.loop-i-test.true d.0 d.1 c.if-n-eq0.false (omega arith))

pub returns : goal.returns
returns c = counted_all c.loop-i.invariant c.loop-i-test.false c.store-2.ensures

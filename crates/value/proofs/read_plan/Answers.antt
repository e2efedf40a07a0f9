use native.Mathlib.Omega.{arith}
use Rattle.std.specs.Prelude.{Some, Ok}
use Rattle.value.specs.Reader.{from}
use Rattle.value.proofs.Progress.{NextIs, as_malformed, as_too_long, as_missing, next_is, next_short, at_start, too_many, stops, goes_on}
use Rattle.value.proofs.Progress.{more_bytes, ends_well}
use Rattle.value.proofs.read_plan.Goals as goal
use Rattle.value.proofs.read_plan.Goals.{In-Some-Ok}

-- a value is next
next : (c : In-Some-Ok) → NextIs 20 (from c.loop-i.at c.args.s.now) (Some (Ok c.in-Some-Ok.n))
next c = next_is 20 (from c.loop-i.at c.args.s.now) (cc)

pub returns-then-k-gt16 : goal.returns-then-k-gt16
returns-then-k-gt16 c = too_many c.args.k c.args.s.now c.if-k-gt16.true

pub loop-i-init : goal.loop-i-init
loop-i-init c = at_start c.args.k c.args.s.now

pub returns-in-None : goal.returns-in-None
returns-in-None c =
    stops c.loop-i.invariant c.if-k-gt16.false c.loop-i-test.true as_missing (next_is 20 (from c.loop-i.at c.args.s.now) (cc))

pub returns-in-Some-Err-Malformed : goal.returns-in-Some-Err-Malformed
returns-in-Some-Err-Malformed c =
    stops c.loop-i.invariant c.if-k-gt16.false c.loop-i-test.true as_malformed (next_is 20 (from c.loop-i.at c.args.s.now) (cc))

pub returns-in-Some-Err-TooLong : goal.returns-in-Some-Err-TooLong
returns-in-Some-Err-TooLong c =
    stops c.loop-i.invariant c.if-k-gt16.false c.loop-i-test.true as_too_long (next_is 20 (from c.loop-i.at c.args.s.now) (cc))

pub overflow_cast-lens : goal.overflow_cast-lens
overflow_cast-lens c = omega (arith, next_short (next (goal.at.overflow_cast-lens c).In-Some-Ok))

pub overflow_add-at : goal.overflow_add-at
overflow_add-at c = omega (arith, c.loop-i.invariant.small, next_short (next (goal.at.overflow_add-at c).In-Some-Ok))

pub loop-i-preserved : goal.loop-i-preserved
loop-i-preserved c = goes_on c.loop-i.invariant c.if-k-gt16.false c.loop-i-test.true (next (goal.at.loop-i-preserved c).In-Some-Ok)

pub returns-then-at-s : goal.returns-then-at-s
returns-then-at-s c =
    let p = c.loop-i.invariant in
    more_bytes p c.if-k-gt16.false (omega (arith, p.few, c.loop-i-test.false)) c.if-at-s.true

pub returns : goal.returns
returns c =
    let p = c.loop-i.invariant in
    ends_well p c.if-k-gt16.false (omega (arith, p.few, c.loop-i-test.false)) (omega (arith, p.inside, c.if-at-s.false))

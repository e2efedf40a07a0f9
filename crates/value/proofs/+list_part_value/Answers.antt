use Prim.Native.Nat.{◌+◌}
use native.Mathlib.Omega.{arith}
use Rattle.value.specs.Reading.{rest}
use Rattle.value.proofs.Numbered.{passed_on}
use Rattle.value.proofs.Reader.{answered, reads_list, reads_some}
use Rattle.value.proofs.Turns.{at_first, taken, refused, behind, one_value, all_values, value_ended, value_full}
use Rattle.value.proofs.Turns.{value_taken, value_refused, value_plain, value_pair, list_ended, list_full, list_empty, no_list_there, member_owed}
use Rattle.value.proofs.+list_part_value.Goals as goal

pub list-loop-at-init : goal.list-loop-at-init
list-loop-at-init t c = at_first rest c.args.s.now c.args.room

pub list-returns-then-room-at : goal.list-returns-then-room-at
list-returns-then-room-at t c = list_full c.loop-at.invariant c.loop-at-test.true c.if-room-at.true

pub list-returns-then-kind-eq2 : goal.list-returns-then-kind-eq2
list-returns-then-kind-eq2 t c = answered
    (list_empty c.loop-at.invariant c.loop-at-test.true (omega arith) c.if-kind-eq2.true) (omega arith) (omega (arith, c.requires))

pub list-returns-then-kind-ne3 : goal.list-returns-then-kind-ne3
list-returns-then-kind-ne3 t c = no_list_there c.loop-at.invariant c.loop-at-test.true (omega arith)
    c.if-kind-eq2.false c.if-kind-ne3.true

pub list-returns : goal.list-returns
list-returns t c = list_ended c.loop-at.invariant (omega arith)

pub value-loop-owed-init : goal.value-loop-owed-init
value-loop-owed-init t c = one_value c.args.s.now c.args.room

pub value-returns-then-s-at : goal.value-returns-then-s-at
value-returns-then-s-at t c = value_ended c.loop-owed.invariant c.loop-owed-test.true c.if-s-at.true

pub value-returns-then-room-at : goal.value-returns-then-room-at
value-returns-then-room-at t c = value_full c.loop-owed.invariant c.loop-owed-test.true (omega arith) c.if-room-at.true

pub value-loop-owed-preserved-then-kind-lt2 : goal.value-loop-owed-preserved-then-kind-lt2
value-loop-owed-preserved-then-kind-lt2 t c = value_plain c.loop-owed.invariant c.loop-owed-test.true (omega arith)
    (omega arith) c.if-kind-lt2.true

pub value-loop-owed-preserved-then-kind-eq5 : goal.value-loop-owed-preserved-then-kind-eq5
value-loop-owed-preserved-then-kind-eq5 t c = value_pair c.loop-owed.invariant
    c.loop-owed-test.true (omega arith) (omega arith) c.if-kind-eq5.true

pub value-loop-owed-preserved : goal.value-loop-owed-preserved
value-loop-owed-preserved t c = value_taken c.loop-owed.invariant c.loop-owed-test.true
    (behind c.args.s.now c.loop-owed.at c.in_ok-at.ensures)

pub value-loop-owed-smaller : goal.value-loop-owed-smaller
value-loop-owed-smaller t c = omega (arith, reads_some c.in_ok-at.ensures)

pub value-returns-in_err-at : goal.value-returns-in_err-at
value-returns-in_err-at t c =
    rw (passed_on c.from_residual.result c.from_residual.ensures.1) (value_refused c.loop-owed.invariant c.loop-owed-test.true
    (behind c.args.s.now c.loop-owed.at c.in_err-at.ensures))

pub value-returns : goal.value-returns
value-returns t c = all_values c.loop-owed.invariant c.loop-owed-test.false

pub list-loop-at-preserved : goal.list-loop-at-preserved
list-loop-at-preserved t c = taken
    (member_owed c.loop-at.invariant
    c.loop-at-test.true (omega arith) c.if-kind-ne3.false)
    (behind c.args.s.now (c.loop-at.at + 1) (rw c.in-Ok.is at c.value.ensures))

pub list-returns-in-Err-Malformed : goal.list-returns-in-Err-Malformed
list-returns-in-Err-Malformed t c = refused
    (member_owed c.loop-at.invariant c.loop-at-test.true (omega arith) c.if-kind-ne3.false)
    (behind c.args.s.now (c.loop-at.at + 1) (rw (c.in-Err-Malformed.is, c.in-Err-Malformed.field-0-is) at c.value.ensures))

pub list-returns-in-Err-TooLong : goal.list-returns-in-Err-TooLong
list-returns-in-Err-TooLong t c = refused
    (member_owed c.loop-at.invariant c.loop-at-test.true (omega arith) c.if-kind-ne3.false)
    (behind c.args.s.now (c.loop-at.at + 1) (rw (c.in-Err-TooLong.is, c.in-Err-TooLong.field-0-is) at c.value.ensures))

pub part-returns-then-s-lt4 : goal.part-returns-then-s-lt4
part-returns-then-s-lt4 t c =
    let p = c.requires in
    rw c.read.ensures (reads_list (λ e. omega (arith, p.byte)) (λ e. omega (arith, p.some)) p.kind c.if-s-lt4.true c.list.ensures)

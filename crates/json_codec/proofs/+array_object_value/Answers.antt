use Prim.Native.Nat.{ℕ}
use native.Mathlib.Omega.{arith}
use Rattle.value.proofs.Numbered.{passed_on}
use Rattle.json_codec.specs.Reader.{gives_later}
use Rattle.json_codec.specs.Turns.{Behind, First, Listed, Second, array_deep, array_empty, array_ended, array_first, close_asks, closed, comma_asks}
use Rattle.json_codec.specs.Turns.{first_inside, first_refused, first_read, label_asks, member_read, member_refused, more_close, more_comma}
use Rattle.json_codec.specs.Turns.{more_ended, more_other, no_comma, no_first, no_second, not_closed, object_deep, scalar_there, second_inside}
use Rattle.json_codec.specs.Turns.{second_read, second_refused, value_array, value_ended, value-object, value_scalar}
use Rattle.json_codec.proofs.+array_object_value.Goals as goal
use Rattle.json_codec.proofs.+array_object_value.Goals.{array-At-loop-member, array-In_ok-member, object-In_ok-first, object-In_ok-second}

array-listed : (t : ℕ) (c : array-At-loop-member t) → Listed c.args.levels c.args.s.now c.args.at c.args.put c.args.out.now c.loop-member.i c.loop-member.out
    c.loop-member.p
array-listed t c = c.loop-member.invariant _ c.byte-p.ensures

array-listed-in : (t : ℕ) (c : array-In_ok-member t) → Listed c.args.levels c.args.s.now c.args.at c.args.put c.args.out.now c.loop-member.i c.loop-member.out
    c.loop-member.p
array-listed-in t c = c.loop-member.invariant _ c.byte-p.ensures

array-behind : (t : ℕ) (c : array-In_ok-member t)
    → Behind c.args.levels c.args.s.now c.args.at c.args.put c.args.out.now c.in_ok-member.member.at c.value.new.out c.in_ok-member.member.put
array-behind t c = member_read (array-listed-in t c) c.value.ensures c.in_ok-member.was

object-one : (t : ℕ) (c : object-In_ok-first t)
    → First c.args.levels c.args.s.now c.args.at c.args.put c.args.out.now c.in_ok-first.first.at c.value.new.out c.in_ok-first.first.put
object-one t c =
    first_read c.args.levels c.args.put c.requires c.label.ensures c.in_ok-a.was c.byte-p.ensures
    c.value.ensures
    c.in_ok-first.was

object-both : (t : ℕ) (c : object-In_ok-second t)
    → Second c.args.levels c.args.s.now c.args.at c.args.put c.args.out.now c.in_ok-second.second.at c.value-2.new.out c.in_ok-second.second.put
object-both t c =
    second_read (first_read c.args.levels c.args.put c.requires c.label.ensures c.in_ok-a.was c.byte-p.ensures c.value.ensures c.in_ok-first.was)
    c.pass.ensures c.in_ok-comma.was c.label-2.ensures c.in_ok-b.was c.value-2.ensures
    c.in_ok-second.was

pub array-returns-then-s-i : goal.array-returns-then-s-i
array-returns-then-s-i t c =
    array_ended c.args.levels c.args.put c.requires c.skip-i.ensures c.if-s-i.true c.args.out.now

pub array-returns-then-s-i-eq93 : goal.array-returns-then-s-i-eq93
array-returns-then-s-i-eq93 t c =
    array_empty c.args.levels c.args.put c.requires c.skip-i.ensures c.if-s-i.false c.if-s-i-eq93.true
    c.byte.ensures

pub array-loop-member-init : goal.array-loop-member-init
array-loop-member-init t c x w =
    array_first c.args.levels c.args.put c.requires c.skip-i.ensures c.if-s-i.false c.if-s-i-eq93.false w

pub array-value-requires : goal.array-value-requires
array-value-requires t c =
    let o = (array-listed t (goal.at.array-value-requires t c).At-loop-member).on in
    (omega (arith, c.decreases, c.requires, o.later, o.inside), o.inside)

pub array-returns-in_err-member : goal.array-returns-in_err-member
array-returns-in_err-member t c =
    rw (passed_on c.from_residual.result c.from_residual.ensures.1)
    (member_refused (array-listed t (goal.at.array-returns-in_err-member t c).At-loop-member) c.value.ensures c.in_err-member.was)

pub array-skip-j-requires : goal.array-skip-j-requires
array-skip-j-requires t c = (array-behind t (goal.at.array-skip-j-requires t c).In_ok-member).on.inside

pub array-returns-then-s-j : goal.array-returns-then-s-j
array-returns-then-s-j t c = more_ended (array-behind t (goal.at.array-returns-then-s-j t c).In_ok-member) c.skip-j.ensures c.if-s-j.true

pub array-returns-then-c-eq93 : goal.array-returns-then-c-eq93
array-returns-then-c-eq93 t c =
    more_close (array-behind t (goal.at.array-returns-then-c-eq93 t c).In_ok-member) c.skip-j.ensures c.if-s-j.false c.if-c-eq93.true
    c.byte-then-c-eq93.ensures

pub array-returns-then-c-ne44 : goal.array-returns-then-c-ne44
array-returns-then-c-ne44 t c =
    more_other (array-behind t (goal.at.array-returns-then-c-ne44 t c).In_ok-member) c.skip-j.ensures c.if-s-j.false c.if-c-eq93.false c.if-c-ne44.true

pub array-loop-member-smaller : goal.array-loop-member-smaller
array-loop-member-smaller t c =
    omega (
      arith,
      gives_later c.value.ensures c.in_ok-member.was,
      c.skip-j.ensures.later,
      c.if-s-j.false,
    )

pub array-loop-member-preserved : goal.array-loop-member-preserved
array-loop-member-preserved t c x w =
    more_comma (member_read (c.loop-member.invariant x w) c.value.ensures c.in_ok-member.was) c.skip-j.ensures
    c.if-s-j.false c.if-c-ne44.false c.byte-p-in-loop-member.ensures

pub object-returns-in_err-a : goal.object-returns-in_err-a
object-returns-in_err-a t c =
    rw (passed_on c.from_residual.result c.from_residual.ensures.1)
    (no_first c.args.levels c.args.put c.requires c.label.ensures c.in_err-a.was c.args.out.now)

pub object-value-requires : goal.object-value-requires
object-value-requires t c =
    let q = first_inside c.args.levels c.args.put c.requires c.label.ensures c.in_ok-a.was in
    (omega (arith, c.decreases, c.requires, q), q.1)

pub object-returns-in_err-first : goal.object-returns-in_err-first
object-returns-in_err-first t c =
    rw (passed_on c.from_residual-in_err-first.result c.from_residual-in_err-first.ensures.1)
    (first_refused c.args.levels c.args.put c.requires c.label.ensures c.in_ok-a.was c.byte-p.ensures c.value.ensures c.in_err-first.was)

pub object-pass-requires : goal.object-pass-requires
object-pass-requires t c = (comma_asks (object-one t (goal.at.object-pass-requires t c).In_ok-first), omega arith)

pub object-returns-in_err-comma : goal.object-returns-in_err-comma
object-returns-in_err-comma t c =
    rw (passed_on c.from_residual-in_err-comma.result c.from_residual-in_err-comma.ensures.1)
    (no_comma (object-one t (goal.at.object-returns-in_err-comma t c).In_ok-first) c.pass.ensures c.in_err-comma.was)

pub object-label-requires-2 : goal.object-label-requires-2
object-label-requires-2 t c = label_asks (object-one t (goal.at.object-label-requires-2 t c).In_ok-first) c.pass.ensures c.in_ok-comma.was

pub object-returns-in_err-b : goal.object-returns-in_err-b
object-returns-in_err-b t c =
    rw (passed_on c.from_residual-in_err-b.result c.from_residual-in_err-b.ensures.1)
    (no_second (object-one t (goal.at.object-returns-in_err-b t c).In_ok-first) c.pass.ensures c.in_ok-comma.was c.label-2.ensures
    c.in_err-b.was)

pub object-value-requires-2 : goal.object-value-requires-2
object-value-requires-2 t c =
    let q = second_inside (object-one t (goal.at.object-value-requires-2 t c).In_ok-first) c.pass.ensures c.in_ok-comma.was c.label-2.ensures
    c.in_ok-b.was in
    (omega (arith, c.decreases, c.requires, q), q.1)

pub object-returns-in_err-second : goal.object-returns-in_err-second
object-returns-in_err-second t c =
    rw (passed_on c.from_residual-in_err-second.result c.from_residual-in_err-second.ensures.1)
    (second_refused (object-one t (goal.at.object-returns-in_err-second t c).In_ok-first) c.pass.ensures c.in_ok-comma.was c.label-2.ensures
    c.in_ok-b.was c.value-2.ensures c.in_err-second.was)

pub object-pass-requires-2 : goal.object-pass-requires-2
object-pass-requires-2 t c = (close_asks (object-both t (goal.at.object-pass-requires-2 t c).In_ok-second), omega arith)

pub object-returns-in_err-last : goal.object-returns-in_err-last
object-returns-in_err-last t c =
    rw (passed_on c.from_residual-in_err-last.result c.from_residual-in_err-last.ensures.1)
    (not_closed (object-both t (goal.at.object-returns-in_err-last t c).In_ok-second) c.pass-2.ensures c.in_err-last.was)

pub object-returns : goal.object-returns
object-returns t c = closed (object-both t (goal.at.object-returns t c).In_ok-second) c.pass-2.ensures c.in_ok-last.was

pub value-returns-then-s-i : goal.value-returns-then-s-i
value-returns-then-s-i t c =
    value_ended c.args.levels c.args.put c.requires c.skip-i.ensures c.if-s-i.true c.args.out.now

pub value-returns-then-levels-eq0 : goal.value-returns-then-levels-eq0
value-returns-then-levels-eq0 t c =
    array_deep c.args.levels c.args.put c.requires c.skip-i.ensures c.if-s-i.false c.in-91.is c.if-levels-eq0.true
    c.args.out.now

pub value-array-requires : goal.value-array-requires
value-array-requires t c =
    (omega (arith, c.decreases, c.requires, c.skip-i.ensures.later, c.if-s-i.false), omega (arith, c.if-s-i.false))

pub value-returns-else-levels-eq0 : goal.value-returns-else-levels-eq0
value-returns-else-levels-eq0 t c =
    value_array c.args.levels c.args.put c.requires c.skip-i.ensures c.if-s-i.false c.in-91.is
    c.if-levels-eq0.false c.array.ensures

pub value-returns-then-levels-eq0-2 : goal.value-returns-then-levels-eq0-2
value-returns-then-levels-eq0-2 t c =
    object_deep c.args.levels c.args.put c.requires c.skip-i.ensures c.if-s-i.false c.in-123.is c.if-levels-eq0-2.true
    c.args.out.now

pub value-object-requires : goal.value-object-requires
value-object-requires t c =
    (omega (arith, c.decreases, c.requires, c.skip-i.ensures.later, c.if-s-i.false), omega (arith, c.if-s-i.false))

pub value-returns-else-levels-eq0-2 : goal.value-returns-else-levels-eq0-2
value-returns-else-levels-eq0-2 t c =
    value-object c.args.levels c.args.put c.requires c.skip-i.ensures c.if-s-i.false
    c.in-123.is
    c.if-levels-eq0-2.false c.object.ensures

pub value-scalar-requires : goal.value-scalar-requires
value-scalar-requires t c =
    scalar_there c.args.levels c.args.put c.requires c.skip-i.ensures c.if-s-i.false (λ e. omega arith) (λ e. omega arith)

pub value-returns-in_default : goal.value-returns-in_default
value-returns-in_default t c =
    value_scalar c.args.levels c.args.put c.requires c.skip-i.ensures c.if-s-i.false c.scalar.ensures

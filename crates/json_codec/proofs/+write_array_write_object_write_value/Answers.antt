use Prim.Native.Nat.{ℕ}
use native.Mathlib.Omega.{arith}
use Rattle.json_codec.specs.WriterTurns.{Turned, Turning, array_none, array_some, first_deep, first_holds, is_scalar, list_closed, list_deep}
use Rattle.json_codec.specs.WriterTurns.{list_goes_on, list_begins, list_there, member_deep, member_done, member_end, member_holds, member_there}
use Rattle.json_codec.specs.WriterTurns.{pair_deep, pair_done, rest_there, second_deep, second_holds, two_there, value_list, value_pair, value_there}
use Rattle.value.proofs.Numbered.{passed_on}
use Rattle.json_codec.proofs.+write_array_write_object_write_value.Goals as goal
use Rattle.json_codec.proofs.+write_array_write_object_write_value.Goals.{write_array-At-loop-member, write_array-In_ok-member}

write_array-turning : (t : ℕ) (c : write_array-At-loop-member t)
    → Turning c.args.v.now c.args.at c.args.levels c.args.put c.args.text.now c.requires.l c.requires.more c.loop-member.i c.loop-member.text c.loop-member.p
write_array-turning t c = c.loop-member.invariant c.requires.l c.requires.more c.requires.held _ c.byte-p.ensures

write_array-turned : (t : ℕ) (c : write_array-In_ok-member t)
    → Turned c.args.v.now c.args.at c.args.levels c.args.put c.args.text.now c.requires.l c.requires.more c.in_ok-member.member.at
    c.write_value.new.text
    c.in_ok-member.member.put
write_array-turned t c =
    member_done (c.loop-member.invariant c.requires.l c.requires.more c.requires.held _ c.byte-p.ensures) c.write_value.ensures c.in_ok-member.was

pub write_array-returns-then-v-i-eq2 : goal.write_array-returns-then-v-i-eq2
write_array-returns-then-v-i-eq2 t c =
    array_none c.args.levels c.args.put c.if-v-i-eq2.true c.byte-p.ensures c.byte.ensures

pub write_array-loop-member-init : goal.write_array-loop-member-init
write_array-loop-member-init t c l more h b w =
    array_some c.args.levels c.args.put c.if-v-i-eq2.false h w

pub write_array-write_value-requires : goal.write_array-write_value-requires
write_array-write_value-requires t c = (
  omega (
    arith,
    c.decreases,
    member_there (write_array-turning t (goal.at.write_array-write_value-requires t c).At-loop-member),
    (write_array-turning t (goal.at.write_array-write_value-requires t c).At-loop-member).later,
  ),
  member_holds (write_array-turning t
      (goal.at.write_array-write_value-requires t c).At-loop-member),
)

pub write_array-returns-in_err-member : goal.write_array-returns-in_err-member
write_array-returns-in_err-member t c =
    rw (passed_on c.from_residual.result c.from_residual.ensures.1)
    record { puts = λ l more q. member_deep (c.loop-member.invariant l more q _ c.byte-p.ensures) c.write_value.ensures c.in_err-member.was }

pub write_array-bounds-v-i-in-loop-member : goal.write_array-bounds-v-i-in-loop-member
write_array-bounds-v-i-in-loop-member t c = rest_there (write_array-turned t (goal.at.write_array-bounds-v-i-in-loop-member t c).In_ok-member)

pub write_array-returns-then-v-i-eq2-2 : goal.write_array-returns-then-v-i-eq2-2
write_array-returns-then-v-i-eq2-2 t c =
    record {
      puts = λ l more q. list_closed (member_done (c.loop-member.invariant l more q _ c.byte-p.ensures) c.write_value.ensures c.in_ok-member.was)
          c.if-v-i-eq2-2.true c.byte-then-v-i-eq2-2.ensures;
    }

pub write_array-loop-member-smaller : goal.write_array-loop-member-smaller
write_array-loop-member-smaller t c =
    omega (
      arith,
      member_end (write_array-turning t (goal.at.write_array-loop-member-smaller t c).At-loop-member) c.write_value.ensures c.in_ok-member.was,
      rest_there (write_array-turned t (goal.at.write_array-loop-member-smaller t c).In_ok-member),
    )

pub write_array-loop-member-preserved : goal.write_array-loop-member-preserved
write_array-loop-member-preserved t c l more q b y =
    list_goes_on (member_done (c.loop-member.invariant l more q b y) c.write_value.ensures c.in_ok-member.was) c.if-v-i-eq2-2.false
    c.byte-p-in-loop-member.ensures

pub write_object-write_value-requires : goal.write_object-write_value-requires
write_object-write_value-requires t c =
    (omega (arith, c.decreases), first_holds c.requires)

pub write_object-write_value-requires-2 : goal.write_object-write_value-requires-2
write_object-write_value-requires-2 t c =
    let q = second_holds c.bytes-p.ensures c.write_value.ensures c.in_ok-first.was c.requires in
    (omega (arith, c.decreases, q.0), q.1)

pub write_object-returns-in_err-first : goal.write_object-returns-in_err-first
write_object-returns-in_err-first t c =
    rw (passed_on c.from_residual.result c.from_residual.ensures.1)
    (first_deep c.bytes-p.ensures c.write_value.ensures c.in_err-first.was)

pub write_object-returns-in_err-second : goal.write_object-returns-in_err-second
write_object-returns-in_err-second t c =
    rw (passed_on c.from_residual-in_err-second.result c.from_residual-in_err-second.ensures.1)
    (second_deep c.bytes-p.ensures c.write_value.ensures c.in_ok-first.was c.bytes-q.ensures c.write_value-2.ensures c.in_err-second.was)

pub write_object-returns : goal.write_object-returns
write_object-returns t c =
    pair_done c.bytes-p.ensures c.write_value.ensures c.in_ok-first.was c.bytes-q.ensures c.write_value-2.ensures c.in_ok-second.was
    c.byte.ensures

pub write_value-returns-then-levels-eq0-2 : goal.write_value-returns-then-levels-eq0-2
write_value-returns-then-levels-eq0-2 t c =
    list_deep (omega arith) (omega arith) c.args.levels c.args.put c.if-levels-eq0-2.true c.args.text.now

pub write_value-write_array-requires : goal.write_value-write_array-requires
write_value-write_array-requires t c =
    (omega (arith, c.decreases), list_there (omega arith) (omega arith) c.requires)

pub write_value-returns-else-levels-eq0-2 : goal.write_value-returns-else-levels-eq0-2
write_value-returns-else-levels-eq0-2 t c =
    value_list (omega arith) (omega arith) c.args.levels c.args.put c.if-levels-eq0-2.false
    c.write_array.ensures

pub write_value-returns-then-levels-eq0 : goal.write_value-returns-then-levels-eq0
write_value-returns-then-levels-eq0 t c =
    pair_deep c.in-5.is c.args.levels c.args.put c.if-levels-eq0.true c.args.text.now

pub write_value-write_object-requires : goal.write_value-write_object-requires
write_value-write_object-requires t c =
    (omega (arith, c.decreases, value_there c.requires), two_there c.in-5.is c.requires)

pub write_value-returns-else-levels-eq0 : goal.write_value-returns-else-levels-eq0
write_value-returns-else-levels-eq0 t c =
    value_pair c.in-5.is c.args.levels c.args.put c.if-levels-eq0.false c.write_object.ensures

pub write_value-write_scalar-requires : goal.write_value-write_scalar-requires
write_value-write_scalar-requires t c =
    is_scalar c.requires (λ e. omega arith) (λ e. omega arith) (λ e. omega arith)

pub write_value-returns-in_default : goal.write_value-returns-in_default
write_value-returns-in_default t c = c.write_scalar.ensures _

pub write_array-bounds-v-i : goal.write_array-bounds-v-i
write_array-bounds-v-i t c = omega (arith, list_begins c.requires.held)

pub write_array-overflow_add-i : goal.write_array-overflow_add-i
write_array-overflow_add-i t c = omega (arith, member_there (write_array-turning t (goal.at.write_array-overflow_add-i t c).At-loop-member))

pub write_value-bounds-v-at : goal.write_value-bounds-v-at
write_value-bounds-v-at t c = omega (arith, value_there c.requires)

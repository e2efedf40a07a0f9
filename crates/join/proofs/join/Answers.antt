-- `join::join` meets its contract: the refusals in their order, or the joined sheet. Assumes nothing.
use native.Mathlib.Omega.{arith}
use Rattle.value.proofs.Numbered.{passed_on}
use Rattle.records.specs.AnewLaws.{bytes_known}
use Rattle.join.specs.JoinStages.{Fine, no_room, no_first, fine_few, no_second, no_variables, no_nodes, no_sections, joinable, all_written}
use Rattle.join.proofs.join.Goals as goal
use Rattle.join.proofs.join.Goals.{In_ok-a, In_ok-b}

-- WHAT IS KNOWN THERE
first : (c : In_ok-a) → Fine c.args.first.now c.in_ok-a.a
first c = record { table = c.in_ok-a.ensures }

second : (c : In_ok-b) → Fine c.args.second.now c.in_ok-b.b
second c = record { table = c.in_ok-b.ensures }

pub returns-then-out-lt-OUTPUT : goal.returns-then-out-lt-OUTPUT
returns-then-out-lt-OUTPUT c = no_room _ _ _ c.if-out-lt-OUTPUT.true

pub returns-in_err-a : goal.returns-in_err-a
returns-in_err-a c = rw (passed_on c.from_residual.result c.from_residual.ensures.1) (no_first _ _ _ c.if-out-lt-OUTPUT.false c.in_err-a.ensures)

pub returns-in_err-b : goal.returns-in_err-b
returns-in_err-b c =
    rw (passed_on c.from_residual-in_err-b.result c.from_residual-in_err-b.ensures.1)
    (no_second _ _ _ c.if-out-lt-OUTPUT.false (first (goal.at.returns-in_err-b c).In_ok-a) c.in_err-b.ensures)

pub returns-then-a-b : goal.returns-then-a-b
returns-then-a-b c =
    no_variables _ _ _ c.if-out-lt-OUTPUT.false (first (goal.at.returns-then-a-b c).In_ok-a) (second (goal.at.returns-then-a-b c).In_ok-b) c.if-a-b.true

pub overflow_add-a : goal.overflow_add-a
overflow_add-a c = omega (arith, (fine_few (first (goal.at.overflow_add-a c).In_ok-a)).0)

pub overflow_add-a-2 : goal.overflow_add-a-2
overflow_add-a-2 c = omega (arith, (fine_few (first (goal.at.overflow_add-a-2 c).In_ok-a)).0, (fine_few (second (goal.at.overflow_add-a-2 c).In_ok-b)).0)

pub returns-then-a-b-gt200 : goal.returns-then-a-b-gt200
returns-then-a-b-gt200 c =
    no_nodes _ _ _ c.if-out-lt-OUTPUT.false (first (goal.at.returns-then-a-b-gt200 c).In_ok-a) (second (goal.at.returns-then-a-b-gt200 c).In_ok-b)
    c.if-a-b.false c.if-a-b-gt200.true

pub overflow_add-a-3 : goal.overflow_add-a-3
overflow_add-a-3 c = omega (arith, (fine_few (first (goal.at.overflow_add-a-3 c).In_ok-a)).1, (fine_few (second (goal.at.overflow_add-a-3 c).In_ok-b)).1)

pub returns-then-a-b-gt8 : goal.returns-then-a-b-gt8
returns-then-a-b-gt8 c =
    no_sections _ _ _ c.if-out-lt-OUTPUT.false (first (goal.at.returns-then-a-b-gt8 c).In_ok-a) (second (goal.at.returns-then-a-b-gt8 c).In_ok-b)
    c.if-a-b.false c.if-a-b-gt200.false c.if-a-b-gt8.true

pub write-requires : goal.write-requires
write-requires c =
    joinable _ _ c.args.out.now c.if-out-lt-OUTPUT.false (first (goal.at.write-requires c).In_ok-a) (second (goal.at.write-requires c).In_ok-b)
    c.if-a-b.false c.if-a-b-gt200.false c.if-a-b-gt8.false

pub returns : goal.returns
returns c =
    all_written _ _ _ c.if-out-lt-OUTPUT.false (first (goal.at.returns c).In_ok-a) (second (goal.at.returns c).In_ok-b) c.if-a-b.false
    c.if-a-b-gt200.false c.if-a-b-gt8.false
    (bytes_known c.args.first.now c.type_inv.first)
    (bytes_known c.args.second.now c.type_inv.second)
    c.write.ensures

-- `put_leaf` meets its contract.
-- Assumes nothing.
use mathlib.Core.Path.{◌≡◌, ap}
use native.Mathlib.Omega.{arith}
use Prim.Native.Nat.{ℕ, ◌<◌}
use lib.ListN.{get_or}
use Rattle.walk.specs.Put.Leaf.{constant_told, number_as, number_told, var_42, var_writable, var_told, Writable, writable_as, write_as, write_by}
use Rattle.walk.specs.Get.Enter.{node_few}
use Rattle.walk.proofs.putter.put_leaf.Goals as goal
use Rattle.walk.proofs.putter.put_leaf.Goals.{After-number_of-x, Else-count-x}

is-variable : (c : After-number_of-x) → c.args.own.kind ≡ 0x10
is-variable c = omega (arith, c.if-kind-ne16.false)

is-variable-at-Else-count-x : (c : Else-count-x) → c.args.own.kind ≡ 0x10
is-variable-at-Else-count-x c = omega (arith, c.if-kind-ne16.false)

writable : (c : Else-count-x) → Writable c.args.arena.now c.args.slots.now (get_or c.args.cells.now c.number_of-x.result 0) c.args.view.now
writable c =
    writable_as (ap (λ (i : ℕ). get_or c.args.cells.now i 0) c.number_of-x.ensures)
    (var_writable c.requires.kind_asked (is-variable-at-Else-count-x c) (omega (arith, c.number_of-x.ensures, c.if-count-x.false)))

pub returns-then-kind-eq20 : goal.returns-then-kind-eq20
returns-then-kind-eq20 c =
    let k : c.byte_of-then-kind-eq20.result < 256 = omega arith in
    number_told c.requires.kind_asked c.if-kind-eq20.true (rw
    (number_as c.args.sheet.now c.args.own.from c.byte_of.ensures c.byte_of-then-kind-eq20.ensures k) at c.put_bytes.ensures)

pub returns-then-kind-ne16 : goal.returns-then-kind-ne16
returns-then-kind-ne16 c =
    constant_told c.requires.kind_asked c.requires.childless c.if-kind-ne16.true c.if-kind-eq20.false c.put_bytes-then-kind-ne16.ensures

pub returns-then-count-x : goal.returns-then-count-x
returns-then-count-x c =
    var_42 c.requires.kind_asked (is-variable (goal.at.returns-then-count-x c).After-number_of-x) (omega (
      arith,
      c.number_of-x.ensures,
      c.if-count-x.true,
    )) c.refused.ensures

pub returns : goal.returns
returns c =
    let w = c.requires.kind_asked in
    let g = write_by (writable (goal.at.returns c).Else-count-x) (node_few w.sheet w.known.0) (
      rw c.from-c.ensures at c.write.ensures.when,
      (
        rw c.from-c.ensures at c.write.ensures.when_2,
        rw c.from-c.ensures at c.write.ensures.when_3,
      ),
    ) in
    var_told w (is-variable (goal.at.returns c).After-number_of-x) (omega (arith, c.number_of-x.ensures, c.if-count-x.false))
    (write_as (ap (λ (i : ℕ). get_or c.args.cells.now i 0) c.number_of-x.ensures) g)

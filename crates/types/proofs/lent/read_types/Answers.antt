use mathlib.Core.Path.{sym, ◌∙◌}
use Prim.Native.Nat.{◌+◌}
use lib.ListN.{set}
use native.Mathlib.Omega.{arith}
use Rattle.types.specs.Slots.{lent_below}
use Rattle.types.specs.SlotsLaws.{lent_none, lent_up}
use Rattle.types.specs.Laying.{Reading, reading_none, reading_skip, reading_next, reading_ends, reading-done}
use Rattle.types.proofs.lent.read_types.Goals as goal
use Rattle.types.proofs.lent.read_types.Goals.{Joined-is_lent, then-is_lent+in_ok-at, else-is_lent}

-- WHAT IS KNOWN THERE: the next slot is read
next : (c : Joined-is_lent) → Reading c.args.types.now (lent_below c.args.k c.args.sections c.args.nodes)
    (set c.loop-slot.starts (c.loop-slot.slot + 1) c.if-is_lent.at) c.if-is_lent.at (c.loop-slot.slot + 1)
next c =
    let r = c.loop-slot.invariant in
    let h = c.loop-slot-test.true in
    elim c.if-is_lent.branch [
      | then-is_lent+in_ok-at w ↦ rw w.at-is
          (reading_next _ _ (lent_up _ _ _) r h w.if-is_lent.true c.is_lent.ensures (sym w.type_len.ensures ∙ w.in_ok-at.was))
      | else-is_lent w ↦ rw w.at-is (reading_skip _ _ (lent_up _ _ _) r h w.if-is_lent.false c.is_lent.ensures)
    ]

pub loop-slot-init : goal.loop-slot-init
loop-slot-init c = reading_none _ _ (lent_up _ _ _) (lent_none c.args.k c.args.sections c.args.nodes)

pub returns-in_err-at : goal.returns-in_err-at
returns-in_err-at c =
    rw c.from_residual.ensures
    (reading_ends _ _ (lent_up _ _ _) c.loop-slot.invariant c.loop-slot-test.true c.if-is_lent.true c.is_lent.ensures
    (sym c.type_len.ensures ∙ c.in_err-at.was))

pub overflow_add-at : goal.overflow_add-at
overflow_add-at c =
    let r = reading_next _ _ (lent_up _ _ _) c.loop-slot.invariant c.loop-slot-test.true c.if-is_lent.true c.is_lent.ensures
    (sym c.type_len.ensures ∙ c.in_ok-at.was) in
    omega (arith, r.few, r.far)

pub overflow_cast-starts : goal.overflow_cast-starts
overflow_cast-starts c = let r = next (goal.at.overflow_cast-starts c).Joined-is_lent in omega (arith, r.few, r.far)

pub loop-slot-preserved : goal.loop-slot-preserved
loop-slot-preserved c = next (goal.at.loop-slot-preserved c).Joined-is_lent

pub returns : goal.returns
returns c = rw c.then_some.ensures (reading-done _ _ (lent_up _ _ _) c.loop-slot.invariant c.loop-slot-test.false)

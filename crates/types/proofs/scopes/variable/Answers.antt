use borrow.Author.Tests.{lt-ltb, le-ltb}
use native.Mathlib.Omega.{arith}
use Rattle.types.specs.Scopes.{stands_as, climb_none, climb_start, climb_slot, climb_base, climb_around, climb_less, climb_up, climb_no_parts, climb_part}
use Rattle.types.proofs.scopes.variable.Goals as goal
use Rattle.types.proofs.scopes.variable.Goals.{then-outer-x-2, else-outer-x-2}

pub returns-in_err-view : goal.returns-in_err-view
returns-in_err-view c Γ r = let t = r.there in let e = c.in_err-view.was in absurd (cc)

pub returns-then-view-x : goal.returns-then-view-x
returns-then-view-x c Γ r = climb_none c.if-view-x.true (stands_as r c.in_ok-view.was)

pub loop-view-init : goal.loop-view-init
loop-view-init c Γ r = climb_start c.if-view-x.false (stands_as r c.in_ok-view.was)

pub overflow_add-slot : goal.overflow_add-slot
overflow_add-slot c = let h = climb_slot (c.loop-view.invariant c.requires.1.0 c.requires.1.1) c.in-From.is in omega arith

pub returns-in-From : goal.returns-in-From
returns-in-From c Γ r = climb_base (c.loop-view.invariant Γ r) c.in-From.is c.type_in.ensures

pub bounds-stand-subject : goal.bounds-stand-subject
bounds-stand-subject c = (climb_around (c.loop-view.invariant c.requires.1.0 c.requires.1.1) c.in-Inside.is).below

pub offset_bounds-stand-subject : goal.offset_bounds-stand-subject
offset_bounds-stand-subject c =
    let h = (climb_around (c.loop-view.invariant c.requires.1.0 c.requires.1.1) c.in-Inside.is).below in omega arith

pub returns-in_err-outer : goal.returns-in_err-outer
returns-in_err-outer c Γ r =
    let t = (climb_around (c.loop-view.invariant Γ r) c.in-Inside.is).there in let e = c.in_err-outer.was in absurd (cc)

pub returns-in_err-first : goal.returns-in_err-first
returns-in_err-first c Γ r =
    absurd (climb_no_parts (c.loop-view.invariant Γ r) c.in-Inside.is c.in_ok-outer.was c.if-outer-x.true c.type_in-then-outer-x.ensures
    λ t p q e s d. c.in_err-first.ensures t p q e s d)

pub returns-then-outer-x : goal.returns-then-outer-x
returns-then-outer-x c Γ r =
    let y = climb_part (c.loop-view.invariant Γ r) c.in-Inside.is c.in_ok-outer.was c.if-outer-x.true c.type_in-then-outer-x.ensures
    (λ t p q e s d. c.in_ok-first.ensures t p q e s d) in
    elim c.if-outer-x-2.branch [
      | then-outer-x-2 w ↦ rw w.result-is (rw (lt-ltb _ _ w.if-outer-x-2.true) at y)
      | else-outer-x-2 w ↦ rw w.result-is (rw (le-ltb _ _ w.if-outer-x-2.false) at y)
    ]

pub loop-view-smaller : goal.loop-view-smaller
loop-view-smaller c = climb_less (c.loop-view.invariant c.requires.1.0 c.requires.1.1) c.in-Inside.is c.in_ok-outer.was

pub loop-view-preserved : goal.loop-view-preserved
loop-view-preserved c Γ r = climb_up (c.loop-view.invariant Γ r) c.in-Inside.is c.in_ok-outer.was c.if-outer-x.false

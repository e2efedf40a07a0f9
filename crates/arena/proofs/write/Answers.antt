-- `write` meets its contract.
-- Assumes nothing.
use mathlib.Core.Path.{◌≡◌, ap, ap₂, ◌∙◌}
use native.Mathlib.Omega.{arith}
use Prim.Native.Nat.{ℕ, ◌+◌, ◌-◌, ◌≤◌}
use lib.ListN.{get_or, length, set, take, drop}
use lib.Seq.{paste}
use Rattle.shapes.specs.Parts.{same_bytes}
use Rattle.outcome.specs.Outcome.{refused_by}
use Rattle.scopes.specs.Scopes.{noted_len, noted_by}
use Rattle.decisions.specs.Decisions.{judged}
use Rattle.scopes.specs.Scopes.{slot_of}
use Rattle.arena.specs.Writing.{Takes, taken_first, taken_again}
use Rattle.arena.proofs.write.Goals as goal
use Rattle.arena.proofs.write.Goals.{After-noted_len, After-slot_of-slot, Else-len-gt-SLOT}

slot_is : (c : After-slot_of-slot) → c.slot_of-slot.result ≡ slot_of c.args.c
slot_is c = c.slot_of-slot.ensures.inside (omega (arith, c.if-c-ge-VARIABLES.false))

slot_is-at-Else-len-gt-SLOT : (c : Else-len-gt-SLOT) → c.slot_of-slot.result ≡ slot_of c.args.c
slot_is-at-Else-len-gt-SLOT c = c.slot_of-slot.ensures.inside (omega (arith, c.if-c-ge-VARIABLES.false))

takes : (c : Else-len-gt-SLOT) → Takes c.args.arena.now c.args.c c.args.node c.args.view.now
takes c = (
  omega (arith, c.if-c-ge-VARIABLES.false),
  omega (arith, slot_is-at-Else-len-gt-SLOT c, c.if-arena-slot.false),
  omega (arith, c.if-node-gt254.false),
  omega (arith, c.if-len-eq0.false),
  omega (arith, c.if-len-gt-SLOT.false),
)

-- a slot has room for the longest value
short : (c : After-noted_len) → c.noted_len.result ≤ 256
unfolding noted_len
short c = omega (arith, c.noted_len.ensures)

pub returns-then-note-eq0 : goal.returns-then-note-eq0
returns-then-note-eq0 c =
    let w = takes (goal.at.returns-then-note-eq0 c).Else-len-gt-SLOT in
    let n = c.note_of.ensures.inside (w.2, w.3, w.4) in
    let (p0, (p1, p2)) = taken_first c.args.arena.now c.args.slots.now c.args.c c.args.node c.args.view.now w c.if-note-eq0.true c.done.ensures
    (c.store.ensures.inside (omega (arith, slot_is (goal.at.returns-then-note-eq0 c).After-slot_of-slot, w.1, w.4))
    ∙ ap (λ (i : ℕ). paste c.args.arena.now i c.args.view.now (length c.args.view.now)) (slot_is (goal.at.returns-then-note-eq0 c).After-slot_of-slot)) (ap
    (set c.args.slots.now c.args.c) n) in record { when = p0; when_2 = p1; when_3 = p2 }

pub overflow_add-end : goal.overflow_add-end
overflow_add-end c = record {
  fits = omega (
    arith,
    slot_is (goal.at.overflow_add-end c).After-slot_of-slot,
    (takes (goal.at.overflow_add-end c).Else-len-gt-SLOT).0,
    short c,
  );
}

pub slice_bounds-put_again-end : goal.slice_bounds-put_again-end
slice_bounds-put_again-end c =
    omega (arith, slot_is (goal.at.slice_bounds-put_again-end c).After-slot_of-slot, (takes (goal.at.slice_bounds-put_again-end c).Else-len-gt-SLOT).1, short c)

pub returns : goal.returns
returns c =
    let note = get_or c.args.slots.now c.args.c 0 in
    let z : c.slot_of-slot.result + c.noted_len.result - c.slot_of-slot.result ≡ noted_len note = (let y = c.noted_len.ensures in omega arith) in
    let (p0, (p1, p2)) = taken_again c.args.arena.now c.args.slots.now c.args.c c.args.node c.args.view.now (takes (goal.at.returns c).Else-len-gt-SLOT)
    c.if-note-eq0.false
    (c.put_again.ensures ∙ ap₂ (λ (i m : ℕ). judged (refused_by 54 (noted_by note)) (same_bytes (take m (drop i c.args.arena.now)) c.args.view.now))
    (slot_is (goal.at.returns c).After-slot_of-slot) z) in record { when = p0; when_2 = p1; when_3 = p2 }

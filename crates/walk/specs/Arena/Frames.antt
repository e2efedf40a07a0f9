-- What a change that leaves the plan and the stack below `top` alone keeps: the values that stand there, and the scope's.
use Rattle.std.specs.Prelude.{◌≡◌, refl, List, ℕ, ◌+◌, ◌-◌, ◌≤◌, take, drop}
use Rattle.std.proofs.Common.{sym, ap, ◌∙◌, le_refl, arith, take-take, drop-drop}
use Rattle.std.proofs.Math.Option.{Option}
use Rattle.value.specs.Value.{Value}
use Rattle.rules.specs.Semantics.{Env}
use Rattle.rules.specs.Explain.{Cell, Cells}
use Rattle.rules.specs.Numbers.{stack_start, slots_start}
use Rattle.scopes.specs.declared.Scope.{Scope}
use Rattle.scopes.specs.Scopes.{noted_len}
use Rattle.walk.specs.Arena.Parts.{part, SameBelow, part_kept, kept_below, take-drop}
use Rattle.walk.specs.Arena.{Below, in_plan, on_stack, Held, Scoped, below_later}
use Rattle.walk.specs.Arena.Cells.{Frame, holds_as, Slot, blank, full, CellsHold}
use Rattle.walk.specs.Put.{PartsAt}

-- a part of a part
part-part : (l : List ℕ) (i n j m : ℕ) → j + m ≤ n → part (part l i n) j m ≡ part l (i + j) m
part-part l i n j m h =
    take-drop j m (take n (drop i l)) ∙ ap (drop j) (take-take (j + m) n (drop i l) h) ∙ sym (take-drop j m (drop i l)) ∙ ap (take m) (drop-drop j i l)

pub frame_refl : (top : ℕ) (b : List ℕ) → Frame top b b
frame_refl top b = record { plan = refl; stack = refl; long = refl }

pub frame_part : {top : ℕ} {b a : List ℕ} {start len : ℕ} → Frame top b a → Below top start len → part a start len ≡ part b start len
frame_part {top} {b} {a} {start} {len} f (in_plan h) = part_kept {k = slots_start} {b = b} {a = a} (record { same = f.plan; long = f.long }) start len h
frame_part {top} {b} {a} {start} {len} f (on_stack h k) =
    let z : stack_start + (start - stack_start) ≡ start = omega arith in
    let p : (l : List ℕ) → part (part l stack_start (top - stack_start)) (start - stack_start) len ≡ part l start len
    = λ l. part-part l stack_start (top - stack_start) (start - stack_start) len (omega arith) ∙ ap (λ (i : ℕ). part l i len) z in
    sym (p a) ∙ ap (λ (l : List ℕ). part l (start - stack_start) len) f.stack ∙ p b

pub frame_below : {top top' : ℕ} {b a : List ℕ} → Frame top' b a → stack_start ≤ top → top ≤ top' → Frame top b a
frame_below {top} {top'} {b} {a} f h p =
    record { plan = f.plan; stack = frame_part {len = top - stack_start} f (on_stack (le_refl stack_start) (omega arith)); long = f.long }

-- one change after another
pub frame_then : {top top' : ℕ} {c b a : List ℕ} → Frame top c b → Frame top' b a → stack_start ≤ top → top ≤ top' → Frame top c a
frame_then f g h p = let k = frame_below g h p in record { plan = k.plan ∙ f.plan; stack = k.stack ∙ f.stack; long = k.long ∙ f.long }

pub kept_frame : {top : ℕ} {b a : List ℕ} → SameBelow top b a → stack_start ≤ top → Frame top b a
kept_frame {top} {b} {a} k h = record {
  plan = (kept_below k slots_start (omega arith)).same;
  stack = part_kept k stack_start (top - stack_start) (omega arith);
  long = k.long;
}

module _ {b a : List ℕ} {top : ℕ} (f : Frame top b a) (top' : ℕ) (p : top ≤ top') where
  pub held_framed : {start len : ℕ} {v : Value} → Held b top start len v → Held a top' start len v
  held_framed h = record { place = below_later top' p h.place; long = h.long; bytes = frame_part f h.place ∙ h.bytes; readable = h.readable }

  pub env_framed : {s : Scope} {μ : Env} → Scoped b s top μ → Scoped a s top' μ
  env_framed w = record { count = w.count; starts_long = w.starts_long; lens_long = w.lens_long; each = λ i h. held_framed (w.each i h) }

  pub parts_framed : {start first second : ℕ} {x y : Value} → PartsAt b top start first second x y → PartsAt a top' start first second x y
  parts_framed s = record { one = held_framed s.one; two = held_framed s.two }

-- the slots of the cells lie below the stack: a get leaves them alone
slot_kept : {b a : List ℕ} {k start note : ℕ} {o : Option Cell} → SameBelow k b a → start + 256 ≤ k → Slot b start note o → Slot a start note o
slot_kept e h (blank z) = blank z
slot_kept {start = start} {note = note} e h (full s) = full (holds_as s (part_kept e start (noted_len note) (omega (arith, s.long, s.readable.fits))))

pub written_kept : {b a slots : List ℕ} {k n : ℕ} {W : Cells} → SameBelow k b a → stack_start ≤ k → CellsHold b slots n W → CellsHold a slots n W
written_kept e h w = record { count = w.count; few = w.few; long = w.long; each = λ i l. slot_kept e (omega (arith, w.few)) (w.each i l) }

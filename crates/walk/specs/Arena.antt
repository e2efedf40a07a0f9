-- Values that stand in the arena, the scope's variables among them, and what a change leaves alone of them.
pub mod Parts
pub mod Bytes
pub mod Cells
pub mod Compound
pub mod Shapes
pub mod Frames
pub mod CellLaws
use Rattle.std.specs.Prelude.{◌≡◌, refl, List, [], ◌∷◌, ◌++◌, ℕ, zero, suc, ◌+◌, ◌-◌, ◌≤◌, ◌<◌, length, get_or, set}
use Rattle.std.proofs.Common.{sym, ap, ◌∙◌, le_trans, arith, length-append, length-set, get_or-set_same, get_or-set_other}
use Rattle.std.proofs.Math.Decide.{dec_lt}
use Rattle.std.proofs.Math.ListN.{get_or-append}
use Rattle.std.proofs.Math.Seq.{get_or-append_seam}
use Rattle.value.specs.Value.{Value, vfalse, encode, size}
use Rattle.value.proofs.Encoding.{size_pos}
use Rattle.value.specs.Laws.{Readable}
use Rattle.rules.specs.Numbers.{stack_start, variable_limit, slots_start}
use Rattle.scopes.specs.declared.Scope.{Scope}
use Rattle.scopes.specs.Scopes.{picked}
use Rattle.walk.specs.Scope.{pushed, alone, with_member}
use Rattle.walk.specs.Arena.Parts.{part, SameBelow, part_kept}

-- bytes that a walk at `top` leaves alone: in the plan, or on the stack below `top`
pub data Below (top start len : ℕ) : Type 0 where
  in_plan : start + len ≤ slots_start → Below top start len
  on_stack : stack_start ≤ start → start + len ≤ top → Below top start len

-- the value v stands in the arena from `start`, in `len` bytes
pub record Held (a : List ℕ) (top start len : ℕ) (v : Value) : Type 0 where
  pub place : Below top start len
  pub long : len ≡ size v
  pub bytes : part a start len ≡ encode v
  pub readable : Readable v

-- the scope's variables stand for the values μ
pub record Scoped (a : List ℕ) (s : Scope) (top : ℕ) (μ : List Value) : Type 0 where
  pub count : s.count ≡ length μ
  pub starts_long : length s.starts ≡ variable_limit
  pub lens_long : length s.lens ≡ variable_limit
  pub each : (i : ℕ) → i < length μ → Held a top (get_or s.starts i 0) (get_or s.lens i 0 + 1) (get_or μ i vfalse)

pub below_ends : {top start len : ℕ} → Below top start len → stack_start ≤ top → start + len ≤ top
below_ends (in_plan h) b = omega arith
below_ends (on_stack h k) b = k

pub below_later : {top start len : ℕ} (top' : ℕ) → top ≤ top' → Below top start len → Below top' start len
below_later top' p (in_plan h) = in_plan h
below_later top' p (on_stack h k) = on_stack h (le_trans k p)

-- what ends by another top
pub below_within : {top start len : ℕ} (top' : ℕ) → start + len ≤ top' → Below top start len → Below top' start len
below_within top' h (in_plan p) = in_plan p
below_within top' h (on_stack p q) = on_stack p h

-- a part of them
pub below_part : {top start len : ℕ} (i n : ℕ) → i + n ≤ len → Below top start len → Below top (start + i) n
below_part i n h (in_plan p) = in_plan (omega arith)
below_part i n h (on_stack p q) = on_stack (omega arith) (omega arith)

-- a change that leaves the bytes below `top` alone leaves what stands below `top`
module _ {b a : List ℕ} {top : ℕ} (kept : SameBelow top b a) (base : stack_start ≤ top) (top' : ℕ) (p : top ≤ top') where
  pub held_later : {start len : ℕ} {v : Value} → Held b top start len v → Held a top' start len v
  held_later {start} {len} h = record {
    place = below_later top' p h.place;
    long = h.long;
    bytes = part_kept kept start len (below_ends h.place base) ∙ h.bytes;
    readable = h.readable;
  }

  pub env_later : {s : Scope} {μ : List Value} → Scoped b s top μ → Scoped a s top' μ
  env_later w = record { count = w.count; starts_long = w.starts_long; lens_long = w.lens_long; each = λ i h. held_later (w.each i h) }

-- one variable more
pub env_push : {a : List ℕ} {s : Scope} {top start len : ℕ} {μ : List Value} {v : Value} → Scoped a s top μ → Held a top start len v → s.count < variable_limit
    → Scoped a (pushed s start len) top (μ ++ (v ∷ []))
env_push {a} {s} {top} {start} {len} {μ} {v} w h lt = record {
  count = rw length-append (omega (arith, w.count));
  starts_long = length-set s.starts s.count start ∙ w.starts_long;
  lens_long = length-set s.lens s.count (len - 1) ∙ w.lens_long;
  each = λ i k. go i (rw length-append at k) (dec_lt i (length μ));
}
  where
    go : (i : ℕ) → i < length μ + length (v ∷ []) → Dec (i < length μ)
        → Held a top (get_or (set s.starts s.count start) i 0) (get_or (set s.lens s.count (len - 1)) i 0 + 1) (get_or (μ ++ (v ∷ [])) i vfalse)
    go i k (yes y) =
        let ne : i ≡ s.count → ⊥ = λ e. omega (arith, w.count) in
        rw (get_or-set_other s.starts s.count i start 0 ne, get_or-set_other s.lens s.count i (len - 1) 0 ne, get_or-append μ (v ∷ []) vfalse i y)
        (w.each i y)
    go i k (no n) =
        let e : i ≡ length μ = omega arith in
        let e' : i ≡ s.count = e ∙ sym w.count in
        let p : get_or (set s.starts s.count start) i 0 ≡ start = ap (λ (j : ℕ). get_or (set s.starts s.count start) j 0) e'
        ∙ get_or-set_same s.starts s.count start 0 (omega (arith, w.starts_long)) in
        let some : 1 ≤ len = omega (arith, h.long, size_pos v) in
        let q : get_or (set s.lens s.count (len - 1)) i 0 ≡ len - 1
        = ap (λ (j : ℕ). get_or (set s.lens s.count (len - 1)) j 0) e' ∙ get_or-set_same s.lens s.count (len - 1) 0 (omega (arith, w.lens_long)) in
        let q' : len - 1 + 1 ≡ len = omega arith in
        let u : get_or (μ ++ (v ∷ [])) i vfalse ≡ v = ap (λ (j : ℕ). get_or (μ ++ (v ∷ [])) j vfalse) e ∙ get_or-append_seam μ v [] vfalse in
        rw (p, q, q', u) h

-- two variables alone
env_alone : {a : List ℕ} (s : Scope) {top start : ℕ} (len : ℕ) {start' : ℕ} (len' : ℕ) {u v : Value} → length s.starts ≡ variable_limit
    → length s.lens ≡ variable_limit → Held a top start (len + 1) u → Held a top start' (len' + 1) v → Scoped a (alone s start len start' len') top (u ∷ v ∷ [])
env_alone {a} s {top} {start} len {start'} len' {u} {v} ls ll hu hv = record {
  count = refl;
  starts_long = simp length-set ls;
  lens_long = simp length-set ll;
  each = go;
}
  where
    first : (l : List ℕ) (u v : ℕ) → length l ≡ variable_limit → get_or (set (set l 0 u) 1 v) 0 0 ≡ u
    first l u v e = get_or-set_other (set l 0 u) 1 0 v 0 (λ q. omega arith) ∙ get_or-set_same l 0 u 0 (omega arith)

    second : (l : List ℕ) (u v : ℕ) → length l ≡ variable_limit → get_or (set (set l 0 u) 1 v) 1 0 ≡ v
    second l u v e = get_or-set_same (set l 0 u) 1 v 0 (simp length-set (omega arith))

    go : (i : ℕ) → i < 2 → Held a top (get_or (alone s start len start' len').starts i 0) (get_or (alone s start len start' len').lens i 0 + 1)
        (get_or (u ∷ v ∷ []) i vfalse)
    go zero h = rw (first s.starts _ _ ls, first s.lens _ _ ll) hu
    go (suc zero) h = rw (second s.starts _ _ ls, second s.lens _ _ ll) hv
    go (suc (suc i)) h = absurd (omega arith)

pub env_pick : {a : List ℕ} {s : Scope} {top x y : ℕ} {μ : List Value} → Scoped a s top μ → x < length μ → y < length μ
    → Scoped a (picked s x y) top (get_or μ x vfalse ∷ get_or μ y vfalse ∷ [])
env_pick {s = s} {x = x} {y = y} w hx hy = env_alone s _ _ w.starts_long w.lens_long (w.each x hx) (w.each y hy)

-- a member and one variable
pub env_member : {a : List ℕ} {s : Scope} {top x start len : ℕ} {m : Value} {μ : List Value} → Scoped a s top μ → x < length μ → Held a top start len m
    → Scoped a (with_member s x start len) top (m ∷ get_or μ x vfalse ∷ [])
env_member {s = s} {x = x} {len = len} {m = m} w hx h =
    let z : len - 1 + 1 ≡ len = omega (arith, h.long, size_pos m) in
    env_alone s _ _ w.starts_long w.lens_long (rw z h) (w.each x hx)

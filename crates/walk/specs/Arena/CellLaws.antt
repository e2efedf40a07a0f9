-- Cells written to, added and dropped again, and the cells of the variables in scope.
use Rattle.std.specs.Prelude.{◌≡◌, refl, List, [], ◌∷◌, ◌++◌, ℕ, zero, suc, ◌+◌, ◌-◌, ◌≤◌, ◌<◌, length, take, drop, get_or, set}
use Rattle.std.proofs.Common.{sym, ap, ◌∙◌, append_assoc, le_refl, add-one, arith, length-set, length-append, get_or-set_same, get_or-set_other}
use Rattle.std.proofs.Common.{get_or-append-add, get_or-take, length-take-le, drop-drop, take_at, drop_at}
use Rattle.std.proofs.Math.Option.{Option, none, some}
use Rattle.std.proofs.Math.Decide.{dec_lt}
use Rattle.std.proofs.Math.ListN.{get_or-append}
use Rattle.std.proofs.Math.Seq.{take-length, paste}
use Rattle.std.proofs.lemmas.List.Edits.{length-paste, drop-paste}
use Rattle.value.specs.Value.{Value, encode, size}
use Rattle.value.proofs.Encoding.{size_pos}
use Rattle.value.specs.Laws.{Readable}
use Rattle.rules.specs.Semantics.{two}
use Rattle.rules.specs.Explain.{Cell, Cells}
use Rattle.rules.specs.Numbers.{stack_start, variable_limit, slots_start}
use Rattle.walk.specs.Arena.Parts.{part, SameBelow, part_kept, kept_below}
use Rattle.scopes.specs.Scopes.{front_two, picked_two, note_of, noted_len, slot_of}
use Rattle.scopes.specs.ScopesLaws.{noted}
use Rattle.walk.specs.Arena.Cells.{Frame, Holds, holds_as, Slot, blank, full, CellsHold, Named}

module _ {A : Type 0} where
  -- two members more
  pub two_left : (l : List A) (x y d : A) (i : ℕ) → i < length l → get_or (l ++ two x y) i d ≡ get_or l i d
  two_left l x y d i h = get_or-append l (two x y) d i h

  pub two_first : (l : List A) (x y d : A) (i : ℕ) → i ≡ length l → get_or (l ++ two x y) i d ≡ x
  two_first l x y d i e = let z : i ≡ length l + 0 = omega arith in rw z (get_or-append-add l (two x y) 0 d)

  pub two_second : (l : List A) (x y d : A) (i : ℕ) → i ≡ length l + 1 → get_or (l ++ two x y) i d ≡ y
  two_second l x y d i e = rw e (get_or-append-add l (two x y) 1 d)

  -- two members set
  pub set_two_left : (l : List A) (n i : ℕ) (x y d : A) → i < n → get_or (set (set l n x) (n + 1) y) i d ≡ get_or l i d
  set_two_left l n i x y d h = get_or-set_other (set l n x) (n + 1) i y d (λ e. omega arith) ∙ get_or-set_other l n i x d (λ e. omega arith)

  pub set_two_first : (l : List A) (n i : ℕ) (x y d : A) → i ≡ n → n + 2 ≤ length l → get_or (set (set l n x) (n + 1) y) i d ≡ x
  set_two_first l n i x y d e h = get_or-set_other (set l n x) (n + 1) i y d (λ q. omega arith) ∙ rw e (get_or-set_same l n x d (omega arith))

  pub set_two_second : (l : List A) (n i : ℕ) (x y d : A) → i ≡ n + 1 → n + 2 ≤ length l → get_or (set (set l n x) (n + 1) y) i d ≡ y
  set_two_second l n i x y d e h = rw e (get_or-set_same (set l n x) (n + 1) y d (rw length-set (omega arith)))

-- an index of two more than n
data Either (n i : ℕ) : Type 0 where
  before : i < n → Either n i
  first : i ≡ n → Either n i
  second : i ≡ n + 1 → Either n i

either : (n i : ℕ) → i < n + 2 → Either n i
either n i h = go (dec_lt i n) (dec_lt i (n + 1))
  where
    go : Dec (i < n) → Dec (i < n + 1) → Either n i
    go (yes p) q = before p
    go (no p) (yes q) = first (omega arith)
    go (no p) (no q) = second (omega arith)

-- two blank cells more
pub written_more : {a slots : List ℕ} {n : ℕ} {W : Cells} → CellsHold a slots n W → n + 2 ≤ variable_limit
    → CellsHold a (set (set slots n 0) (n + 1) 0) (n + 2) (W ++ two none none)
written_more {a} {slots} {n} {W} w h = record {
  count = length-append W (two none none) ∙ omega (arith, w.count);
  few = h;
  long = simp length-set w.long;
  each = λ i l. go i (either n i l);
}
  where
    go : (i : ℕ) → Either n i → Slot a (slot_of i) (get_or (set (set slots n 0) (n + 1) 0) i 0) (get_or (W ++ two none none) i none)
    go i (before l) = rw (set_two_left slots n i 0 0 0 l, two_left W none none none i (omega (arith, w.count))) (w.each i l)
    go i (first e) = rw (two_first W none none none i (omega (arith, w.count))) (blank (set_two_first slots n i 0 0 0 e (omega (arith, w.long))))
    go i (second e) = rw (two_second W none none none i (omega (arith, w.count))) (blank (set_two_second slots n i 0 0 0 e (omega (arith, w.long))))

-- one blank cell more
pub written_one : {a slots : List ℕ} {n : ℕ} {W : Cells} → CellsHold a slots n W → n < variable_limit → CellsHold a (set slots n 0) (n + 1) (W ++ none ∷ [])
written_one {a} {slots} {n} {W} w h = record {
  count = length-append W (none ∷ []) ∙ omega (arith, w.count);
  few = omega arith;
  long = simp length-set w.long;
  each = λ i l. go i l (dec_lt i n);
}
  where
    go : (i : ℕ) → i < n + 1 → Dec (i < n) → Slot a (slot_of i) (get_or (set slots n 0) i 0) (get_or (W ++ none ∷ []) i none)
    go i l (yes p) = rw (get_or-set_other slots n i 0 0 (λ e. omega arith), get_or-append W (none ∷ []) none i (omega (arith, w.count))) (w.each i p)
    go i l (no p) =
        let e : i ≡ n = omega arith in
        let z : n ≡ length W + 0 = omega (arith, w.count) in
        rw (e, get_or-set_same slots n 0 0 (omega (arith, w.long)), z, get_or-append-add W (none ∷ []) 0 none) (blank refl)

-- the last ones dropped
pub written_less : {a slots : List ℕ} {n m : ℕ} {X : Cells} → n ≤ m → CellsHold a slots m X → CellsHold a slots n (take n X)
written_less {a} {slots} {n} {m} {X} h w = record {
  count = length-take-le n X (omega (arith, w.count));
  few = omega (arith, w.few);
  long = w.long;
  each = λ i l. rw (get_or-take n X i none l) (w.each i (omega arith));
}

pub named_more : {cs : List ℕ} {n k : ℕ} {σ : List ℕ} → Named cs n σ → k ≡ length σ → k + 2 ≤ variable_limit
    → Named (set (set cs k n) (k + 1) (n + 1)) (n + 2) (σ ++ two n (suc n))
named_more {cs} {n} {k} {σ} w e h = record {
  long = simp length-set w.long;
  each = λ i l. go i (either k i (let z : i < length σ + 2 = rw length-append at l in omega arith));
  inside = λ i l. below i (either k i (let z : i < length σ + 2 = rw length-append at l in omega arith));
}
  where
    go : (i : ℕ) → Either k i → get_or (set (set cs k n) (k + 1) (n + 1)) i 0 ≡ get_or (σ ++ two n (suc n)) i 0
    go i (before l) = set_two_left cs k i n (n + 1) 0 l ∙ w.each i (omega arith) ∙ sym (two_left σ n (suc n) 0 i (omega arith))
    go i (first q) = set_two_first cs k i n (n + 1) 0 q (omega (arith, w.long)) ∙ sym (two_first σ n (suc n) 0 i (omega arith))
    go i (second q) = set_two_second cs k i n (n + 1) 0 q (omega (arith, w.long)) ∙ add-one n ∙ sym (two_second σ n (suc n) 0 i (omega arith))

    below : (i : ℕ) → Either k i → get_or (σ ++ two n (suc n)) i 0 < n + 2
    below i (before l) = rw (two_left σ n (suc n) 0 i (omega arith)) (let z : get_or σ i 0 < n = w.inside i (omega arith) in omega arith)
    below i (first q) = rw (two_first σ n (suc n) 0 i (omega arith)) (omega arith)
    below i (second q) = rw (two_second σ n (suc n) 0 i (omega arith)) (omega arith)

-- two variables alone
named_alone : (cs : List ℕ) {n c d : ℕ} → length cs ≡ variable_limit → c < n → d < n → Named (front_two cs c d) n (two c d)
named_alone cs {n} {c} {d} l hc hd = record {
  long = simp length-set l;
  each = go;
  inside = below;
}
  where
    go : (i : ℕ) → i < 2 → get_or (front_two cs c d) i 0 ≡ get_or (two c d) i 0
    go zero h = get_or-set_other (set cs 0 c) 1 0 d 0 (λ q. omega arith) ∙ get_or-set_same cs 0 c 0 (omega arith)
    go (suc zero) h = get_or-set_same (set cs 0 c) 1 d 0 (simp length-set (omega arith))
    go (suc (suc i)) h = absurd (omega arith)

    below : (i : ℕ) → i < 2 → get_or (two c d) i 0 < n
    below zero h = hc
    below (suc zero) h = hd
    below (suc (suc i)) h = absurd (omega arith)

pub named_pick : {cs : List ℕ} {n x y : ℕ} {σ : List ℕ} → Named cs n σ → x < length σ → y < length σ
    → Named (picked_two cs x y) n (two (get_or σ x 0) (get_or σ y 0))
named_pick {cs} {x = x} {y = y} w hx hy = rw (w.each x hx, w.each y hy) (named_alone cs w.long (w.inside x hx) (w.inside y hy))

-- a member's new cell, behind the others, and the variable x
pub named_member : {cs : List ℕ} {n x : ℕ} {σ : List ℕ} → Named cs n σ → x < length σ → Named (front_two cs n (get_or cs x 0)) (n + 1) (two n (get_or σ x 0))
named_member {cs} {x = x} w hx = let h = w.inside x hx in rw (w.each x hx) (named_alone cs w.long (omega arith) (omega arith))

-- A SLOT IS FILLED

-- what changed is the n bytes at `at`
pub record Filled (at n : ℕ) (s b a : List ℕ) : Type 0 where
  pub below : SameBelow at b a
  pub above : drop (at + n) a ≡ drop (at + n) b
  pub bytes : part a at n ≡ s

pub filled : (b s : List ℕ) (at : ℕ) → at + length s ≤ length b → Filled at (length s) s b (paste b at s (length s))
filled b s at h =
    let l : length (take at b) ≡ at = length-take-le at b (omega arith) in
    let q : paste b at s (length s) ≡ take at b ++ (take (length s) s ++ drop (at + length s) b) = append_assoc (take at b) (take (length s) s)
    (drop (at + length s) b) in
    record {
      below = record { same = ap (take at) q ∙ take_at (take at b) _ at l; long = length-paste b at s (length s) h (le_refl _) };
      above = drop-paste b at s (length s) (omega arith) (le_refl _);
      bytes = ap (λ (x : List ℕ). take (length s) (drop at x)) q ∙ ap (take (length s)) (drop_at (take at b) _ at l)
          ∙ rw take-length (take_at s (drop (at + length s) b) (length s) refl);
    }

filled_above : {at n : ℕ} {s b a : List ℕ} → Filled at n s b a → (i m : ℕ) → at + n ≤ i → part a i m ≡ part b i m
filled_above {at} {n} {s} {b} {a} f i m h =
    let z : at + n + (i - (at + n)) ≡ i = omega arith in
    let p : (l : List ℕ) → drop (i - (at + n)) (drop (at + n) l) ≡ drop i l = λ l. drop-drop (i - (at + n)) (at + n) l ∙ ap (λ (j : ℕ). drop j l) z in
    ap (take m) (sym (p a) ∙ ap (drop (i - (at + n))) f.above ∙ p b)

module _ {b a s : List ℕ} {n c : ℕ} (f : Filled (slot_of c) n s b a) (small : n ≤ 256) where
  pub filled_frame : (top : ℕ) → c < variable_limit → Frame top b a
  filled_frame top h = record {
    plan = (kept_below f.below slots_start (omega arith)).same;
    stack = filled_above f stack_start (top - stack_start) (omega arith);
    long = f.below.long;
  }

  slot_other : {i note : ℕ} {o : Option Cell} → (i ≡ c → ⊥) → Slot b (slot_of i) note o → Slot a (slot_of i) note o
  slot_other ne (blank z) = blank z
  slot_other {i} {note} ne (full {w = w} s) = go (dec_lt i c)
    where
      go : Dec (i < c) → Slot a (slot_of i) note (some w)
      go (yes h) = full (holds_as s (part_kept f.below (slot_of i) (noted_len note) (omega (arith, s.long, s.readable.fits))))
      go (no h) = full (holds_as s (filled_above f (slot_of i) (noted_len note) (let k : c < i = omega arith in omega arith)))

  -- v was written to the cell c, by the node x
  pub written_set : (x : ℕ) {slots : List ℕ} {m : ℕ} {W : Cells} {v : Value} → x < 256 → CellsHold b slots m W → c < m → n ≡ size v → s ≡ encode v → Readable v
      → CellsHold a (set slots c (note_of x n)) m (set W c (some (record { value = v; by = x })))
  written_set x {slots} {m} {W} {v} few w h z e r = record {
    count = length-set W c (some new) ∙ w.count;
    few = w.few;
    long = length-set slots c (note_of x n) ∙ w.long;
    each = λ i l. go i l (dec_lt i c) (dec_lt c i);
  }
    where
      new : Cell
      new = record { value = v; by = x }

      holds : Holds a (slot_of c) (note_of x n) new
      holds =
          let k = noted x n (omega (arith, z, size_pos v)) small in
          record { there = k.0; long = k.1 ∙ z; by = k.2; few = few; bytes = rw k.1 (f.bytes ∙ e); readable = r }

      other : (i : ℕ) → i < m → (i ≡ c → ⊥) → Slot a (slot_of i) (get_or (set slots c (note_of x n)) i 0) (get_or (set W c (some new)) i none)
      other i l ne = rw (get_or-set_other slots c i (note_of x n) 0 ne, get_or-set_other W c i (some new) none ne) (slot_other ne (w.each i l))

      here : (i : ℕ) → i ≡ c → Slot a (slot_of i) (get_or (set slots c (note_of x n)) i 0) (get_or (set W c (some new)) i none)
      here i q = rw (q, get_or-set_same slots c (note_of x n) 0 (omega (arith, w.long, w.few)), get_or-set_same W c (some new) none (omega (arith, w.count)))
          (full holds)

      go : (i : ℕ) → i < m → Dec (i < c) → Dec (c < i) → Slot a (slot_of i) (get_or (set slots c (note_of x n)) i 0) (get_or (set W c (some new)) i none)
      go i l (yes p) q = other i l (λ k. omega arith)
      go i l (no p) (yes q) = other i l (λ k. omega arith)
      go i l (no p) (no q) = here i (omega arith)

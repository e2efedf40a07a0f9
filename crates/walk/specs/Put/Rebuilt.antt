-- The subject rebuilt of what the two variables of its branch stand for: where their values stand, the bytes, and what each return shows.
use Rattle.std.specs.Prelude.{◌≡◌, refl, true, false, List, ◌∷◌, ◌++◌, ℕ, suc, ◌+◌, ◌≤◌, ◌<◌, length, take, drop, get_or, set, replicate}
use Rattle.std.proofs.Common.{sym, ap, ap₂, ◌∙◌, le_refl, add-one, arith, length-drop, get_or-take, get_or-drop}
use Rattle.std.proofs.Math.Option.{Option, none, some}
use Rattle.std.proofs.Math.ListN.{get_elem?}
use Rattle.std.proofs.Math.Seq.{paste}
use Rattle.std.proofs.lemmas.List.Edits.{take-paste, length-paste}
use Rattle.value.specs.Value.{Value, vfalse, encode, size}
use Rattle.value.proofs.Encoding.{size-encode, size_pos}
use Rattle.value.specs.Laws.{Readable}
use Rattle.sheet.specs.Sheet.{Sheet}
use Rattle.rules.specs.Semantics
use Rattle.rules.specs.Semantics.{Env}
use Rattle.rules.specs.Explain.{Cell, Cells, or_old}
use Rattle.rules.specs.Numbers.{scratch_size, stack_start, variable_limit}
use Rattle.scopes.specs.declared.Span.{Span}
use Rattle.scopes.specs.Scopes.{place_of, slot_of}
use Rattle.decisions.specs.Decisions.{unfit_rest}
use Rattle.scopes.specs.ScopesLaws.{was_written}
use Rattle.walk.specs.Decoded.{refused_decoded, decoded}
use Rattle.walk.specs.Arena.Parts.{part}
use Rattle.walk.specs.Arena.{Held, below_ends}
use Rattle.walk.specs.Arena.Bytes.{elem_at}
use Rattle.walk.specs.Represents.{give_some, give_none, give_yes, give_no}
use Rattle.walk.specs.Arena.Cells.{Slot, blank, full, CellsHold, Shown, rebuilt_in, rebuilt_bytes}
use Rattle.walk.specs.Arena.Frames.{frame_refl}
use Rattle.walk.specs.Arena.CellLaws.{written_less}
use Rattle.walk.specs.Arena.Compound.{Made, Whole, whole, no_whole}
use Rattle.walk.specs.Put.{enter, rebuilt, rebuild, run, Any, PartsAt, SomeParts, Given, Ready, PutShows, PutHere, PutAsks, PutTold}
use Rattle.walk.specs.Put.Requires.{ready_for, given_after}

-- WHERE A VALUE STANDS

pub record HeldAt (a : List ℕ) (p : Span) (v : Value) : Type 0 where
  pub long : p.len ≡ size v
  pub bytes : part a p.start p.len ≡ encode v
  pub readable : Readable v
  pub inside : p.start + p.len ≤ scratch_size

pub held_at : {a : List ℕ} {top start len c w : ℕ} {o : Option Cell} {v : Value} → Slot a (slot_of c) w o → c < variable_limit → Held a top start len v →
    stack_start ≤ top
    → top ≤ scratch_size
    → HeldAt a (place_of w c start len) (or_old o v)
unfolding place_of Semantics.or_old
held_at {start = start} {len = len} (blank z) h k base most = rw z
    (record { long = k.long; bytes = k.bytes; readable = k.readable; inside = omega (arith, below_ends k.place base) })
held_at {start = start} {len = len} {c = c} {w = w} (full s) h k base most = rw (← was_written w c start len s.there)
    (record { long = s.long; bytes = s.bytes; readable = s.readable; inside = omega (arith, s.long, s.readable.fits) })

-- its kind byte
stands_head : {a : List ℕ} {p : Span} {v : Value} → HeldAt a p v → get_or a p.start 0 ≡ get_or (encode v) 0 0
stands_head {a} {p} {v} h =
    let z : p.start + 0 ≡ p.start = omega arith in
    let n : 0 < p.len = omega (arith, h.long, size_pos v) in
    ap (λ (i : ℕ). get_or a i 0) (sym z) ∙ sym (get_or-drop p.start a 0 0) ∙ sym (get_or-take p.len (drop p.start a) 0 0 n)
    ∙ ap (λ (l : List ℕ). get_or l 0 0) h.bytes

stands_some : {a : List ℕ} {p : Span} {v : Value} → HeldAt a p v → 1 ≤ p.len
stands_some {v = v} h = omega (arith, h.long, size_pos v)

-- the bytes that are built
built_bytes : (a : List ℕ) (k : ℕ) (f r : Span) (x y : Value) → HeldAt a f x → HeldAt a r y → length a ≡ scratch_size → 1 + f.len + r.len ≤ 256
    → take (1 + f.len + r.len) (rebuilt_bytes a k f.start f.len r.start r.len) ≡ k ∷ (encode x ++ encode y)
unfolding rebuilt_in
built_bytes a k f r x y p q l h =
    let d : List ℕ = set (replicate 256 0) 0 k in
    let lf : f.len ≤ length (drop f.start a) = rw length-drop (omega (arith, p.inside)) in
    let lr : r.len ≤ length (drop r.start a) = rw length-drop (omega (arith, q.inside)) in
    let n : length d ≡ 256 = refl in
    let m : length (paste d 1 (drop f.start a) f.len) ≡ length d = length-paste d 1 (drop f.start a) f.len (omega arith) lf in
    take-paste (paste d 1 (drop f.start a) f.len) (1 + f.len) (drop r.start a) r.len (omega arith) lr
    ∙ ap₂ ◌++◌ (take-paste d 1 (drop f.start a) f.len (omega arith) lf ∙ ap (λ (z : List ℕ). k ∷ z) p.bytes) q.bytes

-- the two cells behind the n of the scope, and where their values stand
record Both (a : List ℕ) (n : ℕ) (X : Cells) (f r : Span) (x y : Value) : Type 0 where
  named : get_elem? X n ≡ some (get_or X n none)
  named' : get_elem? X (suc n) ≡ some (get_or X (suc n) none)
  one : HeldAt a f (or_old (get_or X n none) x)
  two : HeldAt a r (or_old (get_or X (suc n) none) y)

both : {a slots : List ℕ} {n top start first second : ℕ} {f r : Span} {X : Cells} {x y : Value} → f ≡ place_of (get_or slots n 0) n start first
    → r ≡ place_of (get_or slots (n + 1) 0) (n + 1) (start + first) second → stack_start ≤ top → top ≤ scratch_size → CellsHold a slots (n + 2) X
    → PartsAt a top start first second x y → Both a n X f r x y
both {a} {slots} {n} {start = start} {first = first} {second = second} {X = X} p q base most w t =
    let m : n + 1 ≡ suc n = add-one n in
    let s : Slot a (slot_of (n + 1)) (get_or slots (n + 1) 0) (get_or X (n + 1) none) = w.each (n + 1) (omega arith) in
    record {
      named = elem_at X n none (omega (arith, w.count));
      named' = elem_at X (suc n) none (omega (arith, w.count));
      one = rw p (held_at (w.each n (omega arith)) (omega (arith, w.few)) t.one base most);
      two = rw (q, ← m) (held_at s (omega (arith, w.few)) t.two base most);
    }

-- two values below the top end by it
pub parts_end : {a : List ℕ} {top start first second : ℕ} → SomeParts a top start first second → stack_start ≤ top → top ≤ scratch_size →
    start + first ≤ scratch_size
parts_end p base most = omega (arith, below_ends p.parts.two.place base)

-- AT A STAGE: it is known where the two values stand
pub record Rebuilding (h : PutHere) (k y start first second : ℕ) (f r : Span) : Type 0 where
  pub asked : Ready h.sheet h.table h.arena h.slots Any h.scope h.cells h.count (h.count + 2) h.top h.levels h.left
      (rebuilt k y vfalse vfalse)
  pub parts : SomeParts h.arena h.top start first second
  pub one : f ≡ place_of (get_or h.slots h.count 0) h.count start first
  pub two : r ≡ place_of (get_or h.slots (h.count + 1) 0) (h.count + 1) (start + first) second

-- what it tells
abbrev pub RebuiltTold : (h : PutHere) (k y start first second : ℕ) (a slots : List ℕ) (r : ℕ) → Type 0
RebuiltTold h k y start first second a slots r = (f u : Value) → PartsAt h.arena h.top start first second f u
    → PutShows h.arena a h.slots slots h.sheet Any h.scope h.cells h.count (h.count + 2) h.top h.left r h.levels (rebuilt k y f u)

module _ {h : PutHere} {k y start first second : ℕ} {f r : Span} (w : Rebuilding h k y start first second f r) where
  made : Made k
  made = w.asked.known.1

  both_of : {X : Cells} {x₁ x₂ : Value} → CellsHold h.arena h.slots (h.count + 2) X → PartsAt h.arena h.top start first second x₁ x₂
      → Both h.arena h.count X f r x₁ x₂
  both_of g t = both w.one w.two w.asked.base (omega (arith, w.asked.room)) g t

  -- where the values stand, for the code's indices
  pub rebuilt_places : (f.start + f.len ≤ scratch_size) × (r.start + r.len ≤ scratch_size) × (f.len ≤ 256) × (r.len ≤ 256) × (1 ≤ r.len)
  rebuilt_places =
      let o = both_of w.asked.given.written w.parts.parts in
      let a = o.one in
      let b = o.two in
      (a.inside, b.inside, omega (arith, a.long, a.readable.fits), omega (arith, b.long, b.readable.fits), stands_some b)

  pub rebuilt_43 : {q : ℕ} → unfit_rest k (get_or h.arena r.start 0) ≡ true → q ≡ 43 → RebuiltTold h k y start first second h.arena h.slots q
  unfolding run rebuild
  rebuilt_43 n e x₁ x₂ t = record {
    frame = frame_refl _ _;
    long = refl;
    told = λ g.
        let o = both_of g.written t in
        give_some 42 _ o.named (give_some 42 _ o.named'
        (give_none 43 _ (no_whole _ _ made (ap (unfit_rest k) (sym (stands_head o.two)) ∙ n))
        (ap (decoded _ _) e ∙ refused_decoded _ _ (omega arith) (omega arith))));
  }

  module _ (n : unfit_rest k (get_or h.arena r.start 0) ≡ false) where
    the_whole : {X : Cells} {x₁ x₂ : Value} → CellsHold h.arena h.slots (h.count + 2) X → PartsAt h.arena h.top start first second x₁ x₂
        → Whole k (or_old (get_or X h.count none) x₁) (or_old (get_or X (suc h.count) none) x₂)
    the_whole g t =
        let o = both_of g t in
        whole _ _ made (ap (unfit_rest k) (sym (stands_head o.two)) ∙ n) o.one.readable.encodable o.two.readable.encodable

    pub rebuilt_44 : {q : ℕ} → 256 < 1 + f.len + r.len → q ≡ 44 → RebuiltTold h k y start first second h.arena h.slots q
    unfolding run rebuild
    rebuilt_44 l e x₁ x₂ t = record {
      frame = frame_refl _ _;
      long = refl;
      told = λ g.
          let o = both_of g.written t in
          let b = the_whole g.written t in
          give_some 42 _ o.named (give_some 42 _ o.named' (give_some 43 _ b.is
          (give_no 44 _ _ (λ z. omega (arith, b.long, o.one.long, o.two.long))
          (ap (decoded _ _) e ∙ refused_decoded _ _ (omega arith) (omega arith)))));
    }

    module _ (le : 1 + f.len + r.len ≤ 256) {bytes : List ℕ} (eb : bytes ≡ rebuilt_bytes h.arena k f.start f.len r.start r.len) where
      abbrev pub rebuilt_view : List ℕ
      rebuilt_view = take (1 + f.len + r.len) bytes

      built : {X : Cells} {x₁ x₂ : Value} (g : CellsHold h.arena h.slots (h.count + 2) X) (t : PartsAt h.arena h.top start first second x₁ x₂)
          → Shown rebuilt_view (the_whole g t).value
      built g t =
          let o = both_of g t in
          let b = the_whole g t in
          record {
            bytes = ap (take (1 + f.len + r.len)) eb ∙ built_bytes h.arena k f r _ _ o.one o.two w.asked.long le ∙ sym b.bytes;
            readable = record { fits = omega (arith, b.long, o.one.long, o.two.long); encodable = b.encodable };
          }

      -- how long the view is
      pub rebuilt_long : 1 + f.len + r.len ≡ length rebuilt_view
      rebuilt_long =
          let g = w.asked.given.written in
          let t = w.parts.parts in
          let o = both_of g t in
          let b = the_whole g t in
          sym (ap length (built g t).bytes ∙ size-encode b.value ∙ omega (arith, b.long, o.one.long, o.two.long))

      given_whole : {sh : Sheet} {μ : Env} {σ : List ℕ} {v : Value} {X : Cells} {x₁ x₂ : Value}
          (g : Given h.arena h.slots h.sheet Any h.scope h.cells h.count (h.count + 2) h.top sh μ σ v X)
          (t : PartsAt h.arena h.top start first second x₁ x₂)
          → Given h.arena h.slots h.sheet (Shown rebuilt_view) h.scope h.cells h.count h.count h.top sh μ σ
          (the_whole g.written t).value (take h.count X)
      given_whole g t = given_after g (frame_refl _ _) (written_less (omega arith) g.written) (built g.written t)

      pub rebuilt_asks : PutAsks h (Shown rebuilt_view) (enter y)
      rebuilt_asks = ready_for w.asked w.asked.known.0 (given_whole w.asked.given w.parts.parts) refl (le_refl _) (le_refl _) (le_refl _)
          w.asked.room

      pub rebuilt_told : {a slots : List ℕ} {q : ℕ} → PutTold h (Shown rebuilt_view) a slots q (enter y) → RebuiltTold h k y start first second a slots q
      unfolding run rebuild
      rebuilt_told p x₁ x₂ t = record {
        frame = p.frame;
        long = p.long;
        told = λ g.
            let o = both_of g.written t in
            let b = the_whole g.written t in
            give_some 42 _ o.named (give_some 42 _ o.named'
            (give_some 43 _ b.is (give_yes 44 _ _ (omega (arith, b.long, o.one.long, o.two.long)) λ _. p.told (given_whole g t))));
      }

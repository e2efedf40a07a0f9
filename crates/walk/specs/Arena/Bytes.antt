-- What the bytes of a value that stands in the arena tell of it: its kind byte, its shape, its two parts, the tests.
use Rattle.std.specs.Prelude.{◌≡◌, refl, true, false, List, [], ◌∷◌, ◌++◌, ℕ, zero, suc, ◌+◌, ◌-◌, ◌≤◌, ◌<◌, length, drop, get_or}
use Rattle.std.proofs.Common.{sym, ap, ◌∙◌, arith, get_or-take, get_or-drop}
use Rattle.std.proofs.lemmas.Bool.{false≢true}
use Rattle.std.proofs.Math.Option.{Option, none, some}
use Rattle.std.proofs.Math.ListN.{get_elem?}
use Rattle.value.specs.Value.{Value, Values, vfalse, vtrue, list, number, wide, pair, nil, cons, encode, encodes, size, sizes}
use Rattle.value.proofs.Encoding.{size-encode, size_pos}
use Rattle.value.specs.Views.{as_list}
use Rattle.value.specs.Tests.{holds}
use Rattle.value.specs.Laws.{Readable}
use Rattle.value.proofs.Laws.{readable_front, readable_pair}
use Rattle.shapes.specs.Parts.{shape_of, passes_bytes}
use Rattle.shapes.proofs.PartsLaws.{shape, shape_whole}
use Rattle.shapes.proofs.TestsLaws.{passes_whole}
use Rattle.shapes.specs.declared.Shape.{Shape}
use Rattle.decisions.specs.Decisions.{unfit_rest}
use Rattle.walk.specs.Arena.Parts.{part, part_split}
use Rattle.walk.specs.Arena.{Below, below_part, Held}

module _ {A : Type 0} where
  pub elem_at : (l : List A) (i : ℕ) (d : A) → i < length l → get_elem? l i ≡ some (get_or l i d)
  elem_at [] i d h = absurd (omega arith)
  elem_at (a ∷ l) zero d h = refl
  elem_at (a ∷ l) (suc i) d h = elem_at l i d (omega arith)

  pub elem_none : (l : List A) (i : ℕ) → length l ≤ i → get_elem? l i ≡ none
  elem_none [] i h = refl
  elem_none (a ∷ l) zero h = absurd (omega arith)
  elem_none (a ∷ l) (suc i) h = elem_none l i (omega arith)

-- the value v, from `start`
module _ {a : List ℕ} {top start len : ℕ} {v : Value} (h : Held a top start len v) where
  pub held_some : 1 ≤ len
  held_some = omega (arith, h.long, size_pos v)

  pub held_short : len ≤ 256
  held_short = omega (arith, h.long, h.readable.fits)

  -- the kind byte
  pub held_head : get_or a start 0 ≡ get_or (encode v) 0 0
  held_head =
      let p = held_some in
      let z : start + 0 ≡ start = omega arith in
      ap (λ (i : ℕ). get_or a i 0) (sym z) ∙ sym (get_or-drop start a 0 0) ∙ sym (get_or-take len (drop start a) 0 0 (omega arith))
      ∙ ap (λ (l : List ℕ). get_or l 0 0) h.bytes

  pub held_shape : {q : Shape} → q ≡ shape_of (part a start len) → q ≡ shape v
  held_shape e = e ∙ ap shape_of h.bytes ∙ shape_whole h.readable

  pub held_passes : (t : ℕ) → passes_bytes t (part a start len) ≡ holds t v
  held_passes t = ap (passes_bytes t) h.bytes ∙ passes_whole t h.readable

module _ {A : Value → Type 0} where
  -- a view of a value that is there
  pub record View (o : (v : Value) → Option (A v)) (v : Value) : Type 0 where
    pub seen : A v
    pub is : o v ≡ some seen

-- whether a value is a list, as the code judges it by its kind byte
pub no_list : (v : Value) → unfit_rest 3 (get_or (encode v) 0 0) ≡ true → as_list v ≡ none
unfolding as_list encode encodes unfit_rest
no_list vfalse e = refl
no_list vtrue e = refl
no_list (list nil) e = absurd (false≢true e)
no_list (list (cons f r)) e = absurd (false≢true e)
no_list (number k) e = refl
no_list (wide k) e = refl
no_list (pair x y) e = refl

pub a_list : (v : Value) → unfit_rest 3 (get_or (encode v) 0 0) ≡ false → View as_list v
unfolding as_list encode encodes unfit_rest
a_list vfalse e = absurd (false≢true (sym e))
a_list vtrue e = absurd (false≢true (sym e))
a_list (list l) e = record { seen = (l, refl); is = refl }
a_list (number k) e = absurd (false≢true (sym e))
a_list (wide k) e = absurd (false≢true (sym e))
a_list (pair x y) e = absurd (false≢true (sym e))

module _ {a : List ℕ} {top start len : ℕ} {v : Value} (h : Held a top start len v) where
  pub unfit_no_list : unfit_rest 3 (get_or a start 0) ≡ true → as_list v ≡ none
  unfit_no_list e = no_list v (ap (unfit_rest 3) (sym (held_head h)) ∙ e)

  pub fit_list : unfit_rest 3 (get_or a start 0) ≡ false → View as_list v
  fit_list e = a_list v (ap (unfit_rest 3) (sym (held_head h)) ∙ e)

parts : (a : List ℕ) (top len k n m : ℕ) (x y : List ℕ) → part a top len ≡ k ∷ (x ++ y) → length x ≡ n → len ≡ 1 + n + m
    → (part a (top + 1) n ≡ x) × (part a (top + 1 + n) m ≡ y)
parts a top len k n m x y e l z =
    let s : len ≡ 1 + (n + m) = omega arith in
    let p = part_split a (k ∷ []) (x ++ y) top 1 (n + m) (rw s at e) refl in
    part_split a x y (top + 1) n m p.1 l

-- two values that stand behind a kind byte at `start`; the second starts `mid` bytes behind the kind byte
pub record TwoHeld (a : List ℕ) (top start len mid : ℕ) (u v : Value) : Type 0 where
  pub first : Held a top (start + 1) (mid - 1) u
  pub second : Held a top (start + mid) (len - mid) v
  pub some : 1 ≤ mid
  pub inside : mid ≤ len

module _ {a : List ℕ} {top start len : ℕ} where
  two_held : (k : ℕ) (u v : Value) → Below top start len → part a start len ≡ k ∷ (encode u ++ encode v) → len ≡ suc (size u + size v) → Readable u → Readable v
      → TwoHeld a top start len (1 + size u) u v
  two_held k u v b e z g h =
      let s : 1 + size u - 1 ≡ size u = omega arith in
      let t : len - (1 + size u) ≡ size v = omega arith in
      let j : start + 1 + size u ≡ start + (1 + size u) = omega arith in
      let p = parts a start len k (size u) (size v) (encode u) (encode v) e (size-encode u) (omega arith) in
      record {
        first = rw s (record { place = below_part 1 (size u) (omega arith) b; long = refl; bytes = p.0; readable = g });
        second = rw t (record { place = below_part (1 + size u) (size v) (omega arith) b; long = refl; bytes = rw j at p.1; readable = h });
        some = omega arith;
        inside = omega arith;
      }

  pub held_front : {f : Value} {r : Values} {mid : ℕ} → mid ≡ 1 + size f → Held a top start len (list (cons f r)) → TwoHeld a top start len mid f (list r)
  unfolding encode encodes size sizes
  held_front {f} {r} e h = rw e (two_held 3 f (list r) h.place h.bytes h.long (readable_front h.readable).0 (readable_front h.readable).1)

  pub held_pair : {u v : Value} {mid : ℕ} → mid ≡ 1 + size u → Held a top start len (pair u v) → TwoHeld a top start len mid u v
  unfolding encode size
  held_pair {u} {v} e h = rw e (two_held 5 u v h.place h.bytes h.long (readable_pair h.readable).0 (readable_pair h.readable).1)

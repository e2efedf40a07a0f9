-- What the code's tests say of the definitions of `Parts`: a lemma for each way to answer.
use Rattle.std.specs.Option.{option_eq}
use borrow.Author.Tests.{eqb-true, eq-eqb, ne_eqb}
use Rattle.std.specs.Prelude.{◌≡◌, refl, not, unwrap_or, Option, Some, None, Ok, Err}
use Rattle.std.specs.Prelude.{Bool, true, ◌&&◌, ◌⊎◌, List, [], ◌∷◌, ℕ, zero, suc, ◌+◌, ◌-◌, ◌*◌, ◌≤◌, ◌<◌, eqb, leb, length, take}
use Rattle.std.proofs.Math.Path.{sym, ap}
use Rattle.std.proofs.Common.{◌∙◌, inl, inr, ⊎_elim, arith, add-one, le-leb}
use Rattle.std.proofs.Math.Bool.{false}
use Rattle.std.proofs.lemmas.Bool.{lt-leb}
use Rattle.std.proofs.Math.ListN.{get_or, drop, drop_of_length-le, get_or-eq_default}
use Rattle.std.proofs.Math.Seq.{drop-cons}
use lib.Pointwise.{pointwise}
use Rattle.value.specs.Value.{size}
use Rattle.value.specs.Reading.{Kind, Found, whole, malformed, too_long, value, nothing, a_value, kind_of, read_value}
use Rattle.value.specs.Laws.{Names, is0, is1, is2, is3, is4, is5, is6, is_other}
use Rattle.value.proofs.Laws.{names, read_sound}
use Rattle.value.specs.Reader.{Read, outcome, from}
use Rattle.value.proofs.Reader.{from-drop}
use Rattle.shapes.specs.Needs.{Enough}
use Rattle.shapes.proofs.TestsLaws.{passes_enough}
use Rattle.shapes.specs.Parts.{behind, number_in, shape_as, shape_of, middle_of, part_where, first_part}
use Rattle.shapes.specs.Parts.{kind_at, kind_behind, rest_kind, by_kinds, passes_bytes, both, same_bytes}
use Rattle.shapes.specs.declared.Shape.{Shape}
use Rattle.shapes.specs.declared.Shape.TheVariants.{Front, Number, Pair, Malformed}

-- shape_of
pub shape_none : (v : List ℕ) → length v ≡ 0 → Malformed ≡ shape_of v
unfolding shape_of
shape_none [] e = refl
shape_none (b ∷ v) e = absurd (omega arith)

-- of two parts, what is known by the position where the second starts
module _ (two : ℕ → Shape) (f : (n : ℕ) → middle_of (two n) ≡ Some n) where
  split : (r : Read) {m : ℕ} → Some m ≡ middle_of (behind two r) → behind two r ≡ two m
  unfolding behind middle_of
  split (Ok n) {m} e = let z : m ≡ 1 + n = cc (f (1 + n)) in ap two (sym z)
  split (Err q) {m} e = absurd (cc)

  unsplit : (r : Read) → None ≡ middle_of (behind two r) → behind two r ≡ Malformed
  unfolding behind middle_of
  unsplit (Ok n) e = absurd (cc (f (1 + n)))
  unsplit (Err q) e = refl

as_front : (r : Read) → middle_of (behind Pair r) ≡ middle_of (behind Front r)
unfolding middle_of behind
as_front (Ok n) = refl
as_front (Err e) = refl

module _ (v : List ℕ) (h : length v ≡ 0 → ⊥) where
  pub shape_at : {k : ℕ} → get_or v 0 0 ≡ k → shape_of v ≡ shape_as (drop 1 v) (kind_of k)
  unfolding shape_of
  shape_at e =
      let d : v ≡ get_or v 0 0 ∷ drop 1 v = drop-cons v 0 0 (omega arith) in
      ap shape_of d ∙ ap (λ (b : ℕ). shape_as (drop 1 v) (kind_of b)) e

  front : get_or v 0 0 ≡ 3 → shape_of v ≡ behind Front (outcome (read_value (drop 1 v)))
  unfolding kind_of shape_as
  front e = shape_at e

  pair : get_or v 0 0 ≡ 5 → shape_of v ≡ behind Pair (outcome (read_value (drop 1 v)))
  unfolding kind_of shape_as
  pair e = shape_at e

  pub front_found : get_or v 0 0 ≡ 3 → {m : ℕ} → Some m ≡ middle_of (shape_of v) → Front m ≡ shape_of v
  unfolding middle_of
  front_found k e = sym (front k ∙ split Front (λ n. refl) (outcome (read_value (drop 1 v))) (e ∙ ap middle_of (front k)))

  pub front_lost : get_or v 0 0 ≡ 3 → None ≡ middle_of (shape_of v) → Malformed ≡ shape_of v
  unfolding middle_of
  front_lost k e = sym (front k ∙ unsplit Front (λ n. refl) (outcome (read_value (drop 1 v))) (e ∙ ap middle_of (front k)))

  pub pair_found : get_or v 0 0 ≡ 5 → {m : ℕ} → Some m ≡ middle_of (shape_of v) → Pair m ≡ shape_of v
  unfolding middle_of
  pair_found k e = sym (pair k ∙ split Pair (λ n. refl) (outcome (read_value (drop 1 v))) (e ∙ ap middle_of (pair k)))

  pub pair_lost : get_or v 0 0 ≡ 5 → None ≡ middle_of (shape_of v) → Malformed ≡ shape_of v
  unfolding middle_of
  pair_lost k e = sym (pair k ∙ unsplit Pair (λ n. refl) (outcome (read_value (drop 1 v))) (e ∙ ap middle_of (pair k)))

  -- middle
  pub middle_behind : (get_or v 0 0 ≡ 3) ⊎ (get_or v 0 0 ≡ 5) → {r : Read} → r ≡ outcome (read_value (from 1 v))
      → middle_of (behind Front r) ≡ middle_of (shape_of v)
  middle_behind k w =
      let e = ap (λ (r : Read). middle_of (behind Front r)) (sym (rw from-drop at w)) in
      sym (⊎_elim (λ k. ap middle_of (front k) ∙ e) (λ k. ap middle_of (pair k) ∙ as_front (outcome (read_value (drop 1 v))) ∙ e) k)

-- a value that was read has at most 256 bytes
pub whole_short : (bs : List ℕ) {n : ℕ} → Ok n ≡ outcome (read_value bs) → n ≤ 256
unfolding outcome
whole_short bs {n} e = go (read_value bs) refl e
  where
    go : (x : Found (value ∷ [])) → read_value bs ≡ x → Ok n ≡ outcome x → n ≤ 256
    go (whole (a_value v nothing) p) q r = let z : n ≡ size v = cc in omega (arith, (read_sound bs q).1.fits)
    go malformed q r = absurd (cc)
    go too_long q r = absurd (cc)

pub number_short : (v : List ℕ) → length v < 3 → number_in (drop 1 v) ≡ Malformed
unfolding number_in
number_short [] h = refl
number_short (a ∷ []) h = refl
number_short (a ∷ b ∷ []) h = refl
number_short (a ∷ b ∷ c ∷ v) h = absurd (omega arith)

pub number_there : (v : List ℕ) → 3 ≤ length v → number_in (drop 1 v) ≡ Number (256 * get_or v 1 0 + get_or v 2 0)
unfolding number_in
number_there [] h = absurd (omega arith)
number_there (a ∷ []) h = absurd (omega arith)
number_there (a ∷ b ∷ []) h = absurd (omega arith)
number_there (a ∷ b ∷ c ∷ v) h = refl

pub middle_none : (v : List ℕ) → ((get_or v 0 0 ≡ 3) ⊎ (get_or v 0 0 ≡ 5) → ⊥) → None ≡ middle_of (shape_of v)
unfolding middle_of shape_of shape_as number_in
middle_none [] h = refl
middle_none (b ∷ bs) h = go (names b) h
  where
    no_part : (bs : List ℕ) → None ≡ middle_of (number_in bs)
    no_part [] = refl
    no_part (x ∷ []) = refl
    no_part (x ∷ y ∷ bs) = refl

    go : {b : ℕ} {k : Kind} → Names b k → ((b ≡ 3) ⊎ (b ≡ 5) → ⊥) → None ≡ middle_of (shape_as bs k)
    go is0 h = refl
    go is1 h = refl
    go is2 h = refl
    go is3 h = absurd (h (inl refl))
    go is4 h = no_part bs
    go is5 h = absurd (h (inr refl))
    go is6 h = refl
    go is_other h = refl

-- first_part
pub first_none : (v : List ℕ) (at : ℕ) → at ≡ 0 → [] ≡ first_part v at
unfolding first_part part_where
first_none v at e = rw (le-leb at (length v) (omega arith), e)

pub first_there : (v : List ℕ) (at : ℕ) → at ≤ length v → take (at - 1) (drop 1 v) ≡ first_part v at
unfolding first_part part_where
first_there v at h = rw (le-leb at (length v) h)

pub first_out : (v : List ℕ) (at : ℕ) → length v < at → [] ≡ first_part v at
unfolding first_part part_where
first_out v at h = rw (lt-leb at (length v) h)

-- part
no_bytes : (b : Bool) → [] ≡ part_where b []
unfolding part_where
no_bytes true = refl
no_bytes false = refl

pub no_part : (v : List ℕ) (a b : ℕ) → ((a ≤ b) × (length v < b)) ⊎ (b < a) → [] ≡ part_where (leb b (length v)) (take (b - a) (drop a v))
unfolding part_where
no_part v a b (inl h) = rw (lt-leb b (length v) h.1)
no_part v a b (inr h) = let z : b - a ≡ 0 = omega arith in rw z (no_bytes (leb b (length v)))

pub part_to_end : (v : List ℕ) (a : ℕ) → part_where (leb (length v) (length v)) (take (length v - a) (drop a v)) ≡ drop a v
unfolding part_where
part_to_end v a = rw (le-leb (length v) (length v) (omega arith)) (from-drop a v)

-- passes: the arm of test n
pub answered : (t : ℕ) (bs : List ℕ) {n : ℕ} {r : Bool} → t ≡ n → r ≡ passes_bytes n bs → (r ≡ passes_bytes t bs) × Enough t bs r
answered t bs k e =
    let is = e ∙ ap (λ (m : ℕ). passes_bytes m bs) (sym k) in
    (is, λ v h a. is ∙ passes_enough t v h bs a)

-- passes: a number that is no test
pub beyond : {t n : ℕ} → n ≤ t → (t ≡ n → ⊥) → suc n ≤ t
beyond h k = omega arith

pub no_test : (t : ℕ) (v : List ℕ) → 7 ≤ t → passes_bytes t v ≡ false
unfolding passes_bytes by_kinds
no_test t v h = get_or-eq_default (by_kinds (kind_at v 0) (rest_kind v)) false h

-- same
and_both : (c d : Bool) → c && d ≡ both c d
unfolding both
and_both true d = refl
and_both false d = refl

pub same_pointwise : (a b : List ℕ) → pointwise eqb a b ≡ same_bytes a b
unfolding same_bytes both
same_pointwise [] [] = refl
same_pointwise [] (y ∷ b) = refl
same_pointwise (x ∷ a) [] = refl
same_pointwise (x ∷ a) (y ∷ b) = rw (same_pointwise a b) (and_both (eqb x y) (same_bytes a b))

both_false : (c : Bool) → both c false ≡ false
unfolding both
both_false true = refl
both_false false = refl

both_true : (c : Bool) → both c true ≡ c
unfolding both
both_true true = refl
both_true false = refl

pub same_long : (a b : List ℕ) → (length a ≡ length b → ⊥) → same_bytes a b ≡ false
unfolding same_bytes both
same_long [] [] h = absurd (h refl)
same_long [] (y ∷ b) h = refl
same_long (x ∷ a) [] h = refl
same_long (x ∷ a) (y ∷ b) h = rw (same_long a b (λ e. h (ap suc e))) (both_false (eqb x y))

-- the first i bytes are compared: equal or not, and what is left decides
pub record Compared (a b : List ℕ) (equal : Bool) (i : ℕ) : Type 0 where
  pub inside : i ≤ length a
  pub so_far : same_bytes a b ≡ both equal (same_bytes (drop i a) (drop i b))

pub same_start : (a b : List ℕ) → Compared a b true 0
unfolding both
same_start a b = record { inside = omega arith; so_far = refl }

module _ {a b : List ℕ} {equal : Bool} {i : ℕ} (p : Compared a b equal i) where
  pub same_done : length a ≤ i → length b ≤ i → equal ≡ same_bytes a b
  unfolding same_bytes
  same_done h k = sym (p.so_far ∙ rw (drop_of_length-le a h, drop_of_length-le b k) (both_true equal))

  module _ (h : i < length a) (k : i < length b) where
    same_at : same_bytes (drop i a) (drop i b) ≡ both (eqb (get_or a i 0) (get_or b i 0)) (same_bytes (drop (suc i) a) (drop (suc i) b))
    unfolding same_bytes
    same_at = rw (drop-cons a i 0 h, drop-cons b i 0 k)

    pub same_not : (get_or a i 0 ≡ get_or b i 0 → ⊥) → {now : Bool} → now ≡ false → Compared a b now (i + 1)
    unfolding both
    same_not n z =
        let e : same_bytes (drop i a) (drop i b) ≡ false = same_at ∙ rw (ne_eqb (get_or a i 0) (get_or b i 0) n) in
        record { inside = omega arith; so_far = rw z (p.so_far ∙ rw e (both_false equal)) }

    pub same_more : get_or a i 0 ≡ get_or b i 0 → {now : Bool} → now ≡ equal → Compared a b now (i + 1)
    unfolding both
    same_more e z =
        let f : same_bytes (drop i a) (drop i b) ≡ same_bytes (drop (i + 1) a) (drop (i + 1) b) = same_at ∙ rw (
          eq-eqb (get_or a i 0) (get_or b i 0) e,
          add-one,
        ) in
        record { inside = omega arith; so_far = rw z (p.so_far ∙ ap (both equal) f) }

-- kind_at
pub kind_there : (v : List ℕ) (at : ℕ) → at < length v → get_or v at 0 ≡ kind_at v at
kind_there [] at h = absurd (omega arith)
kind_there (b ∷ v) zero h = refl
kind_there (b ∷ v) (suc at) h = kind_there v at (omega arith)

-- kind_at: a byte is told from one that is not there
pub kind_is : (o : Option ℕ) {k : ℕ} (n : ℕ) → n < 255 → unwrap_or o 255 ≡ k → option_eq eqb o (Some n) ≡ eqb k n
kind_is (Some x) n h e = rw e
kind_is None n h e = rw (← e) (sym (ne_eqb 255 n (λ z. omega arith)))

module _ (o : Option ℕ) {k : ℕ} (e : unwrap_or o 255 ≡ k) where
  pub is_three : false ≡ not (option_eq eqb o (Some 3)) → k ≡ 3
  is_three h = go (eqb k 3) refl (h ∙ ap not (kind_is o 3 (omega arith) e))
    where
      go : (b : Bool) → eqb k 3 ≡ b → false ≡ not b → k ≡ 3
      go true q z = eqb-true k 3 q
      go false q z = absurd (cc)

  pub no_three : true ≡ not (option_eq eqb o (Some 3)) → k ≡ 3 → ⊥
  no_three h z = let q : true ≡ false = h ∙ ap not (kind_is o 3 (omega arith) e ∙ eq-eqb k 3 z) in absurd (cc)

-- rest_kind: a list with members whose first is refused, and one whose first is read
front_there : (v : List ℕ) → kind_at v 0 ≡ 3 → (length v ≡ 0 → ⊥) × (get_or v 0 0 ≡ 3)
front_there [] e = absurd (omega arith)
front_there (b ∷ v) e = (λ z. omega arith, e)

module _ (v : List ℕ) (k : kind_at v 0 ≡ 3) where
  pub rest_lost : None ≡ middle_of (shape_of v) → 255 ≡ rest_kind v
  unfolding rest_kind kind_behind
  rest_lost e = let f = front_there v k in ap (kind_behind v) (front_lost v f.0 f.1 e)

  pub rest_found : {m : ℕ} → Some m ≡ middle_of (shape_of v) → kind_at v m ≡ rest_kind v
  unfolding rest_kind kind_behind
  rest_found e = let f = front_there v k in ap (kind_behind v) (front_found v f.0 f.1 e)

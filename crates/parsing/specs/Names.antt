-- WORDS AND NAMES as code has them: a name is the place where it begins, and names in scope are places one behind the other.
use Rattle.std.specs.Prelude.{◌≡◌, Bool, ◌&&◌, ◌||◌, cond, eqb, leb, length, take}
use Rattle.std.proofs.Math.Path.{refl, ap}
use Rattle.std.proofs.Common.{sym, ◌∙◌, add-zero, get_or-drop, get_or-take, take-take, drop-drop, length-drop, length-take-le}
use Rattle.std.proofs.Math.Seq.{take-length}
use Rattle.std.specs.Bool.{Decides}
use Rattle.std.specs.Cmp.Lexicographic.{pointwise}
use Rattle.std.proofs.Math.Bool.{true, false, not}
use Rattle.std.proofs.Math.Option.{Option, none, some}
use Rattle.std.specs.Prelude as std
use Rattle.std.specs.Prelude.{Some, None, IsSome}
use mathlib.Core.List.{List, [], ◌∷◌, ◌++◌}
use Prim.Native.Nat.{ℕ, zero, suc, ◌+◌, ◌-◌, ◌≤◌, ◌<◌}
use native.Mathlib.Omega.{arith}
use Rattle.std.proofs.Math.ListN.{get_or, drop, drop_of_length-le}
use borrow.Author.Tests.{ne_eqb, eq-eqb, eqb-true, eqb-false, le-leb, lt-leb, not-true}
use Rattle.tokens.specs.Tokens.{class_of, word_of, same}
use Rattle.syntax.specs.Reader.{Name, find, is_some, words, wild, sent, some_byte, is_name}
use Rattle.tokens.specs.Laid.{shuts}
use Rattle.tokens.specs.Ahead.{all_in, is_part}
use Rattle.tokens.specs.Same.{and-true}
use Rattle.lexing.specs.Lexing.{in_run, part, part_length, part_behind, at_byte, token_of, token_at, Shape}
use Rattle.lexing.specs.declared.Tail.TheVariants as tail
use Rattle.lexing.specs.declared.Kind.{Kind}
use Rattle.lexing.specs.declared.Kind.TheVariants as kind
use Rattle.lexing.specs.declared.Lexeme.{Lexeme}

-- a test that fails
pub fails : {r : Bool} {P : Type 0} → Decides r P → r ≡ false → P → ⊥
fails d e p = let q = d.1 p in cc

-- SPELLING

eqb_sym : (a b : ℕ) → eqb a b ≡ eqb b a
eqb_sym a b = go (eqb a b) refl
  where
    go : (t : Bool) → eqb a b ≡ t → eqb a b ≡ eqb b a
    go true e = e ∙ sym (eq-eqb b a (sym (eqb-true a b e)))
    go false e = e ∙ sym (ne_eqb b a (λ q. eqb-false a b e (sym q)))

pub same_sym : (x y : List ℕ) → same x y ≡ same y x
unfolding same
same_sym [] [] = refl
same_sym [] (b ∷ y) = refl
same_sym (a ∷ x) [] = refl
same_sym (a ∷ x) (b ∷ y) = rw (same_sym x y, eqb_sym a b)

pub same_long : (x y : List ℕ) → (length x ≡ length y → ⊥) → false ≡ same x y
unfolding same
same_long [] [] h = absurd (h refl)
same_long [] (b ∷ y) h = refl
same_long (a ∷ x) [] h = refl
same_long (a ∷ x) (b ∷ y) h = go (eqb a b) (same_long x y (λ q. h (ap suc q)))
  where
    go : (t : Bool) → false ≡ same x y → false ≡ t && same x y
    go true e = e
    go false e = refl

-- as two slices are compared
pub same_bytes : (x y : List ℕ) → pointwise eqb x y ≡ same x y
unfolding same
same_bytes [] [] = refl
same_bytes [] (b ∷ y) = refl
same_bytes (a ∷ x) [] = refl
same_bytes (a ∷ x) (b ∷ y) = ap (λ (t : Bool). eqb a b && t) (same_bytes x y)

pub part_at_lem : (s : List ℕ) (at end i : ℕ) → i < end - at → get_or (part s at end) i 0 ≡ get_or s (at + i) 0
part_at_lem s at end i h = rw (get_or-take, get_or-drop)

-- THE WORD OF A TOKEN
module _ (s : List ℕ) (t : Lexeme) where
  pub word_is : t.kind ≡ kind.Word → word_of (token_at s t) ≡ part s t.at t.end
  unfolding token_of token_at word_of
  word_is e = rw e

  pub word_none : (t.kind ≡ kind.Word → ⊥) → word_of (token_at s t) ≡ []
  unfolding token_of token_at word_of
  word_none h = go t.kind h
    where
      go : (k : Kind) → (k ≡ kind.Word → ⊥) → word_of (token_of s t.at t.end k) ≡ []
      go kind.Word h = absurd (h refl)
      go kind.Digits h = refl
      go kind.Hash h = refl
      go kind.Arrow h = refl
      go kind.End h = refl
      go (kind.Mark c) h = refl

pub either : {a b c d : Bool} → a ≡ b → c ≡ d → a || c ≡ b || d
either e f = rw (e, f)

-- A NAME
module _ {s : List ℕ} {t : Lexeme} (g : Shape s t) where
  pub no_name : (t.kind ≡ kind.Word → ⊥) → false ≡ is_name (word_of (token_at s t))
  unfolding is_name
  no_name h = rw (word_none s t h)

pub wild_no_name : (w : Name) → same w wild ≡ true → false ≡ is_name w
unfolding is_name
wild_no_name w e = go (some_byte w)
  where
    go : (b : Bool) → false ≡ (b && (not (same w wild) && not (is_some (find words w))))
    go true = rw e
    go false = refl

-- any word of six bytes, or of eight and more, is one
abbrev no_long : ℕ → List Name → Bool
no_long n [] = true
no_long n (x ∷ xs) = not (eqb (length x) n) && no_long n xs

find_long : (xs : List Name) (w : Name) → no_long (length w) xs ≡ true → find xs w ≡ none
unfolding find
find_long [] w h = refl
find_long (x ∷ xs) w h =
    let a = and-true (not (eqb (length x) (length w))) (no_long (length w) xs) h in
    rw (sym (same_long x w (eqb-false (length x) (length w) (not-true _ a.0)))) (find_long xs w a.1)

pub long_name : (w : Name) → no_long (length w) words ≡ true → 1 < length w → true ≡ is_name w
unfolding is_name
long_name [] h l = absurd (omega arith)
long_name (c ∷ w) h l = rw (sym (same_long (c ∷ w) wild (λ q. omega arith)), find_long words (c ∷ w) h)

pub name_six : (w : Name) → 6 ≤ length w → length w < 7 → true ≡ is_name w
name_six w h k = let e : length w ≡ 6 = omega arith in long_name w (rw e) (omega arith)

pub name_eight : (w : Name) → 8 ≤ length w → true ≡ is_name w
name_eight w h = long_name w (more (length w) h) (omega arith)
  where
    more : (n : ℕ) → 8 ≤ n → no_long n words ≡ true
    more n h = rw (
      ne_eqb 4 n (λ q. omega arith),
      ne_eqb 7 n (λ q. omega arith),
      ne_eqb 2 n (λ q. omega arith),
      ne_eqb 3 n (λ q. omega arith),
      ne_eqb 5 n (λ q. omega arith),
    )

pub ruleset long_names = (name_six, name_eight)

-- THE NAME AT A PLACE: as far as the word goes; at the end of the text stands `sent`
unfoldable pub word_from : List ℕ → Name
word_from [] = []
word_from (c ∷ s) = cond (is_part (class_of c)) (c ∷ word_from s) []

unfoldable pub name_at : List ℕ → ℕ → Name
name_at s p = cond (leb (length s) p) sent (word_from (drop p s))

pub name_sent : (s : List ℕ) (p : ℕ) → length s ≤ p → name_at s p ≡ sent
unfolding name_at
name_sent s p h = rw (le-leb (length s) p h)

pub name_word : (s : List ℕ) (p : ℕ) → p < length s → name_at s p ≡ word_from (drop p s)
unfolding name_at
name_word s p h = rw (lt-leb (length s) p h)

word_all : (w b : List ℕ) → all_in is_part w ≡ true → shuts b ≡ true → word_from (w ++ b) ≡ w
unfolding word_from shuts
word_all [] [] h k = refl
word_all [] (c ∷ b) h k = rw (not-true (is_part (class_of c)) k)
word_all (c ∷ w) b h k = go (is_part (class_of c)) h (λ q. word_all w b q k)
  where
    go : (t : Bool) → t && all_in is_part w ≡ true → (all_in is_part w ≡ true → word_from (w ++ b) ≡ w) → cond t (c ∷ word_from (w ++ b)) [] ≡ c ∷ w
    go true q f = ap (λ (l : List ℕ). c ∷ l) (f q)
    go false q f = let z : ◌≡◌ {A = ℕ} 0 1 = cc in absurd (omega arith)

-- the name at a word's place is the word
pub name_read : {s : List ℕ} {t : Lexeme} → Shape s t → t.kind ≡ kind.Word → name_at s t.at ≡ word_of (token_at s t)
name_read {s} {t} g e =
    let w = g.a_word e in
    name_word s t.at (omega (arith, w.0, g.inside)) ∙ ap word_from (sym (part_behind s t.at t.end g.order))
    ∙ word_all (part s t.at t.end) (drop t.end s) w.1 w.2 ∙ sym (word_is s t e)

-- A NAME COMPARED with a word: the text goes on with the word, and there the name ends
starts_same : (l w : List ℕ) → all_in is_part w ≡ true → same (word_from l) w ≡ pointwise eqb w (take (length w) l) && shuts (drop (length w) l)
unfolding word_from same shuts
starts_same [] [] a = refl
starts_same [] (b ∷ w) a = refl
starts_same (c ∷ l) [] a = go (is_part (class_of c))
  where
    go : (t : Bool) → same (cond t (c ∷ word_from l) []) [] ≡ not t
    go true = refl
    go false = refl
starts_same (c ∷ l) (b ∷ w) a = by (eqb b c) refl (starts_same l w)
  where
    other : (t : Bool) → eqb c b ≡ false → same (cond t (c ∷ word_from l) []) (b ∷ w) ≡ false
    other true e = rw e
    other false e = refl

    by : (t : Bool) → eqb b c ≡ t → (all_in is_part w ≡ true → same (word_from l) w ≡ pointwise eqb w (take (length w) l) && shuts (drop (length w) l))
        → same (cond (is_part (class_of c)) (c ∷ word_from l) []) (b ∷ w)
        ≡ (t && pointwise eqb w (take (length w) l)) && shuts (drop (length w) l)
    by true e f =
        let h = and-true (is_part (class_of b)) (all_in is_part w) a in
        let q : c ≡ b = sym (eqb-true b c e) in
        rw (q, h.0, eq-eqb b b refl) (f h.1)
    by false e f = other (is_part (class_of c)) (eqb_sym c b ∙ e)

-- NAMES IN SCOPE: so many places from `base` on, the last of them on top
module _ (s names : List ℕ) (base : ℕ) where
  unfoldable pub stack_of : ℕ → List Name
  stack_of zero = []
  stack_of (suc m) = name_at s (get_or names (base + m) 0) ∷ stack_of m

  pub stack-length : (m : ℕ) → length (stack_of m) ≡ m
  unfolding stack_of
  stack-length zero = refl
  stack-length (suc m) = ap suc (stack-length m)

-- the same places, the same names
pub stack_kept : (s names names' : List ℕ) (base m : ℕ) → take (base + m) names ≡ take (base + m) names' → stack_of s names base m ≡ stack_of s names' base m
unfolding stack_of
stack_kept s names names' base zero e = refl
stack_kept s names names' base (suc m) e =
    let n : base + suc m ≡ suc (base + m) = omega arith in
    let f : take (suc (base + m)) names ≡ take (suc (base + m)) names' = rw n at e in
    let g : take (base + m) names ≡ take (base + m) names' =
    sym (take-take (base + m) (suc (base + m)) names (omega arith)) ∙ ap (take (base + m)) f ∙ take-take (base + m) (suc (base + m)) names' (omega arith) in
    let i : get_or names (base + m) 0 ≡ get_or names' (base + m) 0 =
    sym (get_or-take (suc (base + m)) names (base + m) 0 (omega arith)) ∙ ap (λ (l : List ℕ). get_or l (base + m) 0) f
    ∙ get_or-take (suc (base + m)) names' (base + m) 0 (omega arith) in
    rw (i, stack_kept s names names' base m g)

-- the number of a name, or none
abbrev pub found : Option ℕ → std.Option ℕ
found none = None
found (some x) = Some x

pub found_some : {o : Option ℕ} {x : ℕ} → Some x ≡ found o → o ≡ some x
found_some {o = none} e = cc
found_some {o = some y} e = cc

pub found_none : {o : Option ℕ} → None ≡ found o → o ≡ none
found_none {o = none} e = refl
found_none {o = some y} e = cc

pub found_is : (o : Option ℕ) {r : std.Option ℕ} (b : Bool) → r ≡ found o → std.is_some r ≡ b → is_some o ≡ b
found_is o b e h = go o (ap std.is_some (sym e) ∙ h)
  where
    go : (o : Option ℕ) → std.is_some (found o) ≡ b → is_some o ≡ b
    go none q = q
    go (some x) q = q

-- those above i are other names
pub record Above (s names : List ℕ) (base many : ℕ) (w : Name) (i : ℕ) : Type 0 where
  pub others : find (stack_of s names base many) w ≡ find (stack_of s names base i) w

pub above_all : (s names : List ℕ) (base many : ℕ) (w : Name) → Above s names base many w many
above_all s names base many w = record { others = refl }

module _ {s names : List ℕ} {base many : ℕ} {w : Name} where
  pub above_one : {i : ℕ} → Above s names base many w (suc i) → same (name_at s (get_or names (base + i) 0)) w ≡ false → Above s names base many w i
  unfolding find stack_of
  above_one k e = record { others = k.others ∙ rw e }

  pub above_found : {i : ℕ} → Above s names base many w i → 0 < i → same (name_at s (get_or names (base + (i - 1)) 0)) w ≡ true
      → Some (i - 1) ≡ found (find (stack_of s names base many) w)
  unfolding find stack_of
  above_found {i = zero} k h e = absurd (omega arith)
  above_found {i = suc i} k h e =
      let z : suc i - 1 ≡ i = omega arith in
      rw (k.others, z, rw z at e, stack-length s names base i)

  pub above_none : Above s names base many w 0 → None ≡ found (find (stack_of s names base many) w)
  unfolding find stack_of
  above_none k = rw k.others

-- where a word ends
pub shut_end : (s : List ℕ) (p : ℕ) → length s ≤ p → true ≡ shuts (drop p s)
unfolding shuts
shut_end s p h = rw (drop_of_length-le s h)

pub shut_at : (s : List ℕ) (p : ℕ) {b : Bool} → p < length s → b ≡ in_run tail.Letters (class_of (get_or s p 0)) → not b ≡ shuts (drop p s)
unfolding shuts in_run
shut_at s p h e = rw (at_byte s p h, e)

-- a name compared: `sent`, and any other
pub name_sent_same : (s : List ℕ) (t : Lexeme) (p : ℕ) {b : Bool} → length s ≤ p → b ≡ same (word_of (token_at s t)) sent
    → b ≡ same (name_at s p) (word_of (token_at s t))
name_sent_same s t p h e = rw (name_sent s p h) (e ∙ same_sym (word_of (token_at s t)) sent)

pub name_alike : {s : List ℕ} {t : Lexeme} (p : ℕ) {a b : Bool} → Shape s t → t.kind ≡ kind.Word → p < length s
    → a ≡ pointwise eqb (part s t.at t.end) (take (length (part s t.at t.end)) (take (length s - p) (drop p s)))
    → b ≡ shuts (drop (p + length (part s t.at t.end)) s)
    → a && b ≡ same (name_at s p) (word_of (token_at s t))
name_alike {s} {t} p g e h k l =
    let n = length (part s t.at t.end) in
    let q : drop (p + n) s ≡ drop n (drop p s) = sym (drop-drop n p s) in
    let r : take (length s - p) (drop p s) ≡ drop p s = ap (λ (i : ℕ). take i (drop p s)) (sym (length-drop p s)) ∙ take-length (drop p s) in
    rw (k, l, r, word_is s t e, name_word s p h, q) (sym (starts_same (drop p s) (part s t.at t.end) (g.a_word e).1))

-- a name whose first byte is another than the word's
other_first : (w l : List ℕ) → 0 < length w → 0 < length l → (get_or l 0 0 ≡ get_or w 0 0 → ⊥) → pointwise eqb w (take (length w) l) ≡ false
other_first [] l h k n = absurd (omega arith)
other_first (b ∷ w) [] h k n = absurd (omega arith)
other_first (b ∷ w) (c ∷ l) h k n = rw (ne_eqb b c (λ e. n (sym e)))

pub name_other : {s : List ℕ} {t : Lexeme} (p : ℕ) → Shape s t → t.kind ≡ kind.Word → p < length s → (get_or s p 0 ≡ get_or s t.at 0 → ⊥)
    → false ≡ same (name_at s p) (word_of (token_at s t))
name_other {s} {t} p g e h n =
    let w = part s t.at t.end in
    let few : t.at < t.end = (g.a_word e).0 in
    let l = take (length s - p) (drop p s) in
    let long : length w ≡ t.end - t.at = part_length s t.at t.end g.inside in
    let some : 0 < length l = rw (length-take-le (length s - p) (drop p s) (omega (arith, length-drop p s))) (omega arith) in
    let at_p : get_or l 0 0 ≡ get_or s p 0 = get_or-take (length s - p) (drop p s) 0 0 (omega arith) ∙ get_or-drop p s 0 0 ∙ rw add-zero in
    let at_t : get_or w 0 0 ≡ get_or s t.at 0 = part_at_lem s t.at t.end 0 (omega arith) ∙ rw add-zero in
    name_alike {s = s} {t = t} p g e h (sym (other_first w l (omega (arith, long)) some (λ q. n (sym at_p ∙ q ∙ at_t)))) refl

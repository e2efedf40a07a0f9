-- TOKENS EXPECTED: what the functions answer that expect a mark, a word, a name, a number, a variable, a section's name or a test.
use Rattle.std.specs.Prelude.{◌≡◌, Bool, true, false, ◌&&◌, ◌||◌, cond, eqb, leb, get_or, take, drop, set}
use Rattle.std.proofs.Math.Path.{refl}
use Rattle.std.proofs.Common.{sym, ap, ◌∙◌, add-one, drop_of_length-le, length-set, get_or-set_same}
use Rattle.std.proofs.Math.Option.{Option, none, some}
use mathlib.Core.List.{List, [], ◌∷◌}
use Prim.Native.Nat.{ℕ, zero, suc, ◌+◌, ◌*◌, ◌-◌, ◌≤◌, ◌<◌}
use native.Mathlib.Omega.{arith}
use Rattle.std.proofs.Math.ListN.{length}
use Rattle.std.proofs.lemmas.List.{take-set-le}
use borrow.Author.Tests.{ne_eqb, eq-eqb, le-leb, lt-leb, leb-true}
use Rattle.tokens.specs.Quoted.{bytes}
use Rattle.tokens.specs.Tokens.{Token, Class, blank, letter, digit, dash, sharp, other, class_of, arrow, first, rest, word_of}
use Rattle.tokens.specs.Tokens.{mark_of, same}
use Rattle.syntax.specs.Reader.{Out, ok, fault, ◌>>=◌, Name, Scope, scope, find, is_some, wild, tests, is_name, symbol, keyword, bind, section_name, known}
use Rattle.syntax.specs.Reader.{is, value, zero_first, valued, number, by_number, variable_by, variable, test_by, test}
use Rattle.tokens.specs.Laid.{is_digit, is_letter}
use Rattle.tokens.specs.Tokens.{is_blank as is_blank', is_letter as is_letter'}
use Rattle.tokens.specs.Ahead.{all_in, letter_first, place_at}
use Rattle.tokens.specs.Same.{and-true}
use Rattle.lexing.specs.Lexing.{Between, ahead, part, part_first, part_length, at_byte, class_named, named_letter, token_of, token_at, Shape, Next}
use Rattle.parsing.specs.Cursor.{fault_at, behind, Told, on, off, fault_told, Behind, With, fault_same, Carries, Goes, told_then}
use Rattle.parsing.specs.Names.{part_at_lem, word_is, word_none, name_read, name_at, stack_of, stack-length, same_sym}
use Rattle.parsing.specs.declared.cursor.Cursor.{Cursor}
use Rattle.lexing.specs.declared.Class.TheVariants as class
use Rattle.lexing.specs.declared.Kind.{Kind}
use Rattle.lexing.specs.declared.Kind.TheVariants as kind
use Rattle.lexing.specs.declared.Lexeme.{Lexeme}
use Rattle.parsing.specs.declared.expect.Scope.{Scope as Names}

-- MARKS: an arrow, and any one byte; no other kind of token is a symbol
abbrev pub is_symbol : Kind → Bool
is_symbol kind.Word = false
is_symbol kind.Digits = false
is_symbol kind.Hash = false
is_symbol kind.Arrow = true
is_symbol kind.End = false
is_symbol (kind.Mark c) = true

-- the mark of a token of a kind
unfoldable pub marked : Kind → List ℕ
marked kind.Word = []
marked kind.Digits = []
marked kind.Hash = []
marked kind.Arrow = arrow
marked kind.End = []
marked (kind.Mark c) = c ∷ []

pub mark_is : (s : List ℕ) (t : Lexeme) → mark_of (token_at s t) ≡ marked t.kind
unfolding token_of token_at marked mark_of
mark_is s t = go t.kind
  where
    go : (k : Kind) → mark_of (token_of s t.at t.end k) ≡ marked k
    go kind.Word = refl
    go kind.Digits = refl
    go kind.Hash = refl
    go kind.Arrow = refl
    go kind.End = refl
    go (kind.Mark c) = refl

pub mark_own : (m : Kind) → is_symbol m ≡ true → same (marked m) (marked m) ≡ true
unfolding marked same
mark_own kind.Word h = refl
mark_own kind.Digits h = refl
mark_own kind.Hash h = refl
mark_own kind.Arrow h = refl
mark_own kind.End h = refl
mark_own (kind.Mark c) h = rw (eq-eqb c c refl)

and-false : (b : Bool) → b && false ≡ false
and-false true = refl
and-false false = refl

pub mark_other : (k m : Kind) → is_symbol m ≡ true → (k ≡ m → ⊥) → same (marked k) (marked m) ≡ false
unfolding marked same
mark_other k kind.Word s h = cc
mark_other k kind.Digits s h = cc
mark_other k kind.Hash s h = cc
mark_other k kind.End s h = cc
mark_other kind.Word kind.Arrow s h = refl
mark_other kind.Digits kind.Arrow s h = refl
mark_other kind.Hash kind.Arrow s h = refl
mark_other kind.Arrow kind.Arrow s h = absurd (h refl)
mark_other kind.End kind.Arrow s h = refl
mark_other (kind.Mark c) kind.Arrow s h = and-false (eqb c 45)
mark_other kind.Word (kind.Mark c) s h = refl
mark_other kind.Digits (kind.Mark c) s h = refl
mark_other kind.Hash (kind.Mark c) s h = refl
mark_other kind.Arrow (kind.Mark c) s h = and-false (eqb 45 c)
mark_other kind.End (kind.Mark c) s h = refl
mark_other (kind.Mark b) (kind.Mark c) s h = rw (ne_eqb b c (λ q. h (ap kind.Mark q)))

or-true : (b : Bool) → b || true ≡ true
or-true true = refl
or-true false = refl

-- A FAULT AT THE TOKEN AHEAD, and a step over it
module _ {s : List ℕ} (c : Cursor) {t : Lexeme} (n : Next s c.at t) where
  pub fault_here : {X : Type 0} {Q : X → Cursor → Type 0} {code d : ℕ} → Between s c.at → 0 < code
      → Told s Q (fault code (length (ahead s c.at)) 0 d) (fault_at c code t.at d)
  fault_here b h = off h refl (let e = n.place b in let z : place_at s (length (ahead s c.at)) + 0 ≡ t.at = omega arith in sym z) refl

  pub over_it : (f d : ℕ) → Between s c.at → Behind s (rest (ahead s c.at)) (behind c t.end f d)
  over_it f d b = record { here = n.here b; tokens = n.behind }

  -- SYMBOLS AND WORDS
  module _ (d : ℕ) where
    pub symbol_read : (m : Kind) → is_symbol m ≡ true → t.kind ≡ m → Between s c.at
        → Told s (Behind s) (symbol (marked m) d (ahead s c.at)) (behind c t.end 0 0)
    unfolding symbol
    symbol_read m h e b = rw (n.token, mark_is s t, e, mark_own m h) (on refl (over_it 0 0 b))

    pub symbol_other : (m : Kind) → is_symbol m ≡ true → (t.kind ≡ m → ⊥) → Between s c.at
        → Told s (Behind s) (symbol (marked m) d (ahead s c.at)) (fault_at c 90 t.at d)
    unfolding symbol
    symbol_other m i h b = rw (n.token, mark_is s t, mark_other t.kind m i h) (fault_here b (omega arith))

    pub keyword_read : (w : Name) → same (word_of (token_at s t)) w ≡ true → Between s c.at
        → Told s (Behind s) (keyword w d (ahead s c.at)) (behind c t.end 0 0)
    unfolding keyword
    keyword_read w e b = rw (n.token, e) (on refl (over_it 0 0 b))

    pub keyword_other : (w : Name) → same (word_of (token_at s t)) w ≡ false → Between s c.at
        → Told s (Behind s) (keyword w d (ahead s c.at)) (fault_at c 90 t.at d)
    unfolding keyword
    keyword_other w e b = rw (n.token, e) (fault_here b (omega arith))

-- a fault is handed on
pub goes_on : {s : List ℕ} {X : Type 0} {Q : X → Cursor → Type 0} (f : List Token → Out X) (c : Cursor) → (c.code ≡ 0 → ⊥) → Goes s Q f c c
goes_on f c h = record { same = refl; carries = λ q. fault_same c; told = λ e b. absurd (h e) }

-- what a step answers, behind the test for a fault
pub goes : {s : List ℕ} {X : Type 0} {Q : X → Cursor → Type 0} (f : List Token → Out X) {c r : Cursor} → c.code ≡ 0 → r.count ≡ c.count
    → (Between s c.at → Told s Q (f (ahead s c.at)) r) → Goes s Q f c r
goes f e n t = record { same = n; carries = λ q. absurd (q e); told = λ z b. t b }

-- THE NAME AT A PLACE ONCE MORE
pub record Again (s : List ℕ) (place detail : ℕ) (c r : Cursor) : Type 0 where
  pub same : r.count ≡ c.count
  pub carries : Carries c r
  pub told : c.code ≡ 0 → Between s c.at → 0 < length (name_at s place) → Told s (Behind s) (keyword (name_at s place) detail (ahead s c.at)) r

pub again_on : (s : List ℕ) (place detail : ℕ) (c : Cursor) → (c.code ≡ 0 → ⊥) → Again s place detail c c
again_on s place detail c h = record { same = refl; carries = λ q. fault_same c; told = λ e b. absurd (h e) }

module _ {s : List ℕ} {c : Cursor} {t : Lexeme} (place d : ℕ) (n : Next s c.at t) (z : c.code ≡ 0) where
  pub again_none : (t.kind ≡ kind.Word → ⊥) → Again s place d c (fault_at c 90 t.at d)
  unfolding same
  again_none h = record {
    same = refl;
    carries = λ q. absurd (q z);
    told = λ e b l. keyword_other c n d (name_at s place) (none_same (name_at s place) l) b;
  }
    where
      none_same : (w : Name) → 0 < length w → same (word_of (token_at s t)) w ≡ false
      none_same [] l = absurd (omega arith)
      none_same (b ∷ w) l = rw (word_none s t h)

  pub again_other : same (name_at s place) (word_of (token_at s t)) ≡ false → Again s place d c (fault_at c 90 t.at d)
  again_other e = record {
    same = refl;
    carries = λ q. absurd (q z);
    told = λ f b l. keyword_other c n d (name_at s place) (same_sym (word_of (token_at s t)) (name_at s place) ∙ e) b;
  }

  pub again_read : same (name_at s place) (word_of (token_at s t)) ≡ true → Again s place d c (behind c t.end 0 0)
  again_read e = record {
    same = refl;
    carries = λ q. absurd (q z);
    told = λ f b l. keyword_read c n d (name_at s place) (same_sym (word_of (token_at s t)) (name_at s place) ∙ e) b;
  }

-- the number of a name is below how many there are
find_below : (xs : List Name) (w : Name) {x : ℕ} → find xs w ≡ some x → x < length xs
unfolding find
find_below [] w e = cc
find_below (y ∷ xs) w {x} e = go (same y w) e (λ q. find_below xs w q)
  where
    go : (b : Bool) → cond b (some (length xs)) (find xs w) ≡ some x → (find xs w ≡ some x → x < length xs) → x < suc (length xs)
    go true q f = let z : length xs ≡ x = cc in omega arith
    go false q f = let z = f q in omega arith

found_below : (s names : List ℕ) (base many : ℕ) (w : Name) {x : ℕ} → find (stack_of s names base many) w ≡ some x → x < many
found_below s names base many w e = let l = find_below (stack_of s names base many) w e in let m = stack-length s names base many in omega arith

-- A NEW NAME: it is noted behind those in scope, and its place is what was found
pub record Named (s names : List ℕ) (top : ℕ) (w : Name) (r : Cursor) : Type 0 where
  pub name : name_at s r.found ≡ w
  pub some : 0 < length w
  pub noted : get_or names top 0 ≡ r.found

pub record Binds (s names : List ℕ) (base many : ℕ) (c : Cursor) (names' : List ℕ) (r : Cursor) : Type 0 where
  pub same : r.count ≡ c.count
  pub carries : Carries c r
  pub long : length names' ≡ length names
  pub kept : take (base + many) names' ≡ take (base + many) names
  pub told : c.code ≡ 0 → Between s c.at → Told s (With s (Named s names' (base + many))) (bind (stack_of s names base many) (ahead s c.at)) r

pub binds_on : (s names : List ℕ) (base many : ℕ) (c : Cursor) → (c.code ≡ 0 → ⊥) → Binds s names base many c names c
binds_on s names base many c h = record { same = refl; carries = λ q. fault_same c; long = refl; kept = refl; told = λ e b. absurd (h e) }

module _ {s names : List ℕ} (base many : ℕ) {c : Cursor} {t : Lexeme} (n : Next s c.at t) (z : c.code ≡ 0) where
  binds_fault : {code d : ℕ} → (Between s c.at
      → Told s (With s (Named s names (base + many))) (bind (stack_of s names base many) (ahead s c.at)) (fault_at c code t.at d))
      → Binds s names base many c names (fault_at c code t.at d)
  binds_fault f = record { same = refl; carries = λ q. absurd (q z); long = refl; kept = refl; told = λ e b. f b }

  pub bind_none : same (word_of (token_at s t)) wild ≡ false → is_name (word_of (token_at s t)) ≡ false → Binds s names base many c names (fault_at c 90 t.at 2)
  unfolding bind
  bind_none e f = binds_fault (λ b. rw (n.token, e, f) (fault_here c n b (omega arith)))

  pub bind_taken : same (word_of (token_at s t)) wild ≡ false → is_name (word_of (token_at s t)) ≡ true
      → is_some (find (stack_of s names base many) (word_of (token_at s t))) ≡ true → Binds s names base many c names (fault_at c 92 t.at 50)
  unfolding bind
  bind_taken e f g = binds_fault (λ b. rw (n.token, e, f, g) (fault_here c n b (omega arith)))

  module _ (room : base + many < length names) (k : t.kind ≡ kind.Word) where
    noted : (Between s c.at → bind (stack_of s names base many) (ahead s c.at) ≡ ok (word_of (token_at s t), rest (ahead s c.at)))
        → Binds s names base many c (set names (base + many) t.at) (behind c t.end t.at 0)
    noted f = record {
      same = refl;
      carries = λ q. absurd (q z);
      long = length-set names (base + many) t.at;
      kept = take-set-le (base + many) names (base + many) t.at (omega arith);
      told = λ e b. rw (f b) (on refl (record { stands = over_it c n t.at 0 b; value = named }));
    }
      where
        named : Named s (set names (base + many) t.at) (base + many) (word_of (token_at s t)) (behind c t.end t.at 0)
        named = record {
          name = name_read n.shape k;
          some = rw (word_is s t k) (let l = part_length s t.at t.end n.shape.inside in omega (arith, (n.shape.a_word k).0));
          noted = get_or-set_same names (base + many) t.at 0 room;
        }

    pub bind_wild : same (word_of (token_at s t)) wild ≡ true → Binds s names base many c (set names (base + many) t.at) (behind c t.end t.at 0)
    unfolding bind
    bind_wild e = noted (λ b. rw (n.token, e, or-true (is_name (word_of (token_at s t)))))

    pub bind_new : same (word_of (token_at s t)) wild ≡ false → is_name (word_of (token_at s t)) ≡ true
        → is_some (find (stack_of s names base many) (word_of (token_at s t))) ≡ false
        → Binds s names base many c (set names (base + many) t.at) (behind c t.end t.at 0)
    unfolding bind
    bind_new e f g = noted (λ b. rw (n.token, e, f, g))

-- a word of some bytes is a word
pub word_kind : (s : List ℕ) (t : Lexeme) → 0 < length (word_of (token_at s t)) → t.kind ≡ kind.Word
unfolding token_of token_at word_of
word_kind s t h = go t.kind h
  where
    go : (k : Kind) → 0 < length (word_of (token_of s t.at t.end k)) → k ≡ kind.Word
    go kind.Word q = refl
    go kind.Digits q = absurd (omega arith)
    go kind.Hash q = absurd (omega arith)
    go kind.Arrow q = absurd (omega arith)
    go kind.End q = absurd (omega arith)
    go (kind.Mark c) q = absurd (omega arith)

pub some_same : (w x : Name) → 0 < length x → same w x ≡ true → 0 < length w
unfolding same
some_same [] [] h e = h
some_same [] (c ∷ x) h e = cc
some_same (b ∷ w) x h e = omega arith

-- and so is a name
pub name_kind : (s : List ℕ) (t : Lexeme) → is_name (word_of (token_at s t)) ≡ true → t.kind ≡ kind.Word
unfolding is_name
name_kind s t e = word_kind s t (go (word_of (token_at s t)) e)
  where
    go : (w : Name) → is_name w ≡ true → 0 < length w
    go [] e = cc
    go (c ∷ w) e = omega arith

digit_range : (c : ℕ) → is_digit (class_of c) ≡ true → (48 ≤ c) × (c ≤ 57)
unfolding class_of
digit_range c e = go (is_blank' c) (is_letter' c) (leb 48 c) (leb c 57) (eqb c 45) (eqb c 35) refl refl e
  where
    go : (b l d d' h k : Bool) → leb 48 c ≡ d → leb c 57 ≡ d'
        → is_digit (cond b blank (cond l letter (cond (d && d') digit (cond h dash (cond k sharp other))))) ≡ true → (48 ≤ c) × (c ≤ 57)
    go true l d d' h k p q e = let z : ◌≡◌ {A = ℕ} 0 1 = cc in absurd (omega arith)
    go false true d d' h k p q e = let z : ◌≡◌ {A = ℕ} 0 1 = cc in absurd (omega arith)
    go false false true true h k p q e = (leb-true 48 c p, leb-true c 57 q)
    go false false false d' true k p q e = let z : ◌≡◌ {A = ℕ} 0 1 = cc in absurd (omega arith)
    go false false false d' false true p q e = let z : ◌≡◌ {A = ℕ} 0 1 = cc in absurd (omega arith)
    go false false false d' false false p q e = let z : ◌≡◌ {A = ℕ} 0 1 = cc in absurd (omega arith)
    go false false true false true k p q e = let z : ◌≡◌ {A = ℕ} 0 1 = cc in absurd (omega arith)
    go false false true false false true p q e = let z : ◌≡◌ {A = ℕ} 0 1 = cc in absurd (omega arith)
    go false false true false false false p q e = let z : ◌≡◌ {A = ℕ} 0 1 = cc in absurd (omega arith)

all_digits : (l : List ℕ) (i : ℕ) → all_in is_digit l ≡ true → i < length l → is_digit (class_of (get_or l i 0)) ≡ true
all_digits [] i h k = absurd (omega arith)
all_digits (c ∷ l) zero h k = (and-true (is_digit (class_of c)) (all_in is_digit l) h).0
all_digits (c ∷ l) (suc i) h k = all_digits l i (and-true (is_digit (class_of c)) (all_in is_digit l) h).1 (omega arith)

-- NUMBERS: digits from one place to another, and the largest number
pub record Digits (s : List ℕ) (from end most : ℕ) : Type 0 where
  pub order : from < end
  pub inside : end ≤ length s
  pub all : all_in is_digit (part s from end) ≡ true
  pub large : most ≤ 4294967295

pub record Number (end most v : ℕ) (r : Cursor) : Type 0 where
  pub is_found : r.found ≡ v
  pub is_behind : r.at ≡ end
  pub fits : v ≤ most

pub record Numbers (s : List ℕ) (from end most detail : ℕ) (c r : Cursor) : Type 0 where
  pub same : r.count ≡ c.count
  pub told : (left inner : ℕ) → place_at s left + inner ≡ from
      → Told s (Number end most) (number most detail left inner (part s from end) (letter_first (drop end s))) r

module _ (s : List ℕ) (at : ℕ) (h : at < length s) where
  pub letter_yes : class.Letter ≡ class_named (class_of (get_or s at 0)) → true ≡ letter_first (drop at s)
  letter_yes e = let k = named_letter (class_of (get_or s at 0)) (sym e) in rw (at_byte s at h, k)

  pub letter_no : (class_named (class_of (get_or s at 0)) ≡ class.Letter → ⊥) → false ≡ letter_first (drop at s)
  unfolding class_named
  letter_no n = rw (at_byte s at h) (go (class_of (get_or s at 0)) n)
    where
      go : (k : Class) → (class_named k ≡ class.Letter → ⊥) → false ≡ is_letter k
      go letter q = absurd (q refl)
      go blank q = refl
      go digit q = refl
      go dash q = refl
      go sharp q = refl
      go other q = refl

pub letter_none : (s : List ℕ) (at : ℕ) → length s ≤ at → false ≡ letter_first (drop at s)
letter_none s at h = rw (drop_of_length-le s h)

pub zero_short : (s : List ℕ) (from end : ℕ) → from ≤ end → end ≤ length s → end - from < 2 → false ≡ zero_first (part s from end)
unfolding zero_first
zero_short s from end g i h = go (part s from end) (part_length s from end i)
  where
    go : (l : List ℕ) → length l ≡ end - from → false ≡ zero_first l
    go [] e = refl
    go (x ∷ []) e = refl
    go (x ∷ y ∷ l) e = absurd (omega arith)

pub zero_long : (s : List ℕ) (from end : ℕ) → from ≤ end → end ≤ length s → 2 ≤ end - from → eqb (get_or s from 0) 48 ≡ zero_first (part s from end)
unfolding zero_first
zero_long s from end g i h =
    let e : end - from ≡ suc (suc (end - (from + 2))) = omega arith in
    let z : from + 1 + 1 ≡ from + 2 = omega arith in
    rw (e, at_byte s from (omega arith), at_byte s (from + 1) (omega arith))

-- so far: the value of the digits passed, and those that are left
pub record Counted (s : List ℕ) (from end most i v : ℕ) : Type 0 where
  pub later : from ≤ i
  pub most_i : i ≤ end
  pub small : v ≤ most
  pub so_far : value most 0 (part s from end) ≡ value most v (part s i end)

module _ {s : List ℕ} {from end most : ℕ} (g : Digits s from end most) where
  pub counted_none : Counted s from end most from 0
  counted_none = record { later = omega arith; most_i = omega (arith, g.order); small = omega arith; so_far = refl }

  digit_split : (i : ℕ) → i < end → part s i end ≡ get_or s i 0 ∷ part s (i + 1) end
  digit_split i h = part_first s i end (omega (arith, g.inside)) h

  -- each is a digit
  pub digit_at : (i : ℕ) → from ≤ i → i < end → (48 ≤ get_or s i 0) × (get_or s i 0 ≤ 57)
  digit_at i k h =
      let a = all_digits (part s from end) (i - from) g.all (rw (part_length s from end g.inside) (omega arith)) in
      let z : from + (i - from) ≡ i = omega arith in
      let e : get_or (part s from end) (i - from) 0 ≡ get_or s i 0 = part_at_lem s from end (i - from) (omega arith) ∙ ap (λ (n : ℕ). get_or s n 0) z in
      digit_range (get_or s i 0) (rw e at a)

  module _ {i v : ℕ} (k : Counted s from end most i v) (h : i < end) where
    pub counted_more : 10 * v + (get_or s i 0 - 48) ≤ most → Counted s from end most (i + 1) (10 * v + (get_or s i 0 - 48))
    unfolding value
    counted_more b = record {
      later = omega (arith, k.later);
      most_i = omega arith;
      small = b;
      so_far = k.so_far ∙ rw (digit_split i h, le-leb (10 * v + (get_or s i 0 - 48)) most b);
    }

    -- a number that is too large
    pub counted_over : (detail : ℕ) (c : Cursor) → most < 10 * v + (get_or s i 0 - 48) → zero_first (part s from end) ≡ false
        → Numbers s from end most detail c (fault_at c 93 i detail)
    unfolding number value valued
    counted_over detail c b z = record {
      same = refl;
      told = λ left inner e.
          let l = part_length s (i + 1) end g.inside in
          let m = part_length s from end g.inside in
          let w = k.later in
          let q : inner + (length (part s from end) - suc (length (part s (i + 1) end))) ≡ inner + (i - from) = omega arith in
          rw (z, k.so_far, digit_split i h, lt-leb (10 * v + (get_or s i 0 - 48)) most b, q)
          (fault_told c 93 left (inner + (i - from)) detail i (omega arith) (omega arith));
    }

  pub zero_fault : (detail : ℕ) (c : Cursor) → zero_first (part s from end) ≡ true → Numbers s from end most detail c (fault_at c 93 (from + 1) 61)
  unfolding number
  zero_fault detail c z = record { same = refl; told = λ left inner e. rw z (fault_told c 93 left (inner + 1) 61 (from + 1) (omega arith) (omega arith)) }

  module _ {v : ℕ} (z : zero_first (part s from end) ≡ false) (k : Counted s from end most end v) where
    all_value : value most 0 (part s from end) ≡ is v
    unfolding value
    all_value = let e : end - end ≡ 0 = omega arith in k.so_far ∙ rw e

    pub letter_fault : (detail : ℕ) (c : Cursor) → letter_first (drop end s) ≡ true → Numbers s from end most detail c (fault_at c 93 end 62)
    unfolding number valued
    letter_fault detail c b = record {
      same = refl;
      told = λ left inner e.
          let m = part_length s from end g.inside in
          let w = g.order in
          let q : inner + length (part s from end) ≡ inner + (end - from) = omega arith in
          rw (z, all_value, b, q) (fault_told c 93 left (inner + (end - from)) 62 end (omega arith) (omega arith));
    }

    pub number_read : (detail : ℕ) (c : Cursor) → letter_first (drop end s) ≡ false → Numbers s from end most detail c (behind c end v 0)
    unfolding number valued
    number_read detail c b = record {
      same = refl;
      told = λ left inner e. rw (z, all_value, b)
          (on refl (record { is_found = refl; is_behind = refl; fits = k.small }));
    }

-- A VARIABLE BY ITS NUMBER
pub record ByNumber (s : List ℕ) (t : Lexeme) (c r : Cursor) : Type 0 where
  pub same : r.count ≡ c.count
  pub told : (left : ℕ) → place_at s left ≡ t.at
      → Told s (Number t.end 255) (by_number left (part s (suc t.at) t.end) (letter_first (drop t.end s))) r

module _ {s : List ℕ} {t : Lexeme} (g : Shape s t) (k : t.kind ≡ kind.Hash) where
  pub no_number : (c : Cursor) → t.end - t.at < 2 → ByNumber s t c (fault_at c 90 (t.at + 1) 12)
  unfolding by_number
  no_number c h = record {
    same = refl;
    told = λ left e.
        let l : t.end - suc t.at ≡ 0 = omega arith in
        rw l (fault_told c 90 left 1 12 (t.at + 1) (omega arith) (omega arith));
  }

  pub hash_digits : 2 ≤ t.end - t.at → Digits s (t.at + 1) t.end 255
  hash_digits h = record { order = omega arith; inside = g.inside; all = rw (add-one t.at) (g.a_hash k).1; large = omega arith }

  pub by_number_told : {c r : Cursor} → 2 ≤ t.end - t.at → Numbers s (t.at + 1) t.end 255 64 c r → ByNumber s t c r
  by_number_told {c} {r} h w = record {
    same = w.same;
    told = λ left e. rw (some_digits (part s (suc t.at) t.end) left _ (rw (part_length s (suc t.at) t.end g.inside) (omega arith)))
        (rw add-one at (w.told left 1 (omega arith)));
  }
    where
      some_digits : (l : List ℕ) (left : ℕ) (b : Bool) → 0 < length l → by_number left l b ≡ number 255 64 left 1 l b
      some_digits [] left b q = absurd (omega arith)
      some_digits (x ∷ l) left b q = unfold by_number in refl

-- A VARIABLE
unfoldable pub scope_at : List ℕ → List ℕ → Names → Scope
scope_at s names sc = scope (stack_of s names sc.base sc.many) sc.lost

pub record IsVariable (sc : Names) (x : ℕ) (r : Cursor) : Type 0 where
  pub is_found : r.found ≡ x
  pub small : sc.many ≤ 256 → x < 256

-- any other token than a name and a hash is none
variable_no : (s : List ℕ) (t : Lexeme) (sc : Scope) (left : ℕ) → (t.kind ≡ kind.Hash → ⊥) → is_name (word_of (token_at s t)) ≡ false
    → variable_by sc left (token_at s t) ≡ fault 90 left 0 11
unfolding token_of token_at variable_by word_of
variable_no s t sc left h e = go t.kind h e
  where
    go : (k : Kind) → (k ≡ kind.Hash → ⊥) → is_name (word_of (token_of s t.at t.end k)) ≡ false
        → variable_by sc left (token_of s t.at t.end k) ≡ fault 90 left 0 11
    go kind.Word h e = rw e
    go kind.Digits h e = refl
    go kind.Hash h e = absurd (h refl)
    go kind.Arrow h e = refl
    go kind.End h e = refl
    go (kind.Mark c) h e = refl

module _ {s : List ℕ} (names : List ℕ) (sc : Names) (c : Cursor) {t : Lexeme} (n : Next s c.at t) (z : c.code ≡ 0) where
  abbrev Variable : Cursor → Type 0
  Variable r = Goes s (With s (IsVariable sc)) (variable (scope_at s names sc)) c r

  as_variable : {r : Cursor} → r.count ≡ c.count
      → (Between s c.at → Told s (With s (IsVariable sc))
      (variable_by (scope_at s names sc) (length (ahead s c.at)) (token_at s t) >>= λ x. ok (x, rest (ahead s c.at))) r)
      → Variable r
  unfolding variable
  as_variable e f = goes _ z e (λ b. rw n.token (f b))

  pub variable_hash : {r : Cursor} → t.kind ≡ kind.Hash → ByNumber s t c r → Variable r
  unfolding token_of token_at variable_by
  variable_hash {r} e w = as_variable w.same (λ b. rw e (told_then _ (w.told (length (ahead s c.at)) (n.place b)) (λ q. fault_same _)
      (λ x p v. on p (record {
        stands = record { here = rw v.is_behind (n.here b); tokens = rw v.is_behind n.behind };
        value = record {
          is_found = v.is_found;
          small = λ q. let y = v.fits in omega arith;
        };
      }))))

  pub variable_none : (t.kind ≡ kind.Hash → ⊥) → is_name (word_of (token_at s t)) ≡ false → Variable (fault_at c 90 t.at 11)
  variable_none h e = as_variable refl (λ b. rw (variable_no s t (scope_at s names sc) _ h e) (none_read b))
    where
      none_read : Between s c.at → Told s (With s (IsVariable sc)) (fault 90 (length (ahead s c.at)) 0 11 >>= λ x. ok (x, rest (ahead s c.at)))
          (fault_at c 90 t.at 11)
      none_read b = unfold ◌>>=◌ in fault_here c n b (omega arith)

  module _ (e : is_name (word_of (token_at s t)) ≡ true) where
    by_name : variable_by (scope_at s names sc) (length (ahead s c.at)) (token_at s t)
        ≡ known (find (stack_of s names sc.base sc.many) (word_of (token_at s t))) (length (ahead s c.at)) sc.lost
    by_name = let k = name_kind s t e in let i = word_is s t k in
        unfold token_of token_at variable_by scope_at word_of known in rw (k, rw i at e)

    pub variable_lost : find (stack_of s names sc.base sc.many) (word_of (token_at s t)) ≡ none → Variable (fault_at c 91 t.at sc.lost)
    unfolding known ◌>>=◌
    variable_lost g = as_variable refl (λ b. rw (by_name, g) (fault_here c n b (omega arith)))

    pub variable_named : {x : ℕ} → find (stack_of s names sc.base sc.many) (word_of (token_at s t)) ≡ some x → Variable (behind c t.end x 0)
    unfolding known ◌>>=◌
    variable_named {x} g =
        let l = found_below s names sc.base sc.many _ g in
        as_variable refl (λ b. rw (by_name, g)
        (on refl (record { stands = over_it c n x 0 b; value = record { is_found = refl; small = λ q. omega arith } })))

-- THE NAME OF A SECTION: by the names of the sections, of which the first entry of the table is none; with no table it is 0
unfoldable pub resolve_by : List ℕ → List ℕ → Name → Option ℕ
resolve_by s [] w = some 0
resolve_by s (x ∷ xs) w = find (stack_of s (x ∷ xs) 1 (length xs)) w

pub record IsCallee (x : ℕ) (r : Cursor) : Type 0 where
  pub is_found : r.found ≡ x
  pub small : x < 256

-- a section's number, behind what was read before
pub record Resolved (c : Cursor) (x : ℕ) (r : Cursor) : Type 0 where
  pub is_callee : IsCallee x r
  pub stays : r.at ≡ c.at

pub record Resolves (s table : List ℕ) (t : Lexeme) (c r : Cursor) : Type 0 where
  pub same : r.count ≡ c.count
  pub told : (left : ℕ) → place_at s left ≡ t.at → Told s (Resolved c) (known (resolve_by s table (word_of (token_at s t))) left 43) r

unfoldable pub callee_of : (Name → Option ℕ) → List Token → Out (ℕ × List Token)
callee_of resolve ts = section_name ts >>= λ (w, ts₁). known (resolve w) (length ts) 43 >>= λ x. ok (x, ts₁)

module _ (s table : List ℕ) (t : Lexeme) (c : Cursor) where
  pub no_table : length table ≡ 0 → Resolves s table t c (behind c c.at 0 0)
  no_table h = record { same = refl; told = λ left e. rw (empty table h) (none_known left) }
    where
      empty : (l : List ℕ) → length l ≡ 0 → l ≡ []
      empty [] q = refl
      empty (x ∷ l) q = absurd (omega arith)

      none_known : (left : ℕ) → Told s (Resolved c) (known (resolve_by s [] (word_of (token_at s t))) left 43) (behind c c.at 0 0)
      none_known left = unfold resolve_by known in
          on {x = 0} {r = behind c c.at 0 0} refl (record { is_callee = record { is_found = refl; small = omega arith }; stays = refl })

  by_table : (l : List ℕ) (w : Name) → (length l ≡ 0 → ⊥) → resolve_by s l w ≡ find (stack_of s l 1 (length l - 1)) w
  unfolding resolve_by
  by_table [] w h = absurd (h refl)
  by_table (x ∷ l) w h = let e : suc (length l) - 1 ≡ length l = omega arith in rw e

  module _ (some-names : length table ≡ 0 → ⊥) where
    pub not_section : find (stack_of s table 1 (length table - 1)) (word_of (token_at s t)) ≡ none → Resolves s table t c (fault_at c 91 t.at 43)
    unfolding known
    not_section g = record {
      same = refl;
      told = λ left e. rw (by_table table (word_of (token_at s t)) some-names, g) (fault_told c 91 left 0 43 t.at (omega arith) (omega arith));
    }

    pub its_section : {x : ℕ} → length table ≤ 9 → find (stack_of s table 1 (length table - 1)) (word_of (token_at s t)) ≡ some x
        → Resolves s table t c (behind c c.at x 0)
    unfolding known
    its_section {x} few g =
        let l = found_below s table 1 (length table - 1) _ g in
        record {
          same = refl;
          told = λ left e. rw (by_table table (word_of (token_at s t)) some-names, g)
              (on {x = x} {r = behind c c.at x 0} refl (record { is_callee = record { is_found = refl; small = omega arith }; stays = refl }));
        }

module _ {s : List ℕ} (table : List ℕ) (c : Cursor) {t : Lexeme} (n : Next s c.at t) (z : c.code ≡ 0) where
  pub no_callee : is_name (word_of (token_at s t)) ≡ false → Goes s (With s IsCallee) (callee_of (resolve_by s table)) c (fault_at c 90 t.at 7)
  unfolding callee_of section_name ◌>>=◌
  no_callee e = goes _ z refl (λ b. rw (n.token, e) (fault_here c n b (omega arith)))

  pub callee_read : {r : Cursor} → is_name (word_of (token_at s t)) ≡ true → Resolves s table t (behind c t.end 0 0) r
      → Goes s (With s IsCallee) (callee_of (resolve_by s table)) c r
  unfolding callee_of section_name
  callee_read {r} e w = goes _ z w.same (λ b. rw (n.token, e)
      (told_then {Q = λ x a. (x.0 ≡ word_of (token_at s t)) × Behind s x.1 a} _ (on {r = behind c t.end 0 0} refl (refl, over_it c n 0 0 b))
      (λ q. absurd (q refl))
      (λ x p v. rw v.0 (told_then {Q = λ y a. Resolved (behind c t.end 0 0) y a} _ (w.told (length (ahead s c.at)) (n.place b)) (λ q. fault_same _)
      (λ y q u.
      let h : Between s r.at = rw u.stays v.1.here in
      let l : x.1 ≡ ahead s r.at = rw u.stays v.1.tokens in
      on {x = (y, x.1)} {r = r} q (record { stands = record { here = h; tokens = l }; value = u.is_callee }))))))

-- A TEST
pub record IsTest (x : ℕ × ℕ) (r : Cursor) : Type 0 where
  pub is_found : r.found ≡ x.0
  pub is_detail : r.detail ≡ x.1
  pub small : x.0 ≤ 6

module _ {s : List ℕ} (bare after : ℕ) (c : Cursor) {t : Lexeme} (n : Next s c.at t) (z : c.code ≡ 0) where
  abbrev Test : Cursor → Type 0
  Test r = Goes s (With s IsTest) (test bare after) c r

  pub test_bare : same (word_of (token_at s t)) (bytes "with") ≡ false → Test (behind c c.at 0 bare)
  unfolding test
  test_bare e = goes _ z refl (λ b. rw (n.token, e)
      (on {x = ((0, bare), ahead s c.at)} {r = behind c c.at 0 bare} refl
      (record { stands = record { here = b; tokens = refl }; value = record { is_found = refl; is_detail = refl; small = omega arith } })))

  module _ (e : same (word_of (token_at s t)) (bytes "with") ≡ true) {u : Lexeme} (m : Next s t.end u) where
    second : first (rest (ahead s c.at)) ≡ token_at s u
    second = rw n.behind m.token

    third : rest (rest (ahead s c.at)) ≡ ahead s u.end
    third = rw n.behind m.behind

    pub test_missing : find tests (word_of (token_at s u)) ≡ none → Test (fault_at c 90 u.at 23)
    unfolding test test_by
    test_missing f = goes _ z refl (λ b. rw (n.token, e, second, f, n.behind)
        (fault_told c 90 (length (ahead s t.end)) 0 23 u.at (omega arith) (let i = m.place (n.here b) in omega arith)))

    pub test_read : {k : ℕ} → find tests (word_of (token_at s u)) ≡ some k → Test (behind c u.end k after)
    unfolding test test_by
    test_read {k} f = let y = find_below tests _ f in
        goes _ z refl (λ b. rw (n.token, e, second, f) (on {x = ((k, after), rest (rest (ahead s c.at)))} {r = behind c u.end k after} refl (record {
          stands = record { here = m.here (n.here b); tokens = third };
          value = record { is_found = refl; is_detail = refl; small = omega arith };
        })))

-- all digits are passed
pub at_end : {s : List ℕ} {from end most i v : ℕ} → Counted s from end most i v → end ≤ i → Counted s from end most end v
at_end {end = end} {i = i} k h = let m = k.most_i in let e : i ≡ end = omega arith in rw e at k

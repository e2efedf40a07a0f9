-- THE TOKEN AHEAD, as code has it: a kind, and the places where it begins and ends; what the functions that find it answer.
use Rattle.std.specs.Prelude.{◌≡◌, refl, Bool, false, ◌&&◌, cond, eqb, take, drop}
use Rattle.std.proofs.Common.{sym, ap, ◌∙◌, add-one, length-drop, length-take, drop_of_length-le, take-append-drop, drop-cons, drop-drop, take-suc, get_or-drop}
use Rattle.std.proofs.Math.Bool.{true}
use mathlib.Core.List.{List, [], ◌∷◌, ◌++◌}
use Prim.Native.Nat.{ℕ, suc, ◌+◌, ◌-◌, ◌≤◌, ◌<◌}
use native.Mathlib.Omega.{arith}
use Rattle.std.proofs.Math.Decide.{dec_lt}
use Rattle.std.proofs.Math.ListN.{length, get_or}
use Rattle.std.proofs.Math.Seq.{drop-length}
use borrow.Author.Tests.{ne_eqb, eqb-true}
use Rattle.tokens.specs.Quoted.{bytes}
use Rattle.tokens.specs.Tokens.{Token, word, digits, hash, mark, Class, blank, letter, digit, dash, sharp, other, class_of, Mode, between, comment}
use Rattle.tokens.specs.Tokens.{arrow, act, begin, tokens, places, last, held, first, rest}
use Rattle.tokens.specs.Tokens.{is_blank as is_blank', is_letter as is_letter', is_digit as is_digit'}
use Rattle.tokens.specs.Laid.{is_digit, shuts}
use Rattle.tokens.specs.Ahead.{Passes, Meets, at_end, at_blank, at_comment, in_comment, at_line, at_mark, at_arrow, at_dash, all_in, is_part, at_word}
use Rattle.tokens.specs.Ahead.{letter_first, digit_first, at_digits, at_hash, Here, here_passed, here_met, place_at, place_met, place_end}
use Rattle.lexing.specs.declared.Class.TheVariants as is
use Rattle.lexing.specs.declared.Class as found
use Rattle.lexing.specs.declared.Kind.{Kind}
use Rattle.lexing.specs.declared.Kind.TheVariants as kind
use Rattle.lexing.specs.declared.Lexeme.{Lexeme}
use Rattle.lexing.specs.declared.Tail.{Tail}
use Rattle.lexing.specs.declared.Tail.TheVariants as tail

-- the class of a byte as code has it
unfoldable pub class_named : Class → found.Class
class_named blank = is.Blank
class_named letter = is.Letter
class_named digit = is.Digit
class_named dash = is.Dash
class_named sharp = is.Sharp
class_named other = is.Other

pub named_blank : (k : Class) → class_named k ≡ is.Blank → k ≡ blank
unfolding class_named
named_blank blank e = refl
named_blank letter e = cc
named_blank digit e = cc
named_blank dash e = cc
named_blank sharp e = cc
named_blank other e = cc

pub named_letter : (k : Class) → class_named k ≡ is.Letter → k ≡ letter
unfolding class_named
named_letter letter e = refl
named_letter blank e = cc
named_letter digit e = cc
named_letter dash e = cc
named_letter sharp e = cc
named_letter other e = cc

pub named_digit : (k : Class) → class_named k ≡ is.Digit → k ≡ digit
unfolding class_named
named_digit digit e = refl
named_digit blank e = cc
named_digit letter e = cc
named_digit dash e = cc
named_digit sharp e = cc
named_digit other e = cc

pub named_dash : (k : Class) → class_named k ≡ is.Dash → k ≡ dash
unfolding class_named
named_dash dash e = refl
named_dash blank e = cc
named_dash letter e = cc
named_dash digit e = cc
named_dash sharp e = cc
named_dash other e = cc

pub named_sharp : (k : Class) → class_named k ≡ is.Sharp → k ≡ sharp
unfolding class_named
named_sharp sharp e = refl
named_sharp blank e = cc
named_sharp letter e = cc
named_sharp digit e = cc
named_sharp dash e = cc
named_sharp other e = cc

pub ruleset named_laws = (named_blank, named_letter, named_digit, named_dash, named_sharp)

-- the class of a byte from the tests in their order
module _ (c : ℕ) where
  pub class_blank : is_blank' c ≡ true → is.Blank ≡ class_named (class_of c)
  unfolding class_of class_named
  class_blank b = rw b

  module _ (b : is_blank' c ≡ false) where
    pub class_letter : is_letter' c ≡ true → is.Letter ≡ class_named (class_of c)
    unfolding class_of class_named
    class_letter l = rw (b, l)

    module _ (l : is_letter' c ≡ false) where
      pub class_digit : is_digit' c ≡ true → is.Digit ≡ class_named (class_of c)
      unfolding class_of class_named
      class_digit d = rw (b, l, d)

      module _ (d : is_digit' c ≡ false) where
        pub class_dashed : c ≡ 45 → is.Dash ≡ class_named (class_of c)
        unfolding class_of class_named
        class_dashed e = rw e

        module _ (n : c ≡ 45 → ⊥) where
          pub class_sharp : c ≡ 35 → is.Sharp ≡ class_named (class_of c)
          unfolding class_of class_named
          class_sharp e = rw e

          pub class_other : (c ≡ 35 → ⊥) → is.Other ≡ class_named (class_of c)
          unfolding class_of class_named
          class_other h = rw (b, l, d, ne_eqb c 45 n, ne_eqb c 35 h)

pub ruleset class_laws = (class_blank, class_letter, class_digit, class_dashed, class_sharp, class_other)

-- the bytes of a run: digits, or letters and digits
unfoldable pub in_run : Tail → Class → Bool
in_run tail.Letters = is_part
in_run tail.Digits = is_digit

-- PARTS OF A TEXT

abbrev pub part : List ℕ → ℕ → ℕ → List ℕ
part text at end = take (end - at) (drop at text)

-- the byte at a place, and what stands behind it
pub at_byte : (s : List ℕ) (i : ℕ) → i < length s → drop i s ≡ get_or s i 0 ∷ drop (i + 1) s
at_byte s i h = rw add-one (drop-cons s i 0 h)

-- a part and what stands behind it
pub part_behind : (s : List ℕ) (at end : ℕ) → at ≤ end → part s at end ++ drop end s ≡ drop at s
part_behind s at end h =
    let e : at + (end - at) ≡ end = omega arith in
    ap (λ (l : List ℕ). part s at end ++ l) (ap (λ (n : ℕ). drop n s) (sym e) ∙ sym (drop-drop (end - at) at s)) ∙ take-append-drop (end - at) (drop at s)

part_more : (s : List ℕ) (at end : ℕ) → at ≤ end → end < length s → part s at (end + 1) ≡ part s at end ++ get_or s end 0 ∷ []
part_more s at end h g =
    let e : end + 1 - at ≡ suc (end - at) = omega arith in
    let f : at + (end - at) ≡ end = omega arith in
    rw e (take-suc (drop at s) (end - at) 0 (rw length-drop (omega arith))
    ∙ ap (λ (b : ℕ). part s at end ++ b ∷ []) (get_or-drop at s (end - at) 0 ∙ ap (λ (n : ℕ). get_or s n 0) f))

part_none : (s : List ℕ) (at : ℕ) → part s at at ≡ []
part_none s at = let e : at - at ≡ 0 = omega arith in rw e

all_append : (In : Class → Bool) (s : List ℕ) (c : ℕ) → all_in In s ≡ true → In (class_of c) ≡ true → all_in In (s ++ c ∷ []) ≡ true
all_append In [] c h e = rw e
all_append In (x ∷ s) c h e = go (In (class_of x)) h (λ k. all_append In s c k e)
  where
    go : (b : Bool) → b && all_in In s ≡ true → (all_in In s ≡ true → all_in In (s ++ c ∷ []) ≡ true) → b && all_in In (s ++ c ∷ []) ≡ true
    go true k f = f k
    go false k f = k

two_bytes : (s : List ℕ) (i : ℕ) → i + 1 < length s → drop i s ≡ get_or s i 0 ∷ get_or s (i + 1) 0 ∷ drop (i + 2) s
two_bytes s i h =
    let e : i + 1 + 1 ≡ i + 2 = omega arith in
    at_byte s i (omega arith) ∙ ap (λ (l : List ℕ). get_or s i 0 ∷ l) (at_byte s (i + 1) h ∙ ap (λ (n : ℕ). get_or s (i + 1) 0 ∷ drop n s) e)

-- the byte of a class of one byte
dash_byte : (c : ℕ) → class_of c ≡ dash → c ≡ 45
unfolding class_of
dash_byte c e = go (is_blank' c) (is_letter' c) (is_digit' c) (eqb c 45) (eqb c 35) refl e
  where
    go : (b l d h k : Bool) → eqb c 45 ≡ h → cond b blank (cond l letter (cond d digit (cond h dash (cond k sharp other)))) ≡ dash → c ≡ 45
    go true l d h k f e = let z : ◌≡◌ {A = ℕ} 0 1 = cc in absurd (omega arith)
    go false true d h k f e = let z : ◌≡◌ {A = ℕ} 0 1 = cc in absurd (omega arith)
    go false false true h k f e = let z : ◌≡◌ {A = ℕ} 0 1 = cc in absurd (omega arith)
    go false false false true k f e = eqb-true c 45 f
    go false false false false true f e = let z : ◌≡◌ {A = ℕ} 0 1 = cc in absurd (omega arith)
    go false false false false false f e = let z : ◌≡◌ {A = ℕ} 0 1 = cc in absurd (omega arith)

sharp_byte : (c : ℕ) → class_of c ≡ sharp → c ≡ 35
unfolding class_of
sharp_byte c e = go (is_blank' c) (is_letter' c) (is_digit' c) (eqb c 45) (eqb c 35) refl e
  where
    go : (b l d h k : Bool) → eqb c 35 ≡ k → cond b blank (cond l letter (cond d digit (cond h dash (cond k sharp other)))) ≡ sharp → c ≡ 35
    go true l d h k f e = let z : ◌≡◌ {A = ℕ} 0 1 = cc in absurd (omega arith)
    go false true d h k f e = let z : ◌≡◌ {A = ℕ} 0 1 = cc in absurd (omega arith)
    go false false true h k f e = let z : ◌≡◌ {A = ℕ} 0 1 = cc in absurd (omega arith)
    go false false false true k f e = let z : ◌≡◌ {A = ℕ} 0 1 = cc in absurd (omega arith)
    go false false false false true f e = eqb-true c 35 f
    go false false false false false f e = let z : ◌≡◌ {A = ℕ} 0 1 = cc in absurd (omega arith)

-- A RUN: from a place to r all bytes are of a class, and the next is not
pub record Run (In : Class → Bool) (s : List ℕ) (from r : ℕ) : Type 0 where
  pub later : from ≤ r
  pub inside : r ≤ length s
  pub all : all_in In (part s from r) ≡ true

pub record Running (In : Class → Bool) (s : List ℕ) (from r : ℕ) : Type 0 where
  pub run : Run In s from r
  pub stops : r < length s → In (class_of (get_or s r 0)) ≡ false

pub run_none : (In : Class → Bool) (s : List ℕ) (from : ℕ) → from ≤ length s → Run In s from from
run_none In s from h = record { later = omega arith; inside = h; all = rw (part_none s from) }

pub run_more : {In : Class → Bool} {s : List ℕ} {from r : ℕ} → Run In s from r → r < length s → In (class_of (get_or s r 0)) ≡ true → Run In s from (r + 1)
run_more {In} {s} {from} {r} w h e = record {
  later = omega (arith, w.later);
  inside = omega arith;
  all = rw (part_more s from r w.later h) (all_append In (part s from r) (get_or s r 0) w.all e);
}

-- COMMENTS AND BLANKS

-- how far: the tokens and the places ahead are the same
abbrev pub On : List ℕ → ℕ → Mode → ℕ → Mode → Type 0
On s p m q n = Passes p m (drop p s) q n (drop q s)

passes_then : {p q r : ℕ} {m n o : Mode} {s s' s'' : List ℕ} → Passes p m s q n s' → Passes q n s' r o s'' → Passes p m s r o s''
passes_then x y = record { ahead = x.ahead ∙ y.ahead; there = x.there ∙ y.there }

pub record Comment (s : List ℕ) (from r : ℕ) : Type 0 where
  pub later : from ≤ r
  pub inside : r ≤ length s
  pub on : On s from comment r between

pub record Commented (s : List ℕ) (from r : ℕ) : Type 0 where
  pub later : from ≤ r
  pub inside : r ≤ length s
  pub on : On s from comment r comment

stay : (s : List ℕ) (p : ℕ) (m : Mode) → On s p m p m
stay s p m = record { ahead = refl; there = refl }

pub comment_first : (s : List ℕ) (from : ℕ) → from ≤ length s → Commented s from from
comment_first s from h = record { later = omega arith; inside = h; on = stay s from comment }

comment_ends : (r : ℕ) → Passes r comment [] r between []
unfolding tokens places last
comment_ends r = record { ahead = refl; there = refl }

module _ {s : List ℕ} {from r : ℕ} (w : Commented s from r) where
  pub comment_more : r < length s → (get_or s r 0 ≡ 10 → ⊥) → Commented s from (r + 1)
  comment_more h e = record {
    later = omega (arith, w.later);
    inside = omega arith;
    on = passes_then w.on (rw (at_byte s r h, add-one) (in_comment r (get_or s r 0) (drop (suc r) s) e));
  }

  pub comment_line : r < length s → get_or s r 0 ≡ 10 → Comment s from (r + 1)
  comment_line h e = record {
    later = omega (arith, w.later);
    inside = omega arith;
    on = passes_then w.on (rw (at_byte s r h, e, add-one) (at_line r (drop (suc r) s)));
  }

  pub comment_last : length s ≤ r → Comment s from r
  comment_last h = record { later = w.later; inside = w.inside; on = passes_then w.on (rw (drop_of_length-le s h) (comment_ends r)) }

-- A BLANK OR A COMMENT at a place, and r is behind it; or neither stands there, and r is the place
pub record Black (s : List ℕ) (at : ℕ) : Type 0 where
  pub printed : at < length s → class_of (get_or s at 0) ≡ blank → ⊥
  pub alone : at < length s → get_or s at 0 ≡ 45 → at + 1 < length s → get_or s (at + 1) 0 ≡ 45 → ⊥

pub record Gap (s : List ℕ) (at r : ℕ) : Type 0 where
  pub later : at ≤ r
  pub inside : r ≤ length s
  pub on : On s at between r between
  pub black : r ≡ at → Black s at

pub gap_blank : (s : List ℕ) (at : ℕ) → at < length s → class_of (get_or s at 0) ≡ blank → Gap s at (at + 1)
gap_blank s at h e = record {
  later = omega arith;
  inside = omega arith;
  on = rw (at_byte s at h, add-one) (at_blank at (get_or s at 0) (drop (suc at) s) e);
  black = λ q. absurd (omega arith);
}

pub gap_none : (s : List ℕ) (at : ℕ) → at < length s → Black s at → Gap s at at
gap_none s at h b = record { later = omega arith; inside = omega arith; on = stay s at between; black = λ q. b }

class_dash : (c : ℕ) → c ≡ 45 → class_of c ≡ dash
unfolding class_of
class_dash c e = rw e

pub not_dash : (s : List ℕ) (at : ℕ) → (class_of (get_or s at 0) ≡ blank → ⊥) → (class_of (get_or s at 0) ≡ dash → ⊥) → Black s at
not_dash s at h k = record { printed = λ i e. h e; alone = λ i e j f. k (class_dash (get_or s at 0) e) }

pub ruleset gap_laws = (gap_none, not_dash, named_laws)

pub one_dash : (s : List ℕ) (at : ℕ) → class_of (get_or s at 0) ≡ dash → (at + 1 < length s → get_or s (at + 1) 0 ≡ 45 → ⊥) → Black s at
one_dash s at e h = record { printed = λ i f. let z : ◌≡◌ {A = Class} blank dash = sym f ∙ e in cc; alone = λ i f j g. h j g }

pub gap_comment : (s : List ℕ) (at : ℕ) {r : ℕ} → at + 1 < length s → class_of (get_or s at 0) ≡ dash → get_or s (at + 1) 0 ≡ 45 → Comment s (at + 2) r
    → Gap s at r
gap_comment s at h e f w =
    let g = at_comment at (drop (at + 2) s) in
    let z : suc (suc at) ≡ at + 2 = omega arith in
    record {
      later = omega (arith, w.later);
      inside = w.inside;
      on = passes_then (rw (two_bytes s at h, dash_byte (get_or s at 0) e, f) (rw z at g)) w.on;
      black = λ q. absurd (omega (arith, w.later));
    }

-- ALL THAT STANDS BEFORE A TOKEN
pub record Skipped (s : List ℕ) (from r : ℕ) : Type 0 where
  pub on : On s from between r between

pub record Skips (s : List ℕ) (from r : ℕ) : Type 0 where
  pub skipped : Skipped s from r
  pub black : Black s r

pub skip_first : (s : List ℕ) (from : ℕ) → Skipped s from from
skip_first s from = record { on = stay s from between }

pub skip_more : {s : List ℕ} {from at r : ℕ} → Skipped s from at → Gap s at r → Skipped s from r
skip_more w g = record { on = passes_then w.on g.on }

pub skip_end : {s : List ℕ} {from at : ℕ} → Skipped s from at → length s ≤ at → Skips s from at
skip_end w h = record { skipped = w; black = record { printed = λ i e. absurd (omega arith); alone = λ i e j f. absurd (omega arith) } }

pub skip_done : {s : List ℕ} {from at r : ℕ} → Skipped s from at → Gap s at r → r ≡ at → Skips s from at
skip_done w g e = record { skipped = w; black = g.black e }

-- THE TOKEN AHEAD

unfoldable pub token_of : List ℕ → ℕ → ℕ → Kind → Token
token_of s at end kind.Word = word (part s at end)
token_of s at end kind.Digits = digits (part s at end) (letter_first (drop end s))
token_of s at end kind.Hash = hash (part s (suc at) end) (letter_first (drop end s))
token_of s at end kind.Arrow = mark arrow
token_of s at end kind.End = mark []
token_of s at end (kind.Mark c) = mark (c ∷ [])

unfoldable pub token_at : List ℕ → Lexeme → Token
token_at s t = token_of s t.at t.end t.kind

abbrev pub ahead : List ℕ → ℕ → List Token
ahead s p = tokens between (drop p s)

-- a place at which a token of the text ends, or the first
abbrev pub Between : List ℕ → ℕ → Type 0
Between s p = Here s p between (drop p s)

pub record Shape (s : List ℕ) (t : Lexeme) : Type 0 where
  pub order : t.at ≤ t.end
  pub inside : t.end ≤ length s
  pub a_word : t.kind ≡ kind.Word → (t.at < t.end) × (all_in is_part (part s t.at t.end) ≡ true) × (shuts (drop t.end s) ≡ true)
  pub a_number : t.kind ≡ kind.Digits → (t.at < t.end) × (all_in is_digit (part s t.at t.end) ≡ true)
  pub a_hash : t.kind ≡ kind.Hash → (t.at < t.end) × (all_in is_digit (part s (suc t.at) t.end) ≡ true)

pub record Next (s : List ℕ) (p : ℕ) (t : Lexeme) : Type 0 where
  pub token : first (ahead s p) ≡ token_at s t
  pub behind : rest (ahead s p) ≡ ahead s t.end
  pub place : Between s p → place_at s (length (ahead s p)) ≡ t.at
  pub here : Between s p → Between s t.end
  pub ended : t.kind ≡ kind.End → ahead s p ≡ []
  pub some : (t.kind ≡ kind.End → ⊥) → ahead s p ≡ token_at s t ∷ ahead s t.end
  pub shape : Shape s t

-- A TOKEN THAT BEGINS AT A PLACE
pub record Lexed (s : List ℕ) (at : ℕ) (t : Lexeme) : Type 0 where
  pub begins : t.at ≡ at
  pub meets : Meets at between (drop at s) (token_at s t) at t.end (drop t.end s)
  pub real : t.kind ≡ kind.End → ⊥
  pub shape : Shape s t

abbrev lexeme : Kind → ℕ → ℕ → Lexeme
lexeme k at end = record { kind = k; at = at; end = end }

meets_as : {p place q q' : ℕ} {m : Mode} {s s' b : List ℕ} {t t' : Token} → Meets p m s t place q b → s ≡ s' → t ≡ t' → q ≡ q' → Meets p m s' t' place q' b
meets_as {p = p} {place = place} {m = m} {b = b} w e f g = record {
  ahead = ap (tokens m) (sym e) ∙ w.ahead ∙ ap (λ (x : Token). x ∷ tokens between b) f;
  there = ap (places p m) (sym e) ∙ w.there ∙ ap (λ (x : ℕ). place ∷ places x between b) g;
}

dash_last : (p : ℕ) → Meets p between (45 ∷ []) (mark (bytes "-")) p (p + 1) []
unfolding tokens places act begin class_of last held
dash_last p = let e : suc p - 1 ≡ p = omega arith in record { ahead = refl; there = rw e }

end_anywhere : {s : List ℕ} {p q : ℕ} → Here s p between [] → Here s q between []
unfolding places last
end_anywhere h = record { met = h.met; left = h.left; many = h.many; tokens-met = h.tokens-met; places_met = h.places_met }

pub part_first : (s : List ℕ) (at r : ℕ) → at < length s → at < r → part s at r ≡ get_or s at 0 ∷ part s (at + 1) r
part_first s at r h g =
    let e : r - at ≡ suc (r - (at + 1)) = omega arith in
    rw (e, at_byte s at h)

pub part_length : (s : List ℕ) (at r : ℕ) → r ≤ length s → length (part s at r) ≡ r - at
part_length s at r h = rw (length-take, length-drop) (omega arith)

module _ (s : List ℕ) (at r : ℕ) (h : at < length s) where
  split : at + 1 ≤ r → get_or s at 0 ∷ part s (at + 1) r ++ drop r s ≡ drop at s
  split g = ap (λ (l : List ℕ). get_or s at 0 ∷ l) (part_behind s (at + 1) r g) ∙ sym (at_byte s at h)

  ends_at : {In : Class → Bool} → Running In s (at + 1) r → suc at + length (part s (at + 1) r) ≡ r
  ends_at w = let l = part_length s (at + 1) r w.run.inside in omega (arith, w.run.later)

  shut : Running is_part s (at + 1) r → shuts (drop r s) ≡ true
  unfolding shuts
  shut w = go (dec_lt r (length s))
    where
      go : Dec (r < length s) → shuts (drop r s) ≡ true
      go (yes i) = rw (at_byte s r i, w.stops i)
      go (no i) = rw (drop_of_length-le s {i = r} (omega arith))

  no_digit : Running is_digit s (at + 1) r → digit_first (drop r s) ≡ false
  no_digit w = go (dec_lt r (length s))
    where
      go : Dec (r < length s) → digit_first (drop r s) ≡ false
      go (yes i) = rw (at_byte s r i, w.stops i)
      go (no i) = rw (drop_of_length-le s {i = r} (omega arith))

  all_first : {In : Class → Bool} → Running In s (at + 1) r → In (class_of (get_or s at 0)) ≡ true → all_in In (part s at r) ≡ true
  all_first w e = rw (part_first s at r h (omega (arith, w.run.later)), e) w.run.all

  -- a run behind the first byte
  module _ {In : Class → Bool} (w : Running In s (at + 1) r) where
    after : at < r
    after = omega (arith, w.run.later)

    inner : part s at r ≡ get_or s at 0 ∷ part s (at + 1) r
    inner = part_first s at r h after

    behind_1 : part s (suc at) r ≡ part s (at + 1) r
    behind_1 = rw add-one

    as_met : {t t' : Token} → Meets at between (get_or s at 0 ∷ part s (at + 1) r ++ drop r s) t at (suc at + length (part s (at + 1) r)) (drop r s) → t ≡ t'
        → Meets at between (drop at s) t' at r (drop r s)
    as_met m e = meets_as m (split w.run.later) e (ends_at w)

  pub lex_word : class_of (get_or s at 0) ≡ letter → Running (in_run tail.Letters) s (at + 1) r → Lexed s at (lexeme kind.Word at r)
  unfolding in_run token_of token_at
  lex_word e w =
      let g = after w in
      record {
        begins = refl;
        meets = as_met w (at_word at (get_or s at 0) (part s (at + 1) r) (drop r s) e w.run.all (shut w)) (ap word (sym (inner w)));
        real = λ q. cc;
        shape = record {
          order = omega arith;
          inside = w.run.inside;
          a_word = λ q. (omega arith, all_first w (rw e), shut w);
          a_number = λ q. cc;
          a_hash = λ q. cc;
        };
      }

  pub lex_digits : class_of (get_or s at 0) ≡ digit → Running (in_run tail.Digits) s (at + 1) r → Lexed s at (lexeme kind.Digits at r)
  unfolding in_run token_of token_at
  lex_digits e w =
      let g = after w in
      record {
        begins = refl;
        meets = as_met w (at_digits at (get_or s at 0) (part s (at + 1) r) (drop r s) e w.run.all (no_digit w))
            (ap (λ (l : List ℕ). digits l (letter_first (drop r s))) (sym (inner w)));
        real = λ q. cc;
        shape = record {
          order = omega arith;
          inside = w.run.inside;
          a_word = λ q. cc;
          a_number = λ q. (omega arith, all_first w (rw e));
          a_hash = λ q. cc;
        };
      }

  pub lex_hash : class_of (get_or s at 0) ≡ sharp → Running (in_run tail.Digits) s (at + 1) r → Lexed s at (lexeme kind.Hash at r)
  unfolding in_run token_of token_at
  lex_hash e w =
      let k = sharp_byte (get_or s at 0) e in
      let g = after w in
      record {
        begins = refl;
        meets = as_met w (rw k (at_hash at (part s (at + 1) r) (drop r s) w.run.all (no_digit w)))
            (ap (λ (l : List ℕ). hash l (letter_first (drop r s))) (sym (behind_1 w)));
        real = λ q. cc;
        shape = record {
          order = omega arith;
          inside = w.run.inside;
          a_word = λ q. cc;
          a_number = λ q. cc;
          a_hash = λ q. (omega arith, rw (behind_1 w) w.run.all);
        };
      }

-- a mark may begin at a place
pub record Mark (s : List ℕ) (at : ℕ) : Type 0 where
  pub inside : at < length s
  pub black : Black s at
  pub letterless : class_of (get_or s at 0) ≡ letter → ⊥
  pub digitless : class_of (get_or s at 0) ≡ digit → ⊥
  pub sharpless : class_of (get_or s at 0) ≡ sharp → ⊥

module _ {s : List ℕ} {at : ℕ} (m : Mark s at) where
  one_byte : token_at s (lexeme (kind.Mark (get_or s at 0)) at (at + 1)) ≡ mark (get_or s at 0 ∷ [])
  unfolding token_of token_at
  one_byte = refl

  lexed : {t : Token} → Meets at between (drop at s) t at (at + 1) (drop (at + 1) s) → t ≡ mark (get_or s at 0 ∷ [])
      → Lexed s at (lexeme (kind.Mark (get_or s at 0)) at (at + 1))
  lexed w e = record {
    begins = refl;
    meets = meets_as w refl (e ∙ sym one_byte) refl;
    real = λ q. cc;
    shape = record {
      order = omega arith;
      inside = omega (arith, m.inside);
      a_word = λ q. cc;
      a_number = λ q. cc;
      a_hash = λ q. cc;
    };
  }

  class_is : (get_or s at 0 ≡ 45 → ⊥) → (k : Class) → class_of (get_or s at 0) ≡ k → class_of (get_or s at 0) ≡ other
  class_is h blank e = absurd (m.black.printed m.inside e)
  class_is h letter e = absurd (m.letterless e)
  class_is h digit e = absurd (m.digitless e)
  class_is h dash e = absurd (h (dash_byte (get_or s at 0) e))
  class_is h sharp e = absurd (m.sharpless e)
  class_is h other e = e

  pub lex_one : (get_or s at 0 ≡ 45 → ⊥) → Lexed s at (lexeme (kind.Mark (get_or s at 0)) at (at + 1))
  lex_one h = lexed (rw (at_byte s at m.inside, add-one) (at_mark at (get_or s at 0) (drop (suc at) s) (class_is h _ refl))) refl

  -- a lone dash, behind which the text ends or stands another byte
  pub lex_last : get_or s at 0 ≡ 45 → length s ≤ at + 1 → Lexed s at (lexeme (kind.Mark (get_or s at 0)) at (at + 1))
  lex_last e h = lexed {t = mark (bytes "-")} (rw (at_byte s at m.inside, drop_of_length-le s {i = at + 1} h, e) (dash_last at)) (rw e)

  pub lex_dash : get_or s at 0 ≡ 45 → at + 1 < length s → (get_or s (at + 1) 0 ≡ 62 → ⊥) → Lexed s at (lexeme (kind.Mark (get_or s at 0)) at (at + 1))
  lex_dash e h f =
      let c = get_or s (at + 1) 0 in
      let g = at_dash at c (drop (at + 2) s) (λ q. m.black.alone m.inside e h q) f in
      let z : drop (at + 1) s ≡ c ∷ drop (at + 2) s = (let q : at + 1 + 1 ≡ at + 2 = omega arith in at_byte s (at + 1) h ∙ ap (λ (n : ℕ). c ∷ drop n s) q) in
      lexed {t = mark (bytes "-")} (rw (two_bytes s at h, z, e) (meets_as g refl refl (omega arith))) (rw e)

  pub lex_arrow : get_or s at 0 ≡ 45 → at + 1 < length s → get_or s (at + 1) 0 ≡ 62 → Lexed s at (lexeme kind.Arrow at (at + 2))
  unfolding token_of token_at
  lex_arrow e h f =
      let z : suc (suc at) ≡ at + 2 = omega arith in
      record {
        begins = refl;
        meets = rw (two_bytes s at h, e, f) (rw z at (at_arrow at (drop (at + 2) s)));
        real = λ q. cc;
        shape = record {
          order = omega arith;
          inside = omega arith;
          a_word = λ q. cc;
          a_number = λ q. cc;
          a_hash = λ q. cc;
        };
      }

-- THE TOKEN AHEAD OF A PLACE: what stands before it is skipped
pub next_end : {s : List ℕ} {p at : ℕ} → Skips s p at → length s ≤ at → Next s p (lexeme kind.End (length s) (length s))
unfolding token_of token_at first rest
next_end {s} {p} {at} w h =
    let d : drop at s ≡ [] = drop_of_length-le s h in
    let e : ahead s p ≡ [] = w.skipped.on.ahead ∙ rw d (at_end at).0 in
    let l : drop (length s) s ≡ [] = drop-length s in
    record {
      token = rw e;
      behind = rw (e, l) (sym (at_end (length s)).0);
      place = λ b. rw e (place_end (rw d at (here_passed b w.skipped.on)));
      here = λ b. rw l (end_anywhere (rw d at (here_passed b w.skipped.on)));
      ended = λ q. e;
      some = λ q. absurd (q refl);
      shape = record {
        order = omega arith;
        inside = omega arith;
        a_word = λ q. cc;
        a_number = λ q. cc;
        a_hash = λ q. cc;
      };
    }

pub next_met : {s : List ℕ} {p at : ℕ} {t : Lexeme} → Skips s p at → Lexed s at t → Next s p t
unfolding first rest
next_met {s} {p} {at} {t} w l =
    let e : ahead s p ≡ token_at s t ∷ ahead s t.end = w.skipped.on.ahead ∙ l.meets.ahead in
    record {
      token = rw e;
      behind = rw e;
      place = λ b. rw w.skipped.on.ahead (place_met (here_passed b w.skipped.on) l.meets) ∙ sym l.begins;
      here = λ b. here_met (here_passed b w.skipped.on) l.meets;
      ended = λ q. absurd (l.real q);
      some = λ q. e;
      shape = l.shape;
    }

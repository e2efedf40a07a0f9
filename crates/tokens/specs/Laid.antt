-- A TEXT LAID OUT: tokens with blanks, lines and comments between them, as anyone may set them. Whatever the layout, its tokens are read from it.
use Rattle.std.proofs.Math.Path.{◌≡◌, refl, ap}
use Rattle.std.proofs.Common.{◌∙◌, arith}
use Rattle.std.specs.Prelude.{Bool, true, not, ◌&&◌, ◌||◌, ℕ, eqb}
use Rattle.std.proofs.Math.Bool.{false}
use mathlib.Core.List.{List, [], ◌∷◌, ◌++◌, append_assoc, append-nil}
use Rattle.tokens.specs.Tokens.{Token, word, digits, hash, mark, Class, blank, letter, digit, dash, sharp, other, class_of, Mode, between}
use Rattle.tokens.specs.Tokens.{begin, on_digits, arrow, act, last, tokens, same}
use Rattle.tokens.specs.Same.{and-true}

-- TOKENS THAT CAN STAND IN A TEXT

abbrev pub is_letter : Class → Bool
is_letter letter = true
is_letter blank = false
is_letter digit = false
is_letter dash = false
is_letter sharp = false
is_letter other = false

abbrev pub is_digit : Class → Bool
is_digit digit = true
is_digit letter = false
is_digit blank = false
is_digit dash = false
is_digit sharp = false
is_digit other = false

abbrev pub is_other : Class → Bool
is_other other = true
is_other letter = false
is_other blank = false
is_other dash = false
is_other sharp = false
is_other digit = false

abbrev pub is_blank : Class → Bool
is_blank blank = true
is_blank letter = false
is_blank other = false
is_blank dash = false
is_blank sharp = false
is_blank digit = false

unfoldable pub letters : List ℕ → Bool
letters [] = true
letters (c ∷ cs) = (is_letter (class_of c) || is_digit (class_of c)) && letters cs

unfoldable pub numerals : List ℕ → Bool
numerals [] = true
numerals (c ∷ cs) = is_digit (class_of c) && numerals cs

unfoldable pub good : Token → Bool
good (word []) = false
good (word (c ∷ cs)) = is_letter (class_of c) && letters cs
good (digits [] b) = false
good (digits (c ∷ cs) b) = not b && numerals (c ∷ cs)
good (hash cs b) = not b && numerals cs
good (mark []) = false
good (mark (c ∷ [])) = is_other (class_of c)
good (mark (c ∷ d ∷ cs)) = same (c ∷ d ∷ cs) arrow

unfoldable pub spelled : Token → List ℕ
spelled (word w) = w
spelled (digits w b) = w
spelled (hash w b) = 35 ∷ w
spelled (mark m) = m

-- behind a word or a number stands no letter and no digit
unfoldable pub shuts : List ℕ → Bool
shuts [] = true
shuts (c ∷ cs) = not (is_letter (class_of c) || is_digit (class_of c))

unfoldable pub is_mark : Token → Bool
is_mark (word w) = false
is_mark (digits w b) = false
is_mark (hash w b) = false
is_mark (mark m) = true

unfoldable pub no_line : List ℕ → Bool
no_line [] = true
no_line (c ∷ cs) = not (eqb c 10) && no_line cs

pub data Laid : List Token → List ℕ → Type 0 where
  nothing : Laid [] []
  gap : {ts : List Token} {s : List ℕ} (c : ℕ) → class_of c ≡ blank → Laid ts s → Laid ts (c ∷ s)
  remark : {ts : List Token} {s : List ℕ} (cs : List ℕ) → no_line cs ≡ true → Laid ts s → Laid ts (45 ∷ 45 ∷ cs ++ (10 ∷ s))
  trail : (cs : List ℕ) → no_line cs ≡ true → Laid [] (45 ∷ 45 ∷ cs)
  token : {ts : List Token} {s : List ℕ} (t : Token) → good t ≡ true → is_mark t || shuts s ≡ true → Laid ts s → Laid (t ∷ ts) (spelled t ++ s)

-- THE LAW

pub of_letter : (c : Class) → is_letter c ≡ true → c ≡ letter
of_letter letter e = refl
of_letter blank e = let z : ◌≡◌ {A = ℕ} 0 1 = cc in absurd (omega arith)
of_letter digit e = let z : ◌≡◌ {A = ℕ} 0 1 = cc in absurd (omega arith)
of_letter dash e = let z : ◌≡◌ {A = ℕ} 0 1 = cc in absurd (omega arith)
of_letter sharp e = let z : ◌≡◌ {A = ℕ} 0 1 = cc in absurd (omega arith)
of_letter other e = let z : ◌≡◌ {A = ℕ} 0 1 = cc in absurd (omega arith)

pub of_digit : (c : Class) → is_digit c ≡ true → c ≡ digit
of_digit digit e = refl
of_digit blank e = let z : ◌≡◌ {A = ℕ} 0 1 = cc in absurd (omega arith)
of_digit letter e = let z : ◌≡◌ {A = ℕ} 0 1 = cc in absurd (omega arith)
of_digit dash e = let z : ◌≡◌ {A = ℕ} 0 1 = cc in absurd (omega arith)
of_digit sharp e = let z : ◌≡◌ {A = ℕ} 0 1 = cc in absurd (omega arith)
of_digit other e = let z : ◌≡◌ {A = ℕ} 0 1 = cc in absurd (omega arith)

pub of_blank : (c : Class) → is_blank c ≡ true → c ≡ blank
of_blank blank e = refl
of_blank other e = let z : ◌≡◌ {A = ℕ} 0 1 = cc in absurd (omega arith)
of_blank letter e = let z : ◌≡◌ {A = ℕ} 0 1 = cc in absurd (omega arith)
of_blank digit e = let z : ◌≡◌ {A = ℕ} 0 1 = cc in absurd (omega arith)
of_blank dash e = let z : ◌≡◌ {A = ℕ} 0 1 = cc in absurd (omega arith)
of_blank sharp e = let z : ◌≡◌ {A = ℕ} 0 1 = cc in absurd (omega arith)

pub of_other : (c : Class) → is_other c ≡ true → c ≡ other
of_other other e = refl
of_other blank e = let z : ◌≡◌ {A = ℕ} 0 1 = cc in absurd (omega arith)
of_other letter e = let z : ◌≡◌ {A = ℕ} 0 1 = cc in absurd (omega arith)
of_other digit e = let z : ◌≡◌ {A = ℕ} 0 1 = cc in absurd (omega arith)
of_other dash e = let z : ◌≡◌ {A = ℕ} 0 1 = cc in absurd (omega arith)
of_other sharp e = let z : ◌≡◌ {A = ℕ} 0 1 = cc in absurd (omega arith)

-- the same of digits, and of those behind #
module _ (t : List ℕ → Bool → Token) (m : List ℕ → Mode) (acts : (w : List ℕ) (c : ℕ) → act (m w) c ≡ on_digits t m (class_of c) c w)
    (lasts : (w : List ℕ) → last (m w) ≡ t w false ∷ []) where
  step_digits : (w : List ℕ) (c : ℕ) (s : List ℕ) (k : Class) → class_of c ≡ k → not (is_letter k || is_digit k) ≡ true
      → tokens (m w) (c ∷ s) ≡ t w false ∷ tokens between (c ∷ s)
  unfolding tokens act on_digits begin
  step_digits w c s blank e h = rw (acts w c, e)
  step_digits w c s dash e h = rw (acts w c, e)
  step_digits w c s sharp e h = rw (acts w c, e)
  step_digits w c s other e h = rw (acts w c, e)
  step_digits w c s letter e h = let z : ◌≡◌ {A = ℕ} 0 1 = cc in absurd (omega arith)
  step_digits w c s digit e h = let z : ◌≡◌ {A = ℕ} 0 1 = cc in absurd (omega arith)

  end_digits : (w s : List ℕ) → shuts s ≡ true → tokens (m w) s ≡ t w false ∷ tokens between s
  unfolding tokens last shuts
  end_digits w [] h = lasts w
  end_digits w (c ∷ s) h = step_digits w c s (class_of c) refl h

  on_digits_lem : (w : List ℕ) (c : ℕ) (s : List ℕ) → class_of c ≡ digit → tokens (m w) (c ∷ s) ≡ tokens (m (w ++ c ∷ [])) s
  unfolding tokens on_digits
  on_digits_lem w c s e = rw (acts w c, e)

  pub in_digits_lem : (w cs s : List ℕ) → numerals cs ≡ true → shuts s ≡ true → tokens (m w) (cs ++ s) ≡ t (w ++ cs) false ∷ tokens between s
  unfolding numerals
  in_digits_lem w [] s h k = rw (append-nil w) (end_digits w s k)
  in_digits_lem w (c ∷ cs) s h k =
      let p = and-true (is_digit (class_of c)) (numerals cs) h in
      on_digits_lem w c (cs ++ s) (of_digit (class_of c) p.0)
      ∙ in_digits_lem (w ++ c ∷ []) cs s p.1 k
      ∙ ap (λ (v : List ℕ). t v false ∷ tokens between s) (append_assoc w (c ∷ []) cs)

-- A TEXT LAID OUT: tokens with blanks, lines and comments between them, as anyone may set them. Whatever the layout, its tokens are read from it.
use Rattle.std.proofs.Math.Path.{◌≡◌, refl, ap}
use Rattle.std.proofs.Common.{◌∙◌, arith}
use Rattle.std.specs.Prelude.{true, not, ◌||◌, ℕ, eqb}
use Rattle.std.proofs.Math.Bool.{false}
use mathlib.Core.List.{List, [], ◌∷◌, ◌++◌, append_assoc, append-nil}
use Rattle.std.proofs.lemmas.Bool.{not-true}
use Rattle.tokens.specs.Tokens.{Token, word, digits, hash, mark, Class, blank, letter, digit, dash, sharp, other, class_of, between, comment, in_word}
use Rattle.tokens.specs.Tokens.{in_digits, in_hash, begin, on_word, on_digits, arrow, act, last, tokens}
use Rattle.tokens.specs.Same.{and-true, same_true}
use Rattle.tokens.specs.Laid.{is_letter, is_digit, letters, numerals, good, spelled, shuts, is_mark, no_line, Laid, nothing, gap, remark, trail}
use Rattle.tokens.specs.Laid.{token, of_letter, of_digit, of_other, in_digits_lem}

-- a step of the reading, by the class of a byte
step_word : (w : List ℕ) (c : ℕ) (s : List ℕ) (k : Class) → class_of c ≡ k → not (is_letter k || is_digit k) ≡ true
    → tokens (in_word w) (c ∷ s) ≡ word w ∷ tokens between (c ∷ s)
unfolding tokens act on_word begin
step_word w c s blank e h = rw e
step_word w c s dash e h = rw e
step_word w c s sharp e h = rw e
step_word w c s other e h = rw e
step_word w c s letter e h = let z : ◌≡◌ {A = ℕ} 0 1 = cc in absurd (omega arith)
step_word w c s digit e h = let z : ◌≡◌ {A = ℕ} 0 1 = cc in absurd (omega arith)

end_word : (w s : List ℕ) → shuts s ≡ true → tokens (in_word w) s ≡ word w ∷ tokens between s
unfolding tokens last shuts
end_word w [] h = refl
end_word w (c ∷ s) h = step_word w c s (class_of c) refl h

on_word_lem : (w : List ℕ) (c : ℕ) (s : List ℕ) (k : Class) → class_of c ≡ k → is_letter k || is_digit k ≡ true → tokens (in_word w) (c ∷ s)
    ≡ tokens (in_word (w ++ c ∷ [])) s
unfolding tokens act on_word
on_word_lem w c s letter e h = rw e
on_word_lem w c s digit e h = rw e
on_word_lem w c s blank e h = let z : ◌≡◌ {A = ℕ} 0 1 = cc in absurd (omega arith)
on_word_lem w c s dash e h = let z : ◌≡◌ {A = ℕ} 0 1 = cc in absurd (omega arith)
on_word_lem w c s sharp e h = let z : ◌≡◌ {A = ℕ} 0 1 = cc in absurd (omega arith)
on_word_lem w c s other e h = let z : ◌≡◌ {A = ℕ} 0 1 = cc in absurd (omega arith)

in_word_lem : (w cs s : List ℕ) → letters cs ≡ true → shuts s ≡ true → tokens (in_word w) (cs ++ s) ≡ word (w ++ cs) ∷ tokens between s
unfolding letters
in_word_lem w [] s h k = rw (append-nil w) (end_word w s k)
in_word_lem w (c ∷ cs) s h k =
    let p = and-true (is_letter (class_of c) || is_digit (class_of c)) (letters cs) h in
    on_word_lem w c (cs ++ s) (class_of c) refl p.0
    ∙ in_word_lem (w ++ c ∷ []) cs s p.1 k
    ∙ ap (λ (v : List ℕ). word v ∷ tokens between s) (append_assoc w (c ∷ []) cs)

in_comment : (cs s : List ℕ) → no_line cs ≡ true → tokens comment (cs ++ (10 ∷ s)) ≡ tokens between s
unfolding tokens act no_line
in_comment [] s h = refl
in_comment (c ∷ cs) s h = let p = and-true (not (eqb c 10)) (no_line cs) h in rw (not-true (eqb c 10) p.0) (in_comment cs s p.1)

in_trail : (cs : List ℕ) → no_line cs ≡ true → tokens comment cs ≡ []
unfolding tokens act no_line last
in_trail [] h = refl
in_trail (c ∷ cs) h = let p = and-true (not (eqb c 10)) (no_line cs) h in rw (not-true (eqb c 10) p.0) (in_trail cs p.1)

-- what a byte begins
begin_letter : (c : ℕ) (s : List ℕ) → class_of c ≡ letter → tokens between (c ∷ s) ≡ tokens (in_word (c ∷ [])) s
unfolding tokens act begin
begin_letter c s e = rw e

begin_digit : (c : ℕ) (s : List ℕ) → class_of c ≡ digit → tokens between (c ∷ s) ≡ tokens (in_digits (c ∷ [])) s
unfolding tokens act begin
begin_digit c s e = rw e

begin_other : (c : ℕ) (s : List ℕ) → class_of c ≡ other → tokens between (c ∷ s) ≡ mark (c ∷ []) ∷ tokens between s
unfolding tokens act begin
begin_other c s e = rw e

begin_blank : (c : ℕ) (s : List ℕ) → class_of c ≡ blank → tokens between (c ∷ s) ≡ tokens between s
unfolding tokens act begin
begin_blank c s e = rw e

begin_sharp : (s : List ℕ) → tokens between (35 ∷ s) ≡ tokens (in_hash []) s
unfolding tokens act begin class_of
begin_sharp s = refl

begin_arrow : (s : List ℕ) → tokens between (arrow ++ s) ≡ mark arrow ∷ tokens between s
unfolding tokens act begin class_of
begin_arrow s = refl

arrow_laid : (m s : List ℕ) → m ≡ arrow → tokens between (m ++ s) ≡ mark m ∷ tokens between s
arrow_laid m s e = rw e (begin_arrow s)

begin_comment : (s : List ℕ) → tokens between (45 ∷ 45 ∷ s) ≡ tokens comment s
unfolding tokens act begin class_of
begin_comment s = refl

digits_acts : (w : List ℕ) (c : ℕ) → act (in_digits w) c ≡ on_digits digits in_digits (class_of c) c w
unfolding act
digits_acts w c = refl

hash_acts : (w : List ℕ) (c : ℕ) → act (in_hash w) c ≡ on_digits hash in_hash (class_of c) c w
unfolding act
hash_acts w c = refl

digits_lasts : (w : List ℕ) → last (in_digits w) ≡ digits w false ∷ []
unfolding last
digits_lasts w = refl

hash_lasts : (w : List ℕ) → last (in_hash w) ≡ hash w false ∷ []
unfolding last
hash_lasts w = refl

token_laid : (t : Token) (s : List ℕ) → good t ≡ true → is_mark t || shuts s ≡ true → tokens between (spelled t ++ s) ≡ t ∷ tokens between s
unfolding good spelled is_mark numerals
token_laid (word []) s g e = let z : ◌≡◌ {A = ℕ} 0 1 = cc in absurd (omega arith)
token_laid (word (c ∷ cs)) s g e =
    let p = and-true (is_letter (class_of c)) (letters cs) g in
    begin_letter c (cs ++ s) (of_letter (class_of c) p.0) ∙ in_word_lem (c ∷ []) cs s p.1 e
token_laid (digits [] b) s g e = let z : ◌≡◌ {A = ℕ} 0 1 = cc in absurd (omega arith)
token_laid (digits (c ∷ cs) true) s g e = let z : ◌≡◌ {A = ℕ} 0 1 = cc in absurd (omega arith)
token_laid (digits (c ∷ cs) false) s g e =
    let p = and-true (is_digit (class_of c)) (numerals cs) g in
    begin_digit c (cs ++ s) (of_digit (class_of c) p.0) ∙ in_digits_lem digits in_digits digits_acts digits_lasts (c ∷ []) cs s p.1 e
token_laid (hash cs true) s g e = let z : ◌≡◌ {A = ℕ} 0 1 = cc in absurd (omega arith)
token_laid (hash cs false) s g e = begin_sharp (cs ++ s) ∙ in_digits_lem hash in_hash hash_acts hash_lasts [] cs s g e
token_laid (mark []) s g e = let z : ◌≡◌ {A = ℕ} 0 1 = cc in absurd (omega arith)
token_laid (mark (c ∷ [])) s g e = begin_other c s (of_other (class_of c) g)
token_laid (mark (c ∷ d ∷ cs)) s g e = arrow_laid (c ∷ d ∷ cs) s (same_true (c ∷ d ∷ cs) arrow g)

pub laid_read : {ts : List Token} {s : List ℕ} → Laid ts s → tokens between s ≡ ts
unfolding tokens last
laid_read nothing = refl
laid_read (gap {s = s} c e h) = begin_blank c s e ∙ laid_read h
laid_read (remark {s = s} cs e h) = begin_comment (cs ++ (10 ∷ s)) ∙ in_comment cs s e ∙ laid_read h
laid_read (trail cs e) = begin_comment cs ∙ in_trail cs e
laid_read (token {s = s} t g e h) = token_laid t s g e ∙ ap (λ (ts : List Token). t ∷ ts) (laid_read h)

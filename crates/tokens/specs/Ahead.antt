-- FOR CODE, which has a place in the text and the bytes from it on: what a step over them does to the tokens and the places ahead, and which place a
-- fault has. (A code's function takes the place p; its contract speaks of the tokens of `drop p text`.)
use Rattle.std.proofs.Math.Path.{◌≡◌, refl, ap}
use Rattle.std.proofs.Common.{sym, ◌∙◌, arith, length-append, get_or-append-add}
use Rattle.std.specs.Prelude.{Bool, true, not, ◌&&◌, ◌||◌, ℕ, suc, ◌+◌, ◌-◌, length, get_or}
use Rattle.std.proofs.Math.Bool.{false}
use mathlib.Core.List.{List, [], ◌∷◌, ◌++◌, map, append_assoc, append-nil}
use Rattle.std.proofs.lemmas.List.{length-map}
use borrow.Author.Tests.{ne_eqb}
use Rattle.tokens.specs.Quoted.{bytes}
use Rattle.tokens.specs.Tokens.{Token, word, digits, hash, mark, Class, blank, letter, digit, dash, sharp, other, class_of, Mode, between}
use Rattle.tokens.specs.Tokens.{comment, dashed, in_word, in_digits, in_hash, into, begin, on_word, on_digits, arrow, act, last, tokens, held}
use Rattle.tokens.specs.Tokens.{places}
use Rattle.tokens.specs.Same.{and-true}
use Rattle.tokens.specs.Laid.{is_letter, is_digit, shuts, of_digit}

-- as many places as tokens
pub places_many : (p : ℕ) (m : Mode) (s : List ℕ) → length (places p m s) ≡ length (tokens m s)
unfolding tokens places
places_many p m [] = length-map (last m) _
places_many p m (c ∷ s) =
    let e = length-append (act m c).ended ((act m c).own ++ tokens (act m c).next s) in
    let f = length-append (act m c).own (tokens (act m c).next s) in
    let g = length-append (map (λ (t : Token). p - held m) (act m c).ended) (map (λ (t : Token). p) (act m c).own ++ places (suc p) (act m c).next s) in
    let h = length-append (map (λ (t : Token). p) (act m c).own) (places (suc p) (act m c).next s) in
    let i = length-map (act m c).ended (λ (t : Token). p - held m) in
    let j = length-map (act m c).own (λ (t : Token). p) in
    let k = places_many (suc p) (act m c).next s in
    omega arith

-- A STEP: bytes that are no token, and bytes that are one
pub record Passes (p : ℕ) (m : Mode) (s : List ℕ) (q : ℕ) (n : Mode) (s' : List ℕ) : Type 0 where
  pub ahead : tokens m s ≡ tokens n s'
  pub there : places p m s ≡ places q n s'

pub record Meets (p : ℕ) (m : Mode) (s : List ℕ) (t : Token) (place q : ℕ) (s' : List ℕ) : Type 0 where
  pub ahead : tokens m s ≡ t ∷ tokens between s'
  pub there : places p m s ≡ place ∷ places q between s'

pub at_end : (p : ℕ) → (tokens between [] ≡ []) × (places p between [] ≡ [])
unfolding tokens places last
at_end p = (refl, refl)

pub at_blank : (p c : ℕ) (s : List ℕ) → class_of c ≡ blank → Passes p between (c ∷ s) (suc p) between s
unfolding tokens places act begin
at_blank p c s e = record { ahead = rw e; there = rw e }

pub at_comment : (p : ℕ) (s : List ℕ) → Passes p between (45 ∷ 45 ∷ s) (suc (suc p)) comment s
unfolding tokens places act begin class_of
at_comment p s = record { ahead = refl; there = refl }

pub in_comment : (p c : ℕ) (s : List ℕ) → (c ≡ 10 → ⊥) → Passes p comment (c ∷ s) (suc p) comment s
unfolding tokens places act
in_comment p c s h = record { ahead = rw (ne_eqb c 10 h); there = rw (ne_eqb c 10 h) }

pub at_line : (p : ℕ) (s : List ℕ) → Passes p comment (10 ∷ s) (suc p) between s
unfolding tokens places act
at_line p s = record { ahead = refl; there = refl }

pub at_mark : (p c : ℕ) (s : List ℕ) → class_of c ≡ other → Meets p between (c ∷ s) (mark (c ∷ [])) p (suc p) s
unfolding tokens places act begin
at_mark p c s e = record { ahead = rw e; there = rw e }

pub at_arrow : (p : ℕ) (s : List ℕ) → Meets p between (45 ∷ 62 ∷ s) (mark arrow) p (suc (suc p)) s
unfolding tokens places act begin class_of held
at_arrow p s = let e : suc p - 1 ≡ p = omega arith in record { ahead = refl; there = rw e }

-- what a byte begins is no end of a token
none_ended : (k : Class) (c : ℕ) → (begin k c).ended ≡ []
unfolding begin
none_ended blank c = refl
none_ended letter c = refl
none_ended digit c = refl
none_ended dash c = refl
none_ended sharp c = refl
none_ended other c = refl

-- a token that ends before byte c, which then begins what it begins
ended_at : (p c : ℕ) (s : List ℕ) (m : Mode) (t : Token)
    → act m c ≡ record { ended = t ∷ []; own = (begin (class_of c) c).own; next = (begin (class_of c) c).next } → Meets p m (c ∷ s) t (p - held m) p (c ∷ s)
unfolding tokens places act
ended_at p c s m t e = record { ahead = rw (e, none_ended (class_of c) c); there = rw (e, none_ended (class_of c) c) }

pub at_dash : (p c : ℕ) (s : List ℕ) → (c ≡ 45 → ⊥) → (c ≡ 62 → ⊥) → Meets p between (45 ∷ c ∷ s) (mark (bytes "-")) p (suc p) (c ∷ s)
at_dash p c s h k = let e : suc p - 1 ≡ p = omega arith in let w = ended_at (suc p) c s dashed (mark (bytes "-")) acts in
    record { ahead = begins ∙ w.ahead; there = begins' ∙ w.there ∙ ap (λ (x : ℕ). x ∷ places (suc p) between (c ∷ s)) (held_one ∙ e) }
  where
    acts : act dashed c ≡ record { ended = mark (bytes "-") ∷ []; own = (begin (class_of c) c).own; next = (begin (class_of c) c).next }
    acts = unfold act in rw (ne_eqb c 45 h, ne_eqb c 62 k)

    begins : tokens between (45 ∷ c ∷ s) ≡ tokens dashed (c ∷ s)
    begins = unfold tokens act begin class_of in refl

    begins' : places p between (45 ∷ c ∷ s) ≡ places (suc p) dashed (c ∷ s)
    begins' = unfold places act begin class_of in refl

    held_one : suc p - held dashed ≡ suc p - 1
    held_one = unfold held in refl

-- A RUN of bytes: a word, digits, # and digits

grows : (p c : ℕ) (s : List ℕ) (m n : Mode) → act m c ≡ into n → Passes p m (c ∷ s) (suc p) n s
unfolding tokens places
grows p c s m n e = record { ahead = rw e; there = rw e }

abbrev pub all_in : (Class → Bool) → List ℕ → Bool
all_in In [] = true
all_in In (c ∷ cs) = In (class_of c) && all_in In cs

module _ (m : List ℕ → Mode) (In : Class → Bool) (grow : (w : List ℕ) (c : ℕ) → In (class_of c) ≡ true → act (m w) c ≡ into (m (w ++ c ∷ []))) where
  run : (t : Token) (p place : ℕ) (w cs s : List ℕ) → all_in In cs ≡ true → Meets (p + length cs) (m (w ++ cs)) s t place (p + length cs) s
      → Meets p (m w) (cs ++ s) t place (p + length cs) s
  run t p place w [] s h e = let z : p + 0 ≡ p = omega arith in rw z (rw (z, append-nil w) at e)
  run t p place w (c ∷ cs) s h e =
      let a = and-true (In (class_of c)) (all_in In cs) h in
      let g = grows p c (cs ++ s) (m w) (m (w ++ c ∷ [])) (grow w c a.0) in
      let z : suc p + length cs ≡ p + suc (length cs) = omega arith in
      let r = run t (suc p) place (w ++ c ∷ []) cs s a.1 (rw (z, append_assoc w (c ∷ []) cs) e) in
      record { ahead = g.ahead ∙ r.ahead; there = g.there ∙ r.there ∙ ap (λ (x : ℕ). place ∷ places x between s) z }

-- WORDS

abbrev pub is_part : Class → Bool
is_part k = is_letter k || is_digit k

word_grows : (w : List ℕ) (c : ℕ) → is_part (class_of c) ≡ true → act (in_word w) c ≡ into (in_word (w ++ c ∷ []))
unfolding act
word_grows w c h = go (class_of c) h
  where
    go : (k : Class) → is_part k ≡ true → on_word k c w ≡ into (in_word (w ++ c ∷ []))
    go letter h = unfold on_word in refl
    go digit h = unfold on_word in refl
    go blank h = let z : ◌≡◌ {A = ℕ} 0 1 = cc in absurd (omega arith)
    go dash h = let z : ◌≡◌ {A = ℕ} 0 1 = cc in absurd (omega arith)
    go sharp h = let z : ◌≡◌ {A = ℕ} 0 1 = cc in absurd (omega arith)
    go other h = let z : ◌≡◌ {A = ℕ} 0 1 = cc in absurd (omega arith)

word_ends : (p : ℕ) (w s : List ℕ) → shuts s ≡ true → Meets p (in_word w) s (word w) (p - length w) p s
unfolding shuts tokens places last held act
word_ends p w [] h = record { ahead = refl; there = refl }
word_ends p w (c ∷ s) h = ended_at p c s (in_word w) (word w) (go (class_of c) h)
  where
    go : (k : Class) → not (is_part k) ≡ true → on_word k c w ≡ record { ended = word w ∷ []; own = (begin k c).own; next = (begin k c).next }
    go letter h = let z : ◌≡◌ {A = ℕ} 0 1 = cc in absurd (omega arith)
    go digit h = let z : ◌≡◌ {A = ℕ} 0 1 = cc in absurd (omega arith)
    go blank h = unfold on_word in refl
    go dash h = unfold on_word in refl
    go sharp h = unfold on_word in refl
    go other h = unfold on_word in refl

pub at_word : (p c : ℕ) (cs s : List ℕ) → class_of c ≡ letter → all_in is_part cs ≡ true → shuts s ≡ true
    → Meets p between (c ∷ cs ++ s) (word (c ∷ cs)) p (suc p + length cs) s
unfolding act begin
at_word p c cs s l h k =
    let g = grows p c (cs ++ s) between (in_word (c ∷ [])) (rw l) in
    let z : suc p + length cs - suc (length cs) ≡ p = omega arith in
    let r = run in_word is_part word_grows (word (c ∷ cs)) (suc p) p (c ∷ []) cs s h (rw z at (word_ends (suc p + length cs) (c ∷ cs) s k)) in
    record { ahead = g.ahead ∙ r.ahead; there = g.there ∙ r.there }

-- DIGITS, and whether a letter stands right behind them

abbrev pub letter_first : List ℕ → Bool
letter_first [] = false
letter_first (c ∷ cs) = is_letter (class_of c)

abbrev pub digit_first : List ℕ → Bool
digit_first [] = false
digit_first (c ∷ cs) = is_digit (class_of c)

module _ (t : List ℕ → Bool → Token) (m : List ℕ → Mode) (acts : (w : List ℕ) (c : ℕ) → act (m w) c ≡ on_digits t m (class_of c) c w)
    (lasts : (w : List ℕ) → last (m w) ≡ t w false ∷ []) where
  digits_grow : (w : List ℕ) (c : ℕ) → is_digit (class_of c) ≡ true → act (m w) c ≡ into (m (w ++ c ∷ []))
  unfolding on_digits
  digits_grow w c h = rw (acts w c, of_digit (class_of c) h)

  digits_end : (p : ℕ) (w s : List ℕ) → digit_first s ≡ false → Meets p (m w) s (t w (letter_first s)) (p - held (m w)) p s
  unfolding tokens places last
  digits_end p w [] h = record { ahead = lasts w; there = ap (map (λ (x : Token). p - held (m w))) (lasts w) }
  digits_end p w (c ∷ s) h = ended_at p c s (m w) (t w (is_letter (class_of c))) (acts w c ∙ go (class_of c) h)
    where
      go : (k : Class) → is_digit k ≡ false → on_digits t m k c w ≡ record { ended = t w (is_letter k) ∷ []; own = (begin k c).own; next = (begin k c).next }
      go digit h = let z : ◌≡◌ {A = ℕ} 0 1 = cc in absurd (omega arith)
      go letter h = unfold on_digits in refl
      go blank h = unfold on_digits in refl
      go dash h = unfold on_digits in refl
      go sharp h = unfold on_digits in refl
      go other h = unfold on_digits in refl

  digits_run : (p place : ℕ) (w cs s : List ℕ) → all_in is_digit cs ≡ true → digit_first s ≡ false → p + length cs - held (m (w ++ cs)) ≡ place
      → Meets p (m w) (cs ++ s) (t (w ++ cs) (letter_first s)) place (p + length cs) s
  digits_run p place w cs s h k e = run m is_digit digits_grow (t (w ++ cs) (letter_first s)) p place w cs s h
      (rw e at (digits_end (p + length cs) (w ++ cs) s k))

digits_acts : (w : List ℕ) (c : ℕ) → act (in_digits w) c ≡ on_digits digits in_digits (class_of c) c w
unfolding act
digits_acts w c = refl

hash_acts : (w : List ℕ) (c : ℕ) → act (in_hash w) c ≡ on_digits hash in_hash (class_of c) c w
unfolding act
hash_acts w c = refl

digits_lasts : (w : List ℕ) → last (in_digits w) ≡ digits w false ∷ []
unfolding last
digits_lasts w = refl

hash_lasts : (w : List ℕ) → last (in_hash w) ≡ hash w false ∷ []
unfolding last
hash_lasts w = refl

pub at_digits : (p c : ℕ) (cs s : List ℕ) → class_of c ≡ digit → all_in is_digit cs ≡ true → digit_first s ≡ false
    → Meets p between (c ∷ cs ++ s) (digits (c ∷ cs) (letter_first s)) p (suc p + length cs) s
unfolding act begin held
at_digits p c cs s l h k =
    let g = grows p c (cs ++ s) between (in_digits (c ∷ [])) (rw l) in
    let z : suc p + length cs - suc (length cs) ≡ p = omega arith in
    let r = digits_run digits in_digits digits_acts digits_lasts (suc p) p (c ∷ []) cs s h k z in
    record { ahead = g.ahead ∙ r.ahead; there = g.there ∙ r.there }

pub at_hash : (p : ℕ) (cs s : List ℕ) → all_in is_digit cs ≡ true → digit_first s ≡ false
    → Meets p between (35 ∷ cs ++ s) (hash cs (letter_first s)) p (suc p + length cs) s
unfolding act begin held class_of
at_hash p cs s h k =
    let g = grows p 35 (cs ++ s) between (in_hash []) refl in
    let z : suc p + length cs - suc (length cs) ≡ p = omega arith in
    let r = digits_run hash in_hash hash_acts hash_lasts (suc p) p [] cs s h k z in
    record { ahead = g.ahead ∙ r.ahead; there = g.there ∙ r.there }

-- THE PLACE OF A FAULT: the place of the token that so many tokens stand from on

pub record Here (text : List ℕ) (p : ℕ) (m : Mode) (s : List ℕ) : Type 0 where
  pub met : List Token
  pub left : List ℕ
  pub many : length met ≡ length left
  pub tokens-met : tokens between text ≡ met ++ tokens m s
  pub places_met : places 0 between text ≡ left ++ places p m s

pub here_first : (text : List ℕ) → Here text 0 between text
here_first text = record { met = []; left = []; many = refl; tokens-met = refl; places_met = refl }

pub here_passed : {text s s' : List ℕ} {p q : ℕ} {m n : Mode} → Here text p m s → Passes p m s q n s' → Here text q n s'
here_passed h x = record {
  met = h.met;
  left = h.left;
  many = h.many;
  tokens-met = h.tokens-met ∙ ap (λ (z : List Token). h.met ++ z) x.ahead;
  places_met = h.places_met ∙ ap (λ (z : List ℕ). h.left ++ z) x.there;
}

pub here_met : {text s s' : List ℕ} {p q place : ℕ} {t : Token} {m : Mode} → Here text p m s → Meets p m s t place q s' → Here text q between s'
here_met {place = place} {t = t} h x = record {
  met = h.met ++ t ∷ [];
  left = h.left ++ place ∷ [];
  many = length-append h.met (t ∷ []) ∙ ap (λ (z : ℕ). z + 1) h.many ∙ sym (length-append h.left (place ∷ []));
  tokens-met = h.tokens-met ∙ ap (λ (z : List Token). h.met ++ z) x.ahead ∙ sym (append_assoc h.met (t ∷ []) _);
  places_met = h.places_met ∙ ap (λ (z : List ℕ). h.left ++ z) x.there ∙ sym (append_assoc h.left (place ∷ []) _);
}

-- (of Reader's `placed`)
abbrev pub place_at : List ℕ → ℕ → ℕ
place_at text left = let ps = places 0 between text in get_or ps (length ps - left) (length text)

place_ahead : {text s : List ℕ} {p : ℕ} (h : Here text p between s) → place_at text (length (tokens between s)) ≡ get_or (places p between s) 0 (length text)
place_ahead {text} {s} {p} h =
    let n = places_many p between s in
    let l = length-append h.left (places p between s) in
    let e : length (h.left ++ places p between s) - length (tokens between s) ≡ length h.left + 0 = omega arith in
    ap (λ (ps : List ℕ). get_or ps (length ps - length (tokens between s)) (length text)) h.places_met
    ∙ ap (λ (i : ℕ). get_or (h.left ++ places p between s) i (length text)) e
    ∙ get_or-append-add h.left (places p between s) 0 (length text)

pub place_met : {text s : List ℕ} {p place q : ℕ} {t : Token} {s' : List ℕ} → Here text p between s → Meets p between s t place q s'
    → place_at text (length (tokens between s)) ≡ place
place_met {text} h x = place_ahead h ∙ ap (λ (ps : List ℕ). get_or ps 0 (length text)) x.there

pub place_end : {text : List ℕ} {p : ℕ} → Here text p between [] → place_at text 0 ≡ length text
unfolding tokens places last
place_end h = place_ahead h

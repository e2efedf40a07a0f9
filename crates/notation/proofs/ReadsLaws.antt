-- What is read is what the grammar says: every text of a value is read as that value, and what is read is a text of it.
use Rattle.std.specs.Prelude.{◌≡◌, refl, Bool, true, false, List, ◌∷◌, ℕ, suc, ◌≤◌, ◌<◌, eqb, leb}
use Rattle.std.proofs.Common.{sym, ap, ◌∙◌, arith, eq-eqb, ne_eqb, leb-true}
use Rattle.value.specs.Value.{Value, Values, list, pair, cons}
use Rattle.value.specs.Result.{Result, ok}
use Rattle.value.proofs.Laws.{and-true}
use Rattle.notation.specs.Text.{level_limit}
use Rattle.notation.specs.Grammar.{Awaits, value, members, more, token, exactly, digits, finished, word, alse, rue, name, named, object, member}
use Rattle.notation.specs.Grammar.{numeral, white, is_digit, start_of, start_number, begin, found, or_member, or_comma, or_digit, skip, take, judge}
use Rattle.notation.specs.Grammar.{ends, run}
use Rattle.notation.specs.Texts.{
  Spaces,
  none,
  space,
  Token,
  here,
  NoDigit,
  n_end,
  n_byte,
  Digits,
  d_end,
  d_more,
  Text,
  t_false,
  t_true,
  t_number,
  t_array,
  t_object,
  Named,
  named as is_named,
  Members,
  m_none,
  m_some,
  More,
  o_none,
  o_some,
  Whole,
  whole,
}
use Rattle.notation.specs.Reads.{Spaced, s_finished, s_members, s_more, s_token, s_value, Begins, begins}

skipped : {w : Awaits} → Spaced w → (b : ℕ) (next : Awaits → Result Value) → skip b next w ≡ next w
unfolding skip
skipped s_value b next = refl
skipped s_members b next = refl
skipped s_more b next = refl
skipped s_token b next = refl
skipped s_finished b next = refl

pub run-white : {w : Awaits} → Spaced w → (b : ℕ) (s : List ℕ) → white b ≡ true → run (b ∷ s) w ≡ run s w
unfolding run judge
run-white {w} q b s e = rw e (skipped q b (run s))

pub run_spaces : {s r : List ℕ} → Spaces s r → {w : Awaits} → Spaced w → run s w ≡ run r w
run_spaces none q = refl
run_spaces (space {b} {s} e p) q = run-white q b s e ∙ run_spaces p q

-- a byte that is no white space
pub run_take : (b : ℕ) (s : List ℕ) (w : Awaits) → white b ≡ false → run (b ∷ s) w ≡ take b (run s) w
unfolding run judge
run_take b s w e = rw e

pub run-token : {c : ℕ} {s r : List ℕ} → Token c s r → white c ≡ false → (w : Awaits) → run s (token c w) ≡ run r w
unfolding take found
run-token {c} {r = r} (here p) e w = run_spaces p s_token ∙ run_take c r (token c w) e ∙ rw (eq-eqb c c refl)

-- a byte that must stand there
pub run_byte : (b c : ℕ) (s : List ℕ) (w : Awaits) → run (b ∷ s) (exactly c w) ≡ found b (run s) (eqb b c) w
unfolding run judge skip take
run_byte b c s w = go (white b)
  where
    go : (d : Bool) → judge b (run s) d (exactly c w) ≡ found b (run s) (eqb b c) w
    go true = refl
    go false = refl

pub run-exactly : (c : ℕ) (s : List ℕ) (w : Awaits) → run (c ∷ s) (exactly c w) ≡ run s w
unfolding found
run-exactly c s w = run_byte c c s w ∙ rw (eq-eqb c c refl)

-- bytes above the space are no white space
pub black : (b : ℕ) → 0x20 < b → white b ≡ false
unfolding white
black b h = rw (ne_eqb b 0x20 (λ e. omega arith), ne_eqb b 0x0A (λ e. omega arith), ne_eqb b 0x0D (λ e. omega arith), ne_eqb b 0x09 (λ e. omega arith))

-- the number has ended
pub run_ended : {s : List ℕ} → NoDigit s → (n : ℕ) (k : Value → Awaits) → run s (digits n k) ≡ run s (k (numeral n))
unfolding run ends judge skip take or_digit
run_ended n_end n k = refl
run_ended (n_byte {b} {s} e) n k = go (white b)
  where
    go : (d : Bool) → judge b (run s) d (digits n k) ≡ judge b (run s) d (k (numeral n))
    go true = refl
    go false = rw e

pub is_digit_lem : (b : ℕ) → is_digit b ≡ true → (48 ≤ b) × (b ≤ 57)
unfolding is_digit
is_digit_lem b e = let q = and-true (leb 48 b) (leb b 57) e in (leb-true 48 b q.0, leb-true b 57 q.1)

pub run-digits : {n m : ℕ} {s r : List ℕ} → Digits n m s r → (k : Value → Awaits) → run s (digits n k) ≡ run r (k (numeral m))
unfolding take or_digit found
run-digits (d_end {n} h) k = run_ended h n k
run-digits (d_more {n} {b} {s} d f h) k = run_take b s (digits n k) (black b (omega (arith, is_digit_lem b d))) ∙ rw (d, f) (run-digits h k)

pub start_number_lem : (b : ℕ) → is_digit b ≡ true → start_of b ≡ start_number
unfolding start_of
start_number_lem b d =
    let h = is_digit_lem b d in
    rw (ne_eqb b 0x66 (λ e. omega arith), ne_eqb b 0x74 (λ e. omega arith), ne_eqb b 0x5B (λ e. omega arith), ne_eqb b 0x7B (λ e. omega arith), d)

text_begins : {l : ℕ} {v : Value} {s r : List ℕ} → Text l v s r → Begins s
unfolding white
text_begins (t_false p) = begins p (λ e. omega arith) refl
text_begins (t_true p) = begins p (λ e. omega arith) refl
text_begins (t_number {b} p d h e) = begins p (λ e. omega (arith, is_digit_lem b d)) (black b (omega (arith, is_digit_lem b d)))
text_begins (t_array (here p) h) = begins p (λ e. omega arith) refl
text_begins (t_object (here p) ha q hb o) = begins p (λ e. omega arith) refl

-- and so does the first member of an array
pub run-member : (b : ℕ) (s : List ℕ) → (b ≡ 0x5D → ⊥) → white b ≡ false → (l : ℕ) (k : Values → Awaits) → run (b ∷ s) (members l k) ≡ run (b ∷ s) (member l k)
unfolding take or_member member
run-member b s h e l k = run_take b s (members l k) e ∙ rw (ne_eqb b 0x5D h) (sym (run_take b s (member l k) e))

run_first : {s : List ℕ} → Begins s → (l : ℕ) (k : Values → Awaits) → run s (members l k) ≡ run s (member l k)
unfolding member
run_first (begins {b} {t} p h e) l k = run_spaces p s_members ∙ run-member b t h e l k ∙ sym (run_spaces p s_value)

mutual
  unfolding take begin or_member or_comma found start_of is_digit word alse rue object named name member white

  pub run_text : {l : ℕ} {v : Value} {s r : List ℕ} → Text l v s r → (k : Value → Awaits) → run s (value l k) ≡ run r (k v)
  run_text (t_false {l} {r = r} p) k = run_spaces p s_value ∙ run_take 0x66 _ (value l k) refl ∙ run-exactly 0x61 _ _ ∙ run-exactly 0x6C _ _
      ∙ run-exactly 0x73 _ _ ∙ run-exactly 0x65 _ _
  run_text (t_true {l} {r = r} p) k = run_spaces p s_value ∙ run_take 0x74 _ (value l k) refl ∙ run-exactly 0x72 _ _ ∙ run-exactly 0x75 _ _
      ∙ run-exactly 0x65 _ _
  run_text (t_number {l} {b} {t} {r} p d h e) k = run_spaces p s_value ∙ run_take b t (value l k) (black b (omega (arith, is_digit_lem b d)))
      ∙ ap (begin b (run t) l k) (start_number_lem b d) ∙ run-digits h k ∙ ap (λ (v : Value). run r (k v)) e
  run_text (t_array {l} {t} (here p) h) k = run_spaces p s_value ∙ run_take 0x5B t (value (suc l) k) refl ∙ run-members h (λ m. k (list m))
  run_text (t_object {l} {a} {t} (here p) ha q hb o) k = run_spaces p s_value ∙ run_take 0x7B t (value (suc l) k) refl
      ∙ run-named ha (λ a. token 0x2C (named 0x62 l λ b. token 0x7D (k (pair a b)))) ∙ run-token q refl _
      ∙ run-named hb (λ b. token 0x7D (k (pair a b))) ∙ run-token o refl _

  pub run-named : {c l : ℕ} {v : Value} {s r : List ℕ} → Named c l v s r → (k : Value → Awaits) → run s (named c l k) ≡ run r (k v)
  run-named (is_named {c} p q h) k = run-token p refl _ ∙ run-exactly c _ _ ∙ run-exactly 0x22 _ _ ∙ run-token q refl _ ∙ run_text h k

  pub run-members : {l : ℕ} {m : Values} {s r : List ℕ} → Members l m s r → (k : Values → Awaits) → run s (members l k) ≡ run r (k m)
  run-members (m_none {l} {r} (here p)) k = run_spaces p s_members ∙ run_take 0x5D r (members l k) refl
  run-members (m_some {l} {v} h q) k = run_first (text_begins h) l k ∙ run_text h (λ v. more l λ m. k (cons v m)) ∙ run_more q (λ m. k (cons v m))

  pub run_more : {l : ℕ} {m : Values} {s r : List ℕ} → More l m s r → (k : Values → Awaits) → run s (more l k) ≡ run r (k m)
  run_more (o_none {l} {r} (here p)) k = run_spaces p s_more ∙ run_take 0x5D r (more l k) refl
  run_more (o_some {l} {v} {t} (here p) h q) k = run_spaces p s_more ∙ run_take 0x2C t (more l k) refl ∙ run_text h (λ v. more l λ m. k (cons v m))
      ∙ run_more q (λ m. k (cons v m))

-- EVERY TEXT OF A VALUE IS READ AS THAT VALUE, whatever white space it has
pub run_whole : {v : Value} {s : List ℕ} → Whole v s → run s (value level_limit finished) ≡ ok v
unfolding run ends
run_whole (whole h p) = run_text h finished ∙ run_spaces p s_finished

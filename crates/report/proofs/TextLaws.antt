-- What is written reads back: a byte is its two digits, and decimal text is its number. How long text is, and how it grows.
use Rattle.std.specs.Prelude.{cond, ◌≡◌, refl, List, [], ◌∷◌, ◌++◌, map, ℕ, zero, suc, ◌+◌, ◌-◌, ◌*◌, ◌/◌, ◌%◌, ◌^◌, ◌≤◌, ◌<◌, min, ltb, length, take, drop}
use Rattle.std.specs.Prelude.{get_or}
use Rattle.std.proofs.Common.{sym, ◌∙◌, append-nil, append_assoc, zero-le, pow-suc, add-one, arith, lt-ltb, le-ltb, length-append, length-take-le}
use Rattle.std.proofs.Common.{take-append-drop, drop_of_length-le, take-suc}
use Rattle.std.proofs.Math.Decide.{dec_le, dec_lt}
use Rattle.std.proofs.lemmas.List.Edits.{sets-eq}
use Rattle.report.specs.Text.{digit_of, hex_of, decimal_in, decimal_of, words, refusal_line, ok_line, success_line}
use Rattle.report.specs.Writing.{Wrote, wrote, sets_out, wrote_then, wrote_long, wrote_text}

-- DIGITS

-- the number that a digit's character stands for
unfoldable pub value_of : ℕ → ℕ
value_of c = cond (ltb c 58) (c - 48) (c - 55)

pub digit_reads : (d : ℕ) → d < 16 → value_of (digit_of d) ≡ d
unfolding digit_of value_of
digit_reads d h = go (dec_lt d 10)
  where
    go : Dec (d < 10) → value_of (digit_of d) ≡ d
    go (yes l) = rw (lt-ltb d 10 l, lt-ltb (48 + d) 58 (omega arith)) (omega arith)
    go (no l) = rw (le-ltb d 10 (omega arith), le-ltb (55 + d) 58 (omega arith)) (omega arith)

-- HEXADECIMAL

-- the bytes that pairs of digits stand for
unfoldable pub bytes_of : List ℕ → List ℕ
bytes_of [] = []
bytes_of (h ∷ []) = []
bytes_of (h ∷ l ∷ t) = (16 * value_of h + value_of l) ∷ bytes_of t

pub byte_reads : (b : ℕ) → b < 256 → 16 * value_of (digit_of (b / 16)) + value_of (digit_of (b % 16)) ≡ b
byte_reads b h = rw (digit_reads (b / 16) (omega arith), digit_reads (b % 16) (omega arith)) (omega arith)

-- numbers that are all below n
pub data Below (n : ℕ) : List ℕ → Type 0 where
  none : Below n []
  each : {a : ℕ} {l : List ℕ} → a < n → Below n l → Below n (a ∷ l)

pub hex_reads : {bs : List ℕ} → Below 256 bs → bytes_of (hex_of bs) ≡ bs
unfolding hex_of bytes_of
hex_reads none = refl
hex_reads (each {a} h r) = rw (byte_reads a h, hex_reads r)

hex_append : (s t : List ℕ) → hex_of (s ++ t) ≡ hex_of s ++ hex_of t
unfolding hex_of
hex_append [] t = refl
hex_append (b ∷ s) t = rw (hex_append s t)

pub hex_more : (bs : List ℕ) (i : ℕ) → i < length bs
    → hex_of (take i bs) ++ (digit_of (get_or bs i 0 / 16) ∷ digit_of (get_or bs i 0 % 16) ∷ []) ≡ hex_of (take (i + 1) bs)
unfolding hex_of
hex_more bs i h = sym (rw (add-one, take-suc bs i 0 h) (hex_append (take i bs) (get_or bs i 0 ∷ [])))

pub hex_length : (bs : List ℕ) → length (hex_of bs) ≡ 2 * length bs
unfolding hex_of
hex_length [] = refl
hex_length (b ∷ bs) = rw (hex_length bs) (omega arith)

-- DECIMAL

in_small : (k n : ℕ) → n < 10 → decimal_in (suc k) n ≡ digit_of n ∷ []
unfolding decimal_in
in_small k n h = rw (lt-ltb n 10 h)

in_more : (k n : ℕ) → 10 ≤ n → decimal_in (suc k) n ≡ decimal_in k (n / 10) ++ (digit_of (n % 10) ∷ [])
unfolding decimal_in
in_more k n h = rw (le-ltb n 10 h)

-- turns enough are turns enough
turns : (k l n : ℕ) → n < k → n < l → decimal_in k n ≡ decimal_in l n
turns zero l n h m = absurd (omega arith)
turns (suc k) zero n h m = absurd (omega arith)
turns (suc k) (suc l) n h m = go (dec_lt n 10) λ s. turns k l (n / 10) (omega arith) (omega arith)
  where
    go : Dec (n < 10) → (10 ≤ n → decimal_in k (n / 10) ≡ decimal_in l (n / 10)) → decimal_in (suc k) n ≡ decimal_in (suc l) n
    go (yes s) r = in_small k n s ∙ sym (in_small l n s)
    go (no s) r = in_more k n (omega arith) ∙ rw (r (omega arith)) (sym (in_more l n (omega arith)))

pub decimal_small : (n : ℕ) → n < 10 → decimal_of n ≡ digit_of n ∷ []
unfolding decimal_of
decimal_small n h = in_small n n h

pub decimal_more : (n : ℕ) → 10 ≤ n → decimal_of n ≡ decimal_of (n / 10) ++ (digit_of (n % 10) ∷ [])
unfolding decimal_of
decimal_more n h = in_more n n h ∙ rw (turns n (suc (n / 10)) (n / 10) (omega arith) (omega arith))

-- what holds below 10, and of a number if of what stands before its last digit, holds of every number
module _ (P : ℕ → Type 0) (small : (n : ℕ) → n < 10 → P n) (more : (n : ℕ) → 10 ≤ n → P (n / 10) → P n) where
  by_digits_below : (k n : ℕ) → n < k → P n
  by_digits_below zero n h = absurd (omega arith)
  by_digits_below (suc k) n h = go (dec_lt n 10) λ s. by_digits_below k (n / 10) (omega arith)
    where
      go : Dec (n < 10) → (10 ≤ n → P (n / 10)) → P n
      go (yes s) r = small n s
      go (no s) r = more n (omega arith) (r (omega arith))

  pub by_digits : (n : ℕ) → P n
  by_digits n = by_digits_below (suc n) n (omega arith)

-- the number that decimal text stands for, with a in front of it
unfoldable pub number_from : ℕ → List ℕ → ℕ
number_from a [] = a
number_from a (c ∷ t) = number_from (10 * a + value_of c) t

unfoldable pub number_of : List ℕ → ℕ
number_of t = number_from 0 t

from_append : (a : ℕ) (s t : List ℕ) → number_from a (s ++ t) ≡ number_from (number_from a s) t
unfolding number_from
from_append a [] t = refl
from_append a (c ∷ s) t = from_append (10 * a + value_of c) s t

pub decimal_reads : (n : ℕ) → number_of (decimal_of n) ≡ n
unfolding number_of number_from
decimal_reads = by_digits (λ n. number_of (decimal_of n) ≡ n)
    (λ n s. rw (decimal_small n s, digit_reads n (omega arith)) (omega arith))
    (λ n s r. rw (decimal_more n s, from_append 0 (decimal_of (n / 10)) (digit_of (n % 10) ∷ []), r, digit_reads (n % 10) (omega arith)) (omega arith))

-- a number below 10 ^ k, for k from 1, has at most k digits
pub decimal_length : (n k : ℕ) → n < 10 ^ suc k → length (decimal_of n) ≤ suc k
decimal_length = by_digits (λ n. (k : ℕ) → n < 10 ^ suc k → length (decimal_of n) ≤ suc k)
    (λ n s k h. rw (decimal_small n s) (omega arith))
    (λ n s r k h. rw (decimal_more n s, length-append) (more n s r k h))
  where
    more : (n : ℕ) → 10 ≤ n → ((k : ℕ) → n / 10 < 10 ^ suc k → length (decimal_of (n / 10)) ≤ suc k) → (k : ℕ) → n < 10 ^ suc k
        → length (decimal_of (n / 10)) + 1 ≤ suc k
    more n s r zero h = absurd (omega arith)
    more n s r (suc k) h = omega (arith, r k (omega (arith, pow-suc 10 (suc k))))

-- BYTES, of which as many are copied as have room

-- nothing more is written at the buffer's end
wrote_beyond : (t b : List ℕ) (r : ℕ) → r ≡ length b → Wrote t r b b r
wrote_beyond t b r e = wrote (sym (sets_out t b r (omega arith))) (omega arith)

wrote_none : (b : List ℕ) (r : ℕ) → r ≤ length b → Wrote [] r b b r
wrote_none b r h = wrote refl (omega arith)

wrote_whole : (t b : List ℕ) (p : ℕ) → p + length t ≤ length b → Wrote t p b (take p b ++ (t ++ drop (p + length t) b)) (p + length t)
wrote_whole t b p h = wrote (sym (sets-eq t b p h ∙ append_assoc (take p b) t (drop (p + length t) b))) (omega arith)

pub wrote_room : (t b : List ℕ) {i p n : ℕ} → Wrote [] i b b p → n ≡ min (length t) (length b - p)
    → Wrote t i b (take p b ++ (take n t ++ drop (p + n) b)) (p + n)
wrote_room t b {i} {p} {n} w e =
    let h : p ≤ length b = w.inside in
    let k : length (take n t) ≡ n = length-take-le n t (omega arith) in
    let b' : List ℕ = take p b ++ (take n t ++ drop (p + n) b) in
    let v = wrote_whole (take n t) b p (omega arith) in
    let u : Wrote (take n t) p b b' (p + n) = rw k at v in
    let l : length b' ≡ length b = wrote_long u in
    wrote_text (wrote_then w (wrote_then u (behind b' l (dec_le (length t) n)))) (take-append-drop n t)
  where
    behind : (b' : List ℕ) → length b' ≡ length b → Dec (length t ≤ n) → Wrote (drop n t) (p + n) b' b' (p + n)
    behind b' l (yes a) = rw (drop_of_length-le t a) (wrote_none b' (p + n) (omega (arith, w.inside)))
    behind b' l (no a) = wrote_beyond (drop n t) b' (p + n) (omega (arith, w.inside))

-- WORDS

pub words_append : (ws vs : List (List ℕ)) → words (ws ++ vs) ≡ words ws ++ words vs
unfolding words
words_append [] vs = refl
words_append (w ∷ ws) vs = rw (words_append ws vs, append_assoc w (words ws) (words vs))

pub wrote_words : (ws vs : List (List ℕ)) {i m r : ℕ} {b b₁ b₂ : List ℕ} → Wrote (words ws) i b b₁ m → Wrote (words vs) m b₁ b₂ r
    → Wrote (words (ws ++ vs)) i b b₂ r
wrote_words ws vs p q = wrote_text (wrote_then p q) (sym (words_append ws vs))

-- one word: a space, and the word
pub wrote_word : {w : List ℕ} {i m r : ℕ} {b b₁ b₂ : List ℕ} → Wrote (0x20 ∷ []) i b b₁ m → Wrote w m b₁ b₂ r → Wrote (words (w ∷ [])) i b b₂ r
unfolding words
wrote_word {w} p q = wrote_text (wrote_then p q) (rw append-nil)

-- numbers below 10 ^ k, for k from 1: each takes a space and at most k digits
pub numbers_length : (k : ℕ) {ns : List ℕ} → Below (10 ^ suc k) ns → length (words (map decimal_of ns)) ≤ (2 + k) * length ns
unfolding words
numbers_length k none = zero-le
numbers_length k (each {a} h r) = rw length-append (omega (arith, decimal_length a k h, numbers_length k r))

-- THE LINES

pub wrote_ok : (ws : List (List ℕ)) {i m n r : ℕ} {b b₁ b₂ b₃ : List ℕ}
    → Wrote (0x6F ∷ 0x6B ∷ []) i b b₁ m → Wrote (words ws) m b₁ b₂ n → Wrote (0x0A ∷ []) n b₂ b₃ r → Wrote (ok_line ws) i b b₃ r
unfolding ok_line
wrote_ok ws p q f = wrote_then p (wrote_then q f)

pub ok_length : (ws : List (List ℕ)) → length (ok_line ws) ≡ 3 + length (words ws)
unfolding ok_line
ok_length ws = rw length-append (omega arith)

pub refusal_length : (c : ℕ) → c < 256 → length (refusal_line c) ≤ 7
unfolding refusal_line words
refusal_length c h = simp length-append (omega (arith, decimal_length c 2 (omega arith)))

-- a line with at most so many steps and an output of at most so many bytes
pub success_length : (n : ℕ) (bs : List ℕ) → n ≤ 1000000 → length (success_line n bs) ≤ 12 + 2 * length bs
unfolding success_line words
success_length n bs h = simp (ok_length, length-append, hex_length) (omega (arith, decimal_length n 6 (omega arith)))

-- EXAMPLES: `no 61`, `ok 1000 0ABA`, `ok 0 12`

refusal_61 : refusal_line 61 ≡ 0x6E ∷ 0x6F ∷ 0x20 ∷ 0x36 ∷ 0x31 ∷ 0x0A ∷ []
unfolding refusal_line words decimal_of decimal_in digit_of
refusal_61 = refl

success_1000 : success_line 1000 (0x0A ∷ 0xBA ∷ [])
    ≡ 0x6F ∷ 0x6B ∷ 0x20 ∷ 0x31 ∷ 0x30 ∷ 0x30 ∷ 0x30 ∷ 0x20 ∷ 0x30 ∷ 0x41 ∷ 0x42 ∷ 0x41 ∷ 0x0A ∷ []
unfolding success_line ok_line words hex_of decimal_of decimal_in digit_of
success_1000 = refl

ok_numbers : ok_line (map decimal_of (0 ∷ 12 ∷ [])) ≡ 0x6F ∷ 0x6B ∷ 0x20 ∷ 0x30 ∷ 0x20 ∷ 0x31 ∷ 0x32 ∷ 0x0A ∷ []
unfolding ok_line words decimal_of decimal_in digit_of
ok_numbers = refl

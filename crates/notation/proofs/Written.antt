-- What is written is a text of the value, of at most 2,048 bytes; what is read is a text of it.
use Rattle.std.specs.Prelude.{◌≡◌, refl, Bool, true, false, ◌&&◌, cond, List, ◌∷◌, ◌++◌, ℕ, zero, suc, ◌+◌, ◌-◌, ◌*◌, ◌/◌, ◌%◌, ◌≤◌, ◌<◌, leb, length}
use Rattle.std.proofs.Common.{append_assoc, append-nil, zero-le, arith, lt-ltb, le-leb, leb-true, length-append}
use Rattle.std.proofs.lemmas.Bool.{lt-leb}
use Rattle.std.proofs.Math.Decide.{dec_le}
use Rattle.value.proofs.Laws.{and-true}
use Rattle.notation.proofs.ReadsLaws.{is_digit_lem}
use Rattle.value.specs.Value.{Value, Values, number, wide, nil, cons, size, sizes, least_wide, Encodable, Encodables, e_false, e_true, e_list}
use Rattle.value.specs.Value.{e_number, e_wide, e_pair, e_nil, e_cons}
use Rattle.report.specs.Text.{digit_of, decimal_of}
use Rattle.report.proofs.TextLaws.{decimal_small, decimal_more, by_digits, decimal_length}
use Rattle.notation.specs.Text.{json_of, members_of, more_of, depth, depths, level_limit}
use Rattle.notation.specs.Grammar.{numeral, is_digit, follows, largest_number}
use Rattle.notation.specs.Texts.{none, here, NoDigit, n_end, n_byte, Digits, d_end, d_more, Text, t_false, t_true, t_number, t_array, t_object, Named}
use Rattle.notation.specs.Texts.{named, Members, m_none, m_some, More, o_none, o_some, Whole, whole}
use Rattle.notation.specs.Written.{Leads, leads, Good, Goods}

-- A NUMBER'S DIGITS
pub digit_char : (d : ℕ) → d < 10 → digit_of d ≡ 48 + d
unfolding digit_of
digit_char d h = rw (lt-ltb d 10 h)

pub in_digits_lem : (b : ℕ) → 48 ≤ b → b ≤ 57 → is_digit b ≡ true
unfolding is_digit
in_digits_lem b h k = rw (le-leb 48 b h, le-leb b 57 k)

both : {a b : Bool} → a ≡ true → b ≡ true → a && b ≡ true
both e f = rw (e, f)

pub may_follow : (n b : ℕ) → 1 ≤ n → 10 * n + (b - 48) ≤ largest_number → follows n b ≡ true
unfolding follows
may_follow n b h k = both (le-leb _ n (omega arith)) (le-leb _ largest_number k)

-- a number that was begun with the digits of n
decimal_leads : (n : ℕ) → n ≤ largest_number → (m : ℕ) (u r : List ℕ) → Digits n m u r → Leads m r (decimal_of n ++ u)
decimal_leads = by_digits (λ n. n ≤ largest_number → (m : ℕ) (u r : List ℕ) → Digits n m u r → Leads m r (decimal_of n ++ u))
    (λ n s h m u r d. rw (decimal_small n s, digit_char n s) (small n s d))
    (λ n s ih h m u r d. rw (decimal_more n s, append_assoc, digit_char (n % 10) (omega arith)) (ih (omega arith) m ((48 + n % 10) ∷ u) r (last n s h d)))
  where
    small : (n : ℕ) → n < 10 → {m : ℕ} {u r : List ℕ} → Digits n m u r → Leads m r ((48 + n) ∷ u)
    small n s {m} {u} {r} d =
        let e : 48 + n - 48 ≡ n = omega arith in
        let k : Digits (48 + n - 48) m u r = rw e d in
        leads (in_digits_lem (48 + n) (omega arith) (omega arith)) k

    last : (n : ℕ) → 10 ≤ n → n ≤ largest_number → {m : ℕ} {u r : List ℕ} → Digits n m u r → Digits (n / 10) m ((48 + n % 10) ∷ u) r
    last n s h {m} {u} {r} d =
        let e : 10 * (n / 10) + (48 + n % 10 - 48) ≡ n = omega arith in
        let k : Digits (10 * (n / 10) + (48 + n % 10 - 48)) m u r = rw e d in
        d_more (in_digits_lem (48 + n % 10) (omega arith) (omega arith)) (may_follow (n / 10) (48 + n % 10) (omega arith) (omega arith)) k

number_text : {l : ℕ} (n : ℕ) {v : Value} {r : List ℕ} → n ≤ largest_number → NoDigit r → numeral n ≡ v → Text l v (decimal_of n ++ r) r
number_text {l} n {v} {r} h q e = go (decimal_leads n h n r r (d_end q))
  where
    go : {s : List ℕ} → Leads n r s → Text l v s r
    go (leads d k) = t_number none d k e

-- WHAT IS WRITTEN IS A TEXT OF THE VALUE

-- behind a member stands `,` or `]`
no_digit : (m : Values) (r : List ℕ) → NoDigit (more_of m ++ r)
unfolding more_of is_digit
no_digit nil r = n_byte refl
no_digit (cons v m) r = n_byte refl

mutual
  unfolding json_of members_of more_of depth depths numeral is_digit

  pub text_of : {v : Value} → Encodable v → (l : ℕ) → depth v ≤ l → {r : List ℕ} → NoDigit r → Text l v (json_of v ++ r) r
  text_of e_false l h q = t_false none
  text_of e_true l h q = t_true none
  text_of (e_list e) zero h q = absurd (omega arith)
  text_of (e_list {l = m} e) (suc l) h {r} q = t_array (here none) (members_of_lem e l (omega arith) r)
  text_of (e_number {n} e) l h q = number_text n (omega arith) q (rw (lt-leb least_wide n (omega arith)))
  text_of (e_wide {n} e f) l h q = number_text n (omega arith) q (rw (le-leb least_wide n (omega arith)))
  text_of (e_pair e f) zero h q = absurd (omega arith)
  text_of (e_pair {a} {b} e f) (suc l) h {r} q = rw (append_assoc, append_assoc)
      (t_object (here none) (named (here none) (here none) (text_of e l (omega arith) (n_byte refl))) (here none)
      (named (here none) (here none) (text_of f l (omega arith) (n_byte refl))) (here none))

  pub members_of_lem : {m : Values} → Encodables m → (l : ℕ) → depths m ≤ l → (r : List ℕ) → Members l m (members_of m ++ r) r
  members_of_lem e_nil l h r = m_none (here none)
  members_of_lem (e_cons {v} {l = m} e f) l h r = rw append_assoc (m_some (text_of e l (omega arith) (no_digit m r)) (more_of_lem f l (omega arith) r))

  pub more_of_lem : {m : Values} → Encodables m → (l : ℕ) → depths m ≤ l → (r : List ℕ) → More l m (more_of m ++ r) r
  more_of_lem e_nil l h r = o_none (here none)
  more_of_lem (e_cons {v} {l = m} e f) l h r =
      rw append_assoc (o_some (here none) (text_of e l (omega arith) (no_digit m r)) (more_of_lem f l (omega arith) r))

pub whole_of : {v : Value} → Encodable v → depth v ≤ level_limit → Whole v (json_of v)
whole_of {v} e h = whole (rw append-nil at (text_of e level_limit h n_end)) none

-- AT MOST 2,048 BYTES: eight for each byte of the value, less three
mutual
  unfolding json_of members_of more_of size sizes

  pub text_short : {v : Value} → Encodable v → length (json_of v) + 3 ≤ 8 * size v
  text_short e_false = omega arith
  text_short e_true = omega arith
  text_short (e_list e) = omega (arith, members_short e)
  text_short (e_number {n} h) = omega (arith, decimal_length n 4 (omega arith))
  text_short (e_wide {n} h k) = omega (arith, decimal_length n 9 (omega arith))
  text_short (e_pair {a} {b} e f) = rw (length-append, length-append) (omega (arith, text_short e, text_short f))

  pub members_short : {m : Values} → Encodables m → length (members_of m) + 4 ≤ 8 * sizes m
  members_short e_nil = omega arith
  members_short (e_cons e f) = rw length-append (omega (arith, text_short e, more_short f))

  pub more_short : {m : Values} → Encodables m → length (more_of m) + 4 ≤ 8 * sizes m
  more_short e_nil = omega arith
  more_short (e_cons e f) = rw length-append (omega (arith, text_short e, more_short f))

-- WHAT IS READ can be written again: its numbers are ones that values have, and it nests no deeper than was asked
numeral_encodable : (n : ℕ) → n ≤ largest_number → Encodable (numeral n)
unfolding numeral
numeral_encodable n h = go (dec_le least_wide n)
  where
    go : Dec (least_wide ≤ n) → Encodable (cond (leb least_wide n) (wide n) (number n))
    go (yes q) = rw (le-leb least_wide n q) (e_wide {n = n} (omega arith) (omega arith))
    go (no q) = rw (lt-leb least_wide n (omega arith)) (e_number {n = n} (omega arith))

numeral_flat : (n : ℕ) → depth (numeral n) ≡ 0
unfolding numeral depth
numeral_flat n = go (leb least_wide n)
  where
    go : (b : Bool) → depth (cond b (wide n) (number n)) ≡ 0
    go true = refl
    go false = refl

digits_most : {n m : ℕ} {s r : List ℕ} → Digits n m s r → n ≤ largest_number → m ≤ largest_number
unfolding follows
digits_most (d_end q) h = h
digits_most (d_more {n} {b} d f k) h = digits_most k (leb-true (10 * n + (b - 48)) largest_number (and-true (leb 1 n) (leb (10 * n + (b - 48)) largest_number)
    f).1)

numeral_good : (l n : ℕ) → n ≤ largest_number → Good l (numeral n)
numeral_good l n h = (numeral_encodable n h, rw (numeral_flat n) (zero-le))

mutual
  unfolding depth depths

  pub text_good : {l : ℕ} {v : Value} {s r : List ℕ} → Text l v s r → Good l v
  text_good (t_false p) = (e_false, omega arith)
  text_good (t_true p) = (e_true, omega arith)
  text_good (t_number {l} {b} {n} p d h e) = rw e at (numeral_good l n (digits_most h (omega (arith, is_digit_lem b d))))
  text_good (t_array p h) = let q = members_good h in (e_list q.0, omega arith)
  text_good (t_object p ha q hb o) = let x = named_good ha in let y = named_good hb in (e_pair x.0 y.0, omega arith)

  named_good : {c l : ℕ} {v : Value} {s r : List ℕ} → Named c l v s r → Good l v
  named_good (named p q h) = text_good h

  members_good : {l : ℕ} {m : Values} {s r : List ℕ} → Members l m s r → Goods l m
  members_good (m_none p) = (e_nil, omega arith)
  members_good (m_some h q) = let x = text_good h in let y = more_good q in (e_cons x.0 y.0, omega arith)

  more_good : {l : ℕ} {m : Values} {s r : List ℕ} → More l m s r → Goods l m
  more_good (o_none p) = (e_nil, omega arith)
  more_good (o_some p h q) = let x = text_good h in let y = more_good q in (e_cons x.0 y.0, omega arith)

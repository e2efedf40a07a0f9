-- Numbers in decimal are read back, and the printer's names are names, each with its own number.
use Rattle.std.specs.Prelude.{◌≡◌, Bool, true, false, ◌&&◌, leb, eqb, length, get_or, drop}
use Rattle.std.proofs.Math.Path.{refl}
use Rattle.std.proofs.Common.{sym, ap, ◌∙◌, arith, leb-true, le-leb, lt-ltb, le-ltb, ne_eqb}
use Rattle.std.proofs.Math.Option.{none, some}
use mathlib.Core.List.{List, [], ◌∷◌}
use Prim.Native.Nat.{ℕ, zero, suc, ◌+◌, ◌*◌, ◌-◌, ◌/◌, ◌%◌, ◌≤◌, ◌<◌}
use Rattle.std.proofs.Math.Decide.{dec_lt, ℕ_discrete}
use Rattle.sheet.specs.Rows.{Every}
use Rattle.tokens.specs.Tokens.{same}
use Rattle.tokens.specs.Same.{and-true, same_self, same_not}
use Rattle.syntax.specs.Reader.{Name, find, words, wild, sent, is_name, value, Valued, is, over}
use Rattle.syntax.specs.Printer.{dec_by, dec, decimal, suffix, name_of, part_name, called}

and-false : (a b : Bool) → b ≡ false → a && b ≡ false
and-false true b e = e
and-false false b e = refl

-- DECIMAL

unfoldable pub limit : ℕ → ℕ
limit zero = 1
limit (suc f) = 10 * limit f

pub below : (n : ℕ) → n < limit n
unfolding limit
below zero = omega arith
below (suc n) = omega (arith, below n)

pub small_dec : (f n : ℕ) (acc : List ℕ) → n < 10 → dec (suc f) n acc ≡ (48 + n) ∷ acc
unfolding dec dec_by
small_dec f n acc h = rw (lt-ltb n 10 h)

pub large_dec : (f n : ℕ) (acc : List ℕ) → (n < 10 → ⊥) → dec (suc f) n acc ≡ dec f (n / 10) ((48 + n % 10) ∷ acc)
unfolding dec dec_by
large_dec f n acc h = rw (le-ltb n 10 (omega arith))

value_step : (most v d n : ℕ) (ds : List ℕ) → 10 * v + (d - 48) ≡ n → n ≤ most → value most v (d ∷ ds) ≡ value most n ds
unfolding value
value_step most v d n ds e h = rw (e, le-leb n most h)

-- read from the left, they are the number
value-dec : (most f n : ℕ) (acc : List ℕ) → n < limit f → n ≤ most → value most 0 (dec f n acc) ≡ value most n acc
unfolding limit dec
value-dec most zero n acc h k = let z : n ≡ 0 = omega arith in rw z
value-dec most (suc f) n acc h k = go (dec_lt n 10) (value-dec most f (n / 10) ((48 + n % 10) ∷ acc))
  where
    go : Dec (n < 10) → (n / 10 < limit f → n / 10 ≤ most → value most 0 (dec f (n / 10) ((48 + n % 10) ∷ acc)) ≡ value most (n / 10) ((48 + n % 10) ∷ acc))
        → value most 0 (dec (suc f) n acc) ≡ value most n acc
    go (yes s) i = rw (small_dec f n acc s) (value_step most 0 (48 + n) n acc (omega arith) k)
    go (no s) i = rw (large_dec f n acc s) (i (omega arith) (omega arith) ∙ value_step most (n / 10) (48 + n % 10) n acc (omega arith) k)

pub value-decimal : (most n : ℕ) → n ≤ most → value most 0 (decimal n) ≡ is n
unfolding decimal limit value
value-decimal most n h = value-dec most (suc n) n [] (omega (arith, below n)) h

-- all are digits
abbrev pub Digit : ℕ → Type 0
Digit d = (48 ≤ d) × (d ≤ 57)

dec_digits : (f n : ℕ) (acc : List ℕ) → Every Digit acc → Every Digit (dec f n acc)
unfolding dec
dec_digits zero n acc h = h
dec_digits (suc f) n acc h = go (dec_lt n 10) (dec_digits f (n / 10) ((48 + n % 10) ∷ acc))
  where
    go : Dec (n < 10) → (Every Digit ((48 + n % 10) ∷ acc) → Every Digit (dec f (n / 10) ((48 + n % 10) ∷ acc))) → Every Digit (dec (suc f) n acc)
    go (yes s) i = rw (small_dec f n acc s) ((omega arith, omega arith), h)
    go (no s) i = rw (large_dec f n acc s) (i ((omega arith, omega arith), h))

pub decimal_digits : (n : ℕ) → Every Digit (decimal n)
unfolding decimal
decimal_digits n = dec_digits (suc n) n [] tt

-- the first of them is 0 only where it stands alone
abbrev pub Lead : List ℕ → Type 0
Lead [] = ⊥
Lead (d ∷ ds) = 48 < d

pub dec_lead : (f n : ℕ) (acc : List ℕ) → n < limit f → 1 ≤ n → Lead (dec f n acc)
unfolding limit
dec_lead zero n acc h k = absurd (omega arith)
dec_lead (suc f) n acc h k = go (dec_lt n 10) (dec_lead f (n / 10) ((48 + n % 10) ∷ acc))
  where
    go : Dec (n < 10) → (n / 10 < limit f → 1 ≤ n / 10 → Lead (dec f (n / 10) ((48 + n % 10) ∷ acc))) → Lead (dec (suc f) n acc)
    go (yes s) i = rw (small_dec f n acc s) (omega arith)
    go (no s) i = rw (large_dec f n acc s) (i (omega arith) (omega arith))

-- there is one at least
pub some_digit : (n : ℕ) → (d : ℕ) × (ds : List ℕ) × (decimal n ≡ d ∷ ds)
some_digit zero = (48, [], (unfold decimal in small_dec 0 0 [] (omega arith)))
some_digit (suc n) = go (decimal (suc n)) refl (unfold decimal limit in dec_lead (suc (suc n)) (suc n) [] (omega (arith, below n)) (omega arith))
  where
    go : (l : List ℕ) → decimal (suc n) ≡ l → Lead (decimal (suc n)) → (d : ℕ) × (ds : List ℕ) × (decimal (suc n) ≡ d ∷ ds)
    go [] e h = absurd (rw e at h)
    go (d ∷ ds) e h = (d, ds, e)

-- NAMES APART

suffix-value : (most q : ℕ) → q ≤ most → value most 0 (suffix q) ≡ is q
unfolding suffix value
suffix-value most zero h = refl
suffix-value most (suc q) h = value-decimal most (suc q) h

is_same : {p q : ℕ} → is p ≡ is q → p ≡ q
is_same {p} e = ap got e
  where
    got : Valued → ℕ
    got (is v) = v
    got (over v) = p

suffix_apart : (p q : ℕ) → suffix p ≡ suffix q → p ≡ q
suffix_apart p q e =
    is_same (sym (suffix-value (p + q) p (omega arith)) ∙ ap (value (p + q) 0) e ∙ suffix-value (p + q) q (omega arith))

decimal_apart : (p q : ℕ) → decimal p ≡ decimal q → p ≡ q
decimal_apart p q e =
    is_same (sym (value-decimal (p + q) p (omega arith)) ∙ ap (value (p + q) 0) e ∙ value-decimal (p + q) q (omega arith))

name_apart : (x y : ℕ) → name_of x ≡ name_of y → x ≡ y
unfolding name_of
name_apart x y e =
    let h : 97 + x % 26 ≡ 97 + y % 26 = ap (λ (w : List ℕ). get_or w 0 0) e in
    let t : x / 26 ≡ y / 26 = suffix_apart (x / 26) (y / 26) (ap (drop 1) e) in
    omega arith

-- a name has no letter behind its first
abbrev late : Name → Bool
late [] = false
late (a ∷ []) = false
late (a ∷ b ∷ w) = leb 58 b

abbrev all_late : List Name → Bool
all_late [] = true
all_late (w ∷ ws) = late w && all_late ws

late_digit : (b : ℕ) (w ds : List ℕ) → 58 ≤ b → Every Digit ds → same (b ∷ w) ds ≡ false
unfolding same
late_digit b w [] h k = refl
late_digit b w (d ∷ ds) h k = rw (ne_eqb b d (λ e. omega (arith, k.0.1)))

late-same : (w : Name) (c : ℕ) (ds : List ℕ) → late w ≡ true → Every Digit ds → same w (c ∷ ds) ≡ false
unfolding same
late-same [] c ds e k = refl
late-same (a ∷ []) c ds e k = let z : ◌≡◌ {A = ℕ} 0 1 = cc in absurd (omega arith)
late-same (a ∷ b ∷ w) c ds e k = and-false (eqb a c) (same (b ∷ w) ds) (late_digit b w ds (leb-true 58 b e) k)

find_late : (ws : List Name) (c : ℕ) (ds : List ℕ) → all_late ws ≡ true → Every Digit ds → find ws (c ∷ ds) ≡ none
unfolding find
find_late [] c ds e k = refl
find_late (w ∷ ws) c ds e k =
    let p = and-true (late w) (all_late ws) e in
    rw (late-same w c ds p.0 k) (find_late ws c ds p.1 k)

pub suffix_digits : (q : ℕ) → Every Digit (suffix q)
unfolding suffix
suffix_digits zero = tt
suffix_digits (suc q) = decimal_digits (suc q)

name_not : (x c : ℕ) (w : List ℕ) → c < 97 → same (name_of x) (c ∷ w) ≡ false
unfolding name_of same
name_not x c w h = rw (ne_eqb (97 + x % 26) c (λ e. omega arith))

name_is : (x : ℕ) → is_name (name_of x) ≡ true
unfolding is_name name_of
name_is x = rw (name_not x 95 [] (omega arith), find_late words (97 + x % 26) (suffix (x / 26)) refl (suffix_digits (x / 26)))

name_sent : (x : ℕ) → name_of x ≡ sent → ⊥
unfolding name_of
name_sent x e =
    let q = late-same sent (97 + x % 26) (suffix (x / 26)) refl (suffix_digits (x / 26)) in
    let s = same_self sent in
    let z : ◌≡◌ {A = ℕ} 0 1 = cc in
    omega arith

pub called_is : (s : Bool) (x : ℕ) → is_name (called s x) ≡ true
unfolding called is_name find same
called_is false x = name_is x
called_is true zero = refl
called_is true (suc x) = name_is (suc x)

pub called-wild : (s : Bool) (x : ℕ) → same (called s x) wild ≡ false
unfolding called same
called-wild false x = name_not x 95 [] (omega arith)
called-wild true zero = refl
called-wild true (suc x) = name_not (suc x) 95 [] (omega arith)

pub part_is : (i : ℕ) → is_name (part_name i) ≡ true
unfolding part_name is_name find same
part_is i = refl

pub called_apart : (s : Bool) (x y : ℕ) → called s x ≡ called s y → x ≡ y
unfolding called
called_apart false x y e = name_apart x y e
called_apart true zero zero e = refl
called_apart true zero (suc y) e = absurd (name_sent (suc y) (sym e))
called_apart true (suc x) zero e = absurd (name_sent (suc x) e)
called_apart true (suc x) (suc y) e = name_apart (suc x) (suc y) e

pub part_apart : (i j : ℕ) → part_name i ≡ part_name j → i ≡ j
unfolding part_name
part_apart i j e = decimal_apart i j (ap (drop 4) e)

-- A STACK OF NAMES, each with its own number

unfoldable pub stack : (ℕ → Name) → ℕ → List Name
stack g zero = []
stack g (suc k) = g k ∷ stack g k

pub stack-length : (g : ℕ → Name) (k : ℕ) → length (stack g k) ≡ k
unfolding stack
stack-length g zero = refl
stack-length g (suc k) = ap suc (stack-length g k)

module _ (g : ℕ → Name) (apart : (x y : ℕ) → g x ≡ g y → x ≡ y) where
  pub find_in : (k x : ℕ) → x < k → find (stack g k) (g x) ≡ some x
  unfolding stack find
  find_in zero x h = absurd (omega arith)
  find_in (suc k) x h = go (ℕ_discrete k x) (find_in k x)
    where
      go : Dec (k ≡ x) → (x < k → find (stack g k) (g x) ≡ some x) → find (g k ∷ stack g k) (g x) ≡ some x
      go (yes e) i = rw (e, same_self (g x), stack-length g x)
      go (no e) i = rw (same_not (g k) (g x) (λ q. e (apart k x q))) (i (omega arith))

  pub find_new : (k x : ℕ) → k ≤ x → find (stack g k) (g x) ≡ none
  unfolding stack find
  find_new zero x h = refl
  find_new (suc k) x h = rw (same_not (g k) (g x) (λ q. let e = apart k x q in omega arith)) (find_new k x (omega arith))

-- What a value's shape tells of the value: which view of it is there, and where its second part starts.
use Rattle.std.specs.Prelude.{◌≡◌, refl, ℕ, ◌+◌, ◌≤◌}
use Rattle.std.proofs.Math.Option.{none, some}
use Rattle.std.proofs.Math.Decide.{dec_le}
use Rattle.std.proofs.Common.{arith}
use Rattle.value.specs.Value.{Value, Values, vfalse, vtrue, list, number, wide, pair, nil, cons, size, Encodable, e_number}
use Rattle.value.specs.Views.{as_front, as_pair, as_number, if_small}
use Rattle.value.specs.Laws.{Readable}
use Rattle.shapes.proofs.PartsLaws.{shape, which, unlike}
use Rattle.shapes.specs.declared.Shape.TheVariants as is

-- a list with members
pub record FrontOf (v : Value) (mid : ℕ) : Type 0 where
  pub first : Value
  pub rest : Values
  pub whole : v ≡ list (cons first rest)
  pub seen : as_front v ≡ some (first, rest, whole)
  pub at : mid ≡ 1 + size first

pub record PairOf (v : Value) (mid : ℕ) : Type 0 where
  pub first : Value
  pub second : Value
  pub whole : v ≡ pair first second
  pub seen : as_pair v ≡ some (first, second, whole)
  pub at : mid ≡ 1 + size first

pub record NumberOf (v : Value) (m : ℕ) : Type 0 where
  pub whole : v ≡ number m
  pub small : m ≤ 65535
  pub seen : as_number v ≡ some (m, whole, small)

pub front_of : (v : Value) {mid : ℕ} → is.Front mid ≡ shape v → FrontOf v mid
unfolding shape which as_front
front_of vfalse e = absurd (unlike (λ z. omega arith) e)
front_of vtrue e = absurd (unlike (λ z. omega arith) e)
front_of (list nil) e = absurd (unlike (λ z. omega arith) e)
front_of (list (cons f r)) e = record { first = f; rest = r; whole = refl; seen = refl; at = cc }
front_of (number n) e = absurd (unlike (λ z. omega arith) e)
front_of (wide n) e = absurd (unlike (λ z. omega arith) e)
front_of (pair a b) e = absurd (unlike (λ z. omega arith) e)

pub no_front : (v : Value) → ((mid : ℕ) → is.Front mid ≡ shape v → ⊥) → as_front v ≡ none
unfolding shape as_front
no_front vfalse n = refl
no_front vtrue n = refl
no_front (list nil) n = refl
no_front (list (cons f r)) n = absurd (n _ refl)
no_front (number k) n = refl
no_front (wide k) n = refl
no_front (pair a b) n = refl

pub pair_of_lem : (v : Value) {mid : ℕ} → is.Pair mid ≡ shape v → PairOf v mid
unfolding shape which as_pair
pair_of_lem vfalse e = absurd (unlike (λ z. omega arith) e)
pair_of_lem vtrue e = absurd (unlike (λ z. omega arith) e)
pair_of_lem (list nil) e = absurd (unlike (λ z. omega arith) e)
pair_of_lem (list (cons f r)) e = absurd (unlike (λ z. omega arith) e)
pair_of_lem (number n) e = absurd (unlike (λ z. omega arith) e)
pair_of_lem (wide n) e = absurd (unlike (λ z. omega arith) e)
pair_of_lem (pair a b) e = record { first = a; second = b; whole = refl; seen = refl; at = cc }

pub no_pair : (v : Value) → ((mid : ℕ) → is.Pair mid ≡ shape v → ⊥) → as_pair v ≡ none
unfolding shape as_pair
no_pair vfalse n = refl
no_pair vtrue n = refl
no_pair (list l) n = refl
no_pair (number k) n = refl
no_pair (wide k) n = refl
no_pair (pair a b) n = absurd (n _ refl)

small : {n : ℕ} → Encodable (number n) → n ≤ 65535
small (e_number h) = h

if_small_lem : (n : ℕ) (d : Dec (n ≤ 65535)) → n ≤ 65535 → (h : n ≤ 65535) × (if_small n d ≡ some (n, refl, h))
unfolding if_small
if_small_lem n (yes h) k = (h, refl)
if_small_lem n (no h) k = absurd (h k)

a_number : (n m : ℕ) → n ≡ m → n ≤ 65535 → NumberOf (number n) m
unfolding as_number
a_number n m e h = rw (← e) (let p = if_small_lem n (dec_le n 65535) h in record { whole = refl; small = p.0; seen = p.1 })

pub number_of : (v : Value) {m : ℕ} → is.Number m ≡ shape v → Readable v → NumberOf v m
unfolding shape which
number_of vfalse e h = absurd (unlike (λ z. omega arith) e)
number_of vtrue e h = absurd (unlike (λ z. omega arith) e)
number_of (list nil) e h = absurd (unlike (λ z. omega arith) e)
number_of (list (cons f r)) e h = absurd (unlike (λ z. omega arith) e)
number_of (number n) {m} e h = a_number n m (cc) (small h.encodable)
number_of (wide n) e h = absurd (unlike (λ z. omega arith) e)
number_of (pair a b) e h = absurd (unlike (λ z. omega arith) e)

pub no_number : (v : Value) → ((m : ℕ) → is.Number m ≡ shape v → ⊥) → as_number v ≡ none
unfolding shape as_number
no_number vfalse n = refl
no_number vtrue n = refl
no_number (list l) n = refl
no_number (number k) n = absurd (n _ refl)
no_number (wide k) n = refl
no_number (pair a b) n = refl

pub empty_of : (v : Value) → is.Empty ≡ shape v → v ≡ list nil
unfolding shape which
empty_of vfalse e = absurd (unlike (λ z. omega arith) e)
empty_of vtrue e = absurd (unlike (λ z. omega arith) e)
empty_of (list nil) e = refl
empty_of (list (cons f r)) e = absurd (unlike (λ z. omega arith) e)
empty_of (number n) e = absurd (unlike (λ z. omega arith) e)
empty_of (wide n) e = absurd (unlike (λ z. omega arith) e)
empty_of (pair a b) e = absurd (unlike (λ z. omega arith) e)

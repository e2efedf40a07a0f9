-- The answer of a get or a put as one number.
use Rattle.std.specs.Prelude.{◌≡◌, Bool, true, false, ℕ, suc, ◌+◌, ◌*◌, ◌/◌, ◌%◌, ◌≤◌, ◌<◌, ltb, Option, MatchOption}
use Rattle.std.proofs.Math.Path.{ap}
use Rattle.std.proofs.Common.{◌∙◌}
use native.Mathlib.Omega.{arith}
use borrow.Author.Tests.{lt-ltb, le-ltb}
use Rattle.refusal.specs.declared.Refusal.{Refusal}
use Rattle.refusal.specs.Refusal.{number_of}

unfoldable pub done_as : (start len steps : ℕ) → ℕ
done_as start len steps = 256 * (len % 65536) + 16777216 * (start % 65536) + 1099511627776 * (steps % 16777216)

-- a refusal for the sake of what the node n wrote
unfoldable pub refused_by : (code n : ℕ) → ℕ
refused_by code n = code + 16777216 * suc n

unfoldable pub code_of : ℕ → ℕ
code_of a = a % 256

unfoldable pub is_refusal : ℕ → Bool
is_refusal a = ltb 0 (a % 256)

-- the low byte is 0 or the number of a refusal
abbrev pub Numbered : ℕ → Type 0
Numbered a = is_refusal a ≡ true → (r : Refusal) × (number_of r ≡ code_of a)

-- the refusal that an answer is; none for a success
abbrev pub Refuses : ℕ → Option Refusal → Type 0
Refuses a r = MatchOption r (is_refusal a ≡ false) (λ x. (is_refusal a ≡ true) × (number_of x ≡ code_of a))

unfoldable pub len_of : ℕ → ℕ
len_of a = (a / 256) % 65536

unfoldable pub start_of : ℕ → ℕ
start_of a = (a / 16777216) % 65536

unfoldable pub steps_of : ℕ → ℕ
steps_of a = (a / 1099511627776) % 16777216

-- a refusal with one node more in its chain
unfoldable pub deeper_as : ℕ → ℕ
deeper_as a = code_of a + 256 * ((len_of a + 1) % 65536) + 16777216 * start_of a

unfoldable later_by : Bool → ℕ → ℕ → ℕ
later_by true a n = a
later_by false a n = done_as (start_of a) (len_of a) (n % 16777216 + steps_of a)

unfoldable pub later_as : ℕ → ℕ → ℕ
unfolding later_by
later_as a n = later_by (is_refusal a) a n

-- LAWS

pub len_small : (a : ℕ) → len_of a < 65536
unfolding len_of
len_small a = omega arith

pub start_small : (a : ℕ) → start_of a < 65536
unfolding start_of
start_small a = omega arith

pub steps_small : (a : ℕ) → steps_of a < 16777216
unfolding steps_of
steps_small a = omega arith

-- a refusal that is made: none of its chain, and no node that wrote
pub small_refusal : {a : ℕ} → 1 ≤ a → a < 256 → (is_refusal a ≡ true) × (code_of a ≡ a) × (len_of a ≡ 0) × (start_of a ≡ 0)
unfolding is_refusal code_of len_of start_of
small_refusal {a} some few = (lt-ltb 0 (a % 256) (omega arith), omega arith, omega arith, omega arith)

-- or one for the sake of what a node wrote
pub refusal_by : {c n : ℕ} → 1 ≤ c → c < 256 → n < 256
    → (is_refusal (refused_by c n) ≡ true) × (code_of (refused_by c n) ≡ c) × (len_of (refused_by c n) ≡ 0) × (start_of (refused_by c n) ≡ suc n)
unfolding refused_by is_refusal code_of len_of start_of
refusal_by {c} {n} some few h = (lt-ltb 0 ((c + 16777216 * suc n) % 256) (omega arith), omega arith, omega arith, omega arith)

-- a refusal with one node more
nodes_made : (a n s : ℕ) → s < 65536 → n < 65535 → len_of (a % 256 + 256 * ((n + 1) % 65536) + 16777216 * s) ≡ suc n
unfolding len_of
nodes_made a n s small few = omega arith

first_made : (a n s : ℕ) → s < 65536 → start_of (a % 256 + 256 * ((n + 1) % 65536) + 16777216 * s) ≡ s
unfolding start_of
first_made a n s small = omega arith

module _ (a : ℕ) where
  code_deeper : code_of (deeper_as a) ≡ code_of a
  unfolding code_of deeper_as
  code_deeper = omega arith

  pub deeper_refusal : is_refusal a ≡ true → (is_refusal (deeper_as a) ≡ true) × (code_of (deeper_as a) ≡ code_of a)
  unfolding is_refusal code_of
  deeper_refusal e = (ap (ltb 0) code_deeper ∙ e, code_deeper)

  pub deeper_nodes : len_of a < 65535 → len_of (deeper_as a) ≡ suc (len_of a)
  unfolding deeper_as code_of
  deeper_nodes h = nodes_made a (len_of a) (start_of a) (start_small a) h

  pub deeper_first : start_of (deeper_as a) ≡ start_of a
  unfolding deeper_as code_of
  deeper_first = first_made a (len_of a) (start_of a) (start_small a)

-- a success that is made
module _ (start len steps : ℕ) where
  code_done : code_of (done_as start len steps) ≡ 0
  unfolding code_of done_as
  code_done = omega arith

  pub done_there : is_refusal (done_as start len steps) ≡ false
  unfolding is_refusal code_of
  done_there = let z = code_done in le-ltb 0 (done_as start len steps % 256) (omega arith)

  module _ (h : start < 65536) (k : len < 65536) (few : steps < 16777216) where
    pub len_done : len_of (done_as start len steps) ≡ len
    unfolding len_of done_as
    len_done = omega arith

    pub start_done : start_of (done_as start len steps) ≡ start
    unfolding start_of done_as
    start_done = omega arith

    pub steps_done : steps_of (done_as start len steps) ≡ steps
    unfolding steps_of done_as
    steps_done = omega arith

-- what `later` answers
module _ (a n : ℕ) where
  pub later_refused : is_refusal a ≡ true → later_as a n ≡ a
  unfolding later_as later_by
  later_refused e = ap (λ (q : Bool). later_by q a n) e

  pub later_done : is_refusal a ≡ false → later_as a n ≡ done_as (start_of a) (len_of a) (n % 16777216 + steps_of a)
  unfolding later_as later_by
  later_done e = ap (λ (q : Bool). later_by q a n) e

-- after as many steps, by another name
pub later_as_lem : (a : ℕ) {n m r : ℕ} → n ≡ m → r ≡ later_as a n → r ≡ later_as a m
later_as_lem a e h = h ∙ ap (later_as a) e

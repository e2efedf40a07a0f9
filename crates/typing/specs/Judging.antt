-- The judging reading of get and put: the explaining one, and a refusal of a value that is not what it had to be has that value too.
use Rattle.std.proofs.Math.Option.{Option, none, some}
use Rattle.std.specs.Prelude.{◌∷◌, ℕ, zero, suc, ◌+◌, ◌-◌}
use Rattle.value.specs.Value.{Value}
use Rattle.rules.specs.Semantics
use Rattle.rules.specs.Semantics.{Reading}
use Rattle.rules.specs.Explain.{Cause, own, barred, Cell}

-- what was done, or why it was refused and the value that was judged, with the steps taken
pub data Judged (A : Type 0) : Type 0 where
  has : A → ℕ → Judged A
  lacks : Cause → Option Value → ℕ → Judged A

-- for each allowance that is left
abbrev pub Judging : Type 0 → Type 0
Judging A = ℕ → Judged A

module _ {A : Type 0} where
  unfoldable pub more : ℕ → Judged A → Judged A
  more s (has a t) = has a (s + t)
  more s (lacks y v t) = lacks y v (s + t)

  -- below the node n
  unfoldable pub below : ℕ → Judged A → Judged A
  below n (has a s) = has a (1 + s)
  below n (lacks y v s) = lacks (record { code = y.code; chain = n ∷ y.chain; first = y.first }) v (1 + s)

  unfoldable pub entered : ℕ → Judging A → Judging A
  entered n m zero = lacks (barred 41 n) none 0
  entered n m (suc left) = below n (m left)

  unfoldable pub choice : {P Q : Type 0} → Dec P → Dec Q → Judging A → Judging A → Judging A
  choice (yes p) q x y = x
  choice (no p) (yes q) x y = y
  choice (no p) (no q) x y = λ _. lacks (own 53 none) none 0

module _ {A B : Type 0} where
  unfoldable pub follow : Judged A → (A → ℕ → Judged B) → Judged B
  follow (has a s) k = more s (k a s)
  follow (lacks y v s) k = lacks y v s

  unfoldable pub next : Judging A → (A → Judging B) → Judging B
  next m f = λ left. follow (m left) λ a s. f a (left - s)

  unfoldable pub wanted : Cause → Option Value → Option A → (A → Judging B) → Judging B
  wanted y v none f = λ _. lacks y v 0
  wanted y v (some a) f = f a

abbrev pub judging : Reading
judging = record {
  M = Judging;
  give = λ a _. has a 0;
  bind = next;
  given = λ c. wanted (own c none) none;
  seen = λ c v. wanted (own c none) (some v);
  choose = choice;
  enter = entered;
  deep = λ n _. lacks (barred 40 n) none 0;
  Cell = Cell;
  mark = λ n v. record { value = v; by = n };
  held = λ w. w.value;
  clash = λ w. wanted (own 54 (some w.by)) none;
}

abbrev pub Cells : Type 0
Cells = Semantics.Cells judging

abbrev pub Getter : Type 0
Getter = Semantics.Getter judging

abbrev pub Putter : Type 0
Putter = Semantics.Putter judging

-- The explaining reading of get and put: the allowance is paid on entering each node, and a refusal says where it was met.
pub mod Erasure
pub mod Calls
pub mod Chain
use Rattle.std.proofs.Math.Option.{Option, none, some}
use Rattle.std.specs.Prelude.{List, [], ◌∷◌, ℕ, zero, suc, ◌+◌, ◌-◌}
use Rattle.value.specs.Value.{Value, Values}
use Rattle.node.specs.declared.Node.{Node}
use Rattle.sheet.specs.Sheet.{Sheet}
use Rattle.rules.specs.Semantics
use Rattle.rules.specs.Semantics.{Reading, Env}

-- a refusal's number; the nodes from the one where the walk began down to the one that it was met at, which is at a depth of as many;
-- and for 54 the node that wrote the variable first
pub record Cause : Type 0 where
  pub code : ℕ
  pub chain : List ℕ
  pub first : Option ℕ

-- what was done or why it was refused, with the steps taken
pub data Exit (A : Type 0) : Type 0 where
  got : A → ℕ → Exit A
  met : Cause → ℕ → Exit A

-- for each allowance that is left
abbrev pub Explained : Type 0 → Type 0
Explained A = ℕ → Exit A

-- a refusal of the node's own rule: no node below it is named
abbrev pub own : ℕ → Option ℕ → Cause
own c w = record { code = c; chain = []; first = w }

-- the node n could not be entered
abbrev pub barred : ℕ → ℕ → Cause
barred c n = record { code = c; chain = n ∷ []; first = none }

module _ {A : Type 0} where
  unfoldable pub more : ℕ → Exit A → Exit A
  more s (got a t) = got a (s + t)
  more s (met y t) = met y (s + t)

  -- below the node n
  unfoldable pub below : ℕ → Exit A → Exit A
  below n (got a s) = got a (1 + s)
  below n (met y s) = met (record { code = y.code; chain = n ∷ y.chain; first = y.first }) (1 + s)

  unfoldable pub entered : ℕ → Explained A → Explained A
  entered n m zero = met (barred 41 n) 0
  entered n m (suc left) = below n (m left)

  unfoldable pub choice : {P Q : Type 0} → Dec P → Dec Q → Explained A → Explained A → Explained A
  choice (yes p) q x y = x
  choice (no p) (yes q) x y = y
  choice (no p) (no q) x y = λ _. met (own 53 none) 0

-- with so many steps left
abbrev pub within : {A : Type 0} → ℕ → Explained A → Exit A
within left m = m left

module _ {A B : Type 0} where
  unfoldable pub follow : Exit A → (A → ℕ → Exit B) → Exit B
  follow (got a s) k = more s (k a s)
  follow (met y s) k = met y s

  unfoldable pub next : Explained A → (A → Explained B) → Explained B
  next m f = λ left. follow (m left) λ a s. f a (left - s)

  unfoldable pub wanted : Cause → Option A → (A → Explained B) → Explained B
  wanted y none f = λ _. met y 0
  wanted y (some a) f = f a

-- a value and the node that wrote it
pub record Cell : Type 0 where
  pub value : Value
  pub by : ℕ

abbrev pub explaining : Reading
explaining = record {
  M = Explained;
  give = λ a _. got a 0;
  bind = next;
  given = λ c. wanted (own c none);
  seen = λ c v. wanted (own c none);
  choose = choice;
  enter = entered;
  deep = λ n _. met (barred 40 n) 0;
  Cell = Cell;
  mark = λ n v. record { value = v; by = n };
  held = λ w. w.value;
  clash = λ w. wanted (own 54 (some w.by));
}

-- THE TEXT in this reading, and what it is made of, by the names that they have there

infixl 20 ◌>>=◌
abbrev pub give : {A : Type 0} → A → Explained A
give a = explaining.give a

abbrev pub ◌>>=◌ : {A B : Type 0} → Explained A → (A → Explained B) → Explained B
m >>= f = next m f

abbrev pub given : {A B : Type 0} → ℕ → Option A → (A → Explained B) → Explained B
given c o f = wanted (own c none) o f

abbrev pub choose : {A P Q : Type 0} → Dec P → Dec Q → Explained A → Explained A → Explained A
choose p q x y = choice p q x y

abbrev pub Cells : Type 0
Cells = Semantics.Cells explaining

abbrev pub Getter : Type 0
Getter = Semantics.Getter explaining

abbrev pub Putter : Type 0
Putter = Semantics.Putter explaining

abbrev pub bounded : Value → Explained Value
bounded = Semantics.bounded explaining

abbrev pub tested : ℕ → Explained Value → Explained Value
tested = Semantics.tested explaining

abbrev pub get_each : Getter → (root : ℕ) → Value → ℕ → Values → Explained Values
get_each = Semantics.get_each explaining

abbrev pub get_node : Getter → Sheet → Node → Env → Explained Value
get_node = Semantics.get_node explaining

abbrev pub get : ℕ → Sheet → Getter
get = Semantics.get explaining

abbrev pub or_old : Option Cell → Value → Value
or_old = Semantics.or_old explaining

abbrev pub constant : Value → Value → Cells → Explained Cells
constant = Semantics.constant explaining

abbrev pub write : ℕ → ℕ → Value → Cells → Option Cell → Explained Cells
write n = Semantics.write explaining (explaining.mark n)

abbrev pub both : Putter → Env → List ℕ → Cells → ℕ → Value → ℕ → Value → Explained Cells
both = Semantics.both explaining

abbrev pub under : Putter → Env → List ℕ → Cells → ℕ → Value → ℕ → (Value → Value → Option Value) → Value → Value → Explained Cells
under = Semantics.under explaining

abbrev pub stood_for : Getter → (d : ℕ) → Values → Explained Value
stood_for = Semantics.stood_for explaining

abbrev pub put_each : Getter → Putter → (root d c : ℕ) → Value → ℕ → Values → Values → Cells → Explained (Values × Cells)
put_each = Semantics.put_each explaining

-- by the node n
abbrev pub put_node : ℕ → Getter → Putter → Sheet → Node → Env → List ℕ → Value → Cells → Explained Cells
put_node n = Semantics.put_node explaining (explaining.mark n)

abbrev pub put : ℕ → Sheet → Putter
put = Semantics.put explaining

-- What every get and put keeps, in any reading whose operations keep it: one induction over the kinds of node. With it, a cell once written
-- stays as it is through every put.
use Rattle.std.specs.Prelude.{◌≡◌, get_or}
use Rattle.std.proofs.Math.Option.{Option, none, some}
use Prim.Native.Nat.{ℕ, suc}
use Rattle.value.specs.Value.{Value}
use Rattle.node.specs.declared.Node.{Node}
use Rattle.node.specs.declared.Node.TheVariants.{False}
use Rattle.sheet.specs.Sheet.{Sheet}
use Rattle.rules.specs.Semantics.{Reading}
use Rattle.rules.specs.Nodes.{entries, ◌∈◌, Way, out, back, MayRefuse, MayAsk}

-- `Rule w nd l Q m`: m, an outcome of the rule of nd with l levels below it, is as it should be, and Q holds of what was done. `Walk w l n Q m`:
-- the same of the node n, entered with l levels left. `In` are the nodes that it speaks of, `By` what they write
pub record Invariant (R : Reading) (sh : Sheet) : Type 1 where
  pub In : ℕ → Type 0
  pub By : R.Cell → Type 0
  pub Rule : Way → Node → ℕ → {A : Type 0} → (A → Type 0) → R.M A → Type 0
  pub Walk : Way → ℕ → ℕ → {A : Type 0} → (A → Type 0) → R.M A → Type 0
  pub gives : {w : Way} {nd : Node} {l : ℕ} {A : Type 0} {Q : A → Type 0} (a : A) → Q a → Rule w nd l Q (R.give a)
  pub binds : {w : Way} {nd : Node} {l : ℕ} {A B : Type 0} {P : A → Type 0} {Q : B → Type 0} {m : R.M A} {k : A → R.M B} → Rule w nd l P m
      → ((a : A) → P a → Rule w nd l Q (k a)) → Rule w nd l Q (R.bind m k)
  pub givens : {w : Way} {nd : Node} {l : ℕ} {A B : Type 0} {Q : B → Type 0} (c : ℕ) (o : Option A) {k : A → R.M B} → (o ≡ none → MayAsk w nd c)
      → ((a : A) → o ≡ some a → Rule w nd l Q (k a)) → Rule w nd l Q (R.given c o k)
  pub sees : {w : Way} {nd : Node} {l : ℕ} {A B : Type 0} {Q : B → Type 0} (c : ℕ) (v : Value) (o : Option A) {k : A → R.M B} → MayAsk w nd c
      → ((a : A) → Rule w nd l Q (k a)) → Rule w nd l Q (R.seen c v o k)
  pub chooses : {w : Way} {nd : Node} {l : ℕ} {A P S : Type 0} {Q : A → Type 0} (p : Dec P) (s : Dec S) {x y : R.M A} → MayRefuse w nd 53
      → Rule w nd l Q x → Rule w nd l Q y → Rule w nd l Q (R.choose p s x y)
  pub clashes : {w : Way} {nd : Node} {l : ℕ} {A B : Type 0} {Q : B → Type 0} (c : R.Cell) (o : Option A) {k : A → R.M B} → MayRefuse w nd 54 → By c
      → ((a : A) → Rule w nd l Q (k a)) → Rule w nd l Q (R.clash c o k)
  pub enters : {w : Way} {l : ℕ} {A : Type 0} {Q : A → Type 0} {m : R.M A} (n : ℕ) → In n → Rule w (get_or sh.nodes n False) l Q m
      → Walk w (suc l) n Q (R.enter n m)
  pub deeps : {w : Way} {A : Type 0} {Q : A → Type 0} (n : ℕ) → In n → Walk w 0 n Q (R.deep n)
  pub goes : {w : Way} {nd : Node} {l n : ℕ} {A : Type 0} {Q : A → Type 0} {m : R.M A} → n ∈ entries sh nd → Walk w l n Q m → Rule w nd l Q m
  pub looks : {nd : Node} {l n : ℕ} {A : Type 0} {Q : A → Type 0} {m : R.M A} → n ∈ entries sh nd → Walk out l n Q m → Rule back nd l Q m
  pub marks : (n : ℕ) (v : Value) → In n → By (R.mark n v)
  pub leads : {n m : ℕ} → In n → m ∈ entries sh (get_or sh.nodes n False) → In m

abbrev pub Any : {A : Type 0} → A → Type 0
Any a = Unit {0}

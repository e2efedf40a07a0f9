-- A sheet that holds another one, its nodes and sections under other numbers, gets and puts the held nodes as the other does: in any two
-- readings of the text that are related.
use Rattle.std.specs.Prelude.{◌≡◌, get_or}
use Rattle.std.proofs.Math.Option
use Rattle.std.proofs.Math.Option.{Option}
use Prim.Native.Nat.{ℕ}
use Rattle.value.specs.Value.{Value}
use Rattle.node.specs.declared.Node.TheVariants.{False}
use Rattle.node.specs.Kinds.{children, calls}
use Rattle.sheet.specs.Renumbering.{renumber}
use Rattle.sheet.specs.Sheet.{Sheet}
use Rattle.sheet.specs.Rows.{Every}
use Rattle.rules.specs.Semantics.{Reading}

-- TWO SHEETS

-- section i of sh, whose root is among the nodes P, is section g i of sh'
pub record Sent (P : ℕ → Type 0) (f g : ℕ → ℕ) (sh sh' : Sheet) (i : ℕ) : Type 0 where
  pub root : P (get_or sh.sections i 0)
  pub same : get_or sh'.sections (g i) 0 ≡ f (get_or sh.sections i 0)

-- sh' holds the nodes P of sh: node n as node f n and section i as section g i. No node of P leads out of P
pub record Holds (P : ℕ → Type 0) (f g : ℕ → ℕ) (sh sh' : Sheet) : Type 0 where
  pub node : (n : ℕ) → P n → get_or sh'.nodes (f n) False ≡ renumber f g (get_or sh.nodes n False)
  pub below : (n : ℕ) → P n → Every P (children (get_or sh.nodes n False))
  pub called : (n : ℕ) → P n → Every (Sent P f g sh sh') (calls (get_or sh.nodes n False))

-- TWO READINGS, of which the second has the number f n for the node n. `Rel h m o`: m in the first is o in the second, where h is done to
-- what was done
pub record Relates (R S : Reading) (f : ℕ → ℕ) : Type 1 where
  pub Rel : {A B : Type 0} → (A → B) → R.M A → S.M B → Type 0
  pub cell : R.Cell → S.Cell
  pub gives : {A B : Type 0} (h : A → B) (a : A) → Rel h (R.give a) (S.give (h a))
  pub binds : {A B C D : Type 0} {h : A → C} {u : B → D} {m : R.M A} {o : S.M C} {k : A → R.M B} (j : C → S.M D) → Rel h m o
      → ((a : A) → Rel u (k a) (j (h a))) → Rel u (R.bind m k) (S.bind o j)
  pub givens : {A B C D : Type 0} (h : A → C) {u : B → D} (c : ℕ) (o : Option A) (p : Option C) {k : A → R.M B} (j : C → S.M D) → p ≡ Option.map h o
      → ((a : A) → Rel u (k a) (j (h a))) → Rel u (R.given c o k) (S.given c p j)
  pub sees : {A B D : Type 0} {u : B → D} (c : ℕ) (v : Value) (o : Option A) {k : A → R.M B} (j : A → S.M D) → ((a : A) → Rel u (k a) (j a))
      → Rel u (R.seen c v o k) (S.seen c v o j)
  pub chooses : {A B P Q : Type 0} {h : A → B} (p : Dec P) (q : Dec Q) {x y : R.M A} {u v : S.M B} → Rel h x u → Rel h y v
      → Rel h (R.choose p q x y) (S.choose p q u v)
  pub enters : {A B : Type 0} {h : A → B} (n : ℕ) {m : R.M A} {o : S.M B} → Rel h m o → Rel h (R.enter n m) (S.enter (f n) o)
  pub deeps : {A B : Type 0} (h : A → B) (n : ℕ) → Rel h (R.deep n) (S.deep (f n))
  pub marks : (n : ℕ) (v : Value) → S.mark (f n) v ≡ cell (R.mark n v)
  pub helds : (w : R.Cell) → S.held (cell w) ≡ R.held w
  pub clashes : {A B D : Type 0} {u : B → D} (w : R.Cell) (o : Option A) {k : A → R.M B} (j : A → S.M D) → ((a : A) → Rel u (k a) (j a))
      → Rel u (R.clash w o k) (S.clash (cell w) o j)

abbrev pub itself : {A : Type 0} → A → A
itself a = a

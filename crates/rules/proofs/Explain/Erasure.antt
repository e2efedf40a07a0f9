-- The explaining reading, its chains forgotten, is the counting one within the allowance.
use Rattle.std.specs.Prelude.{◌≡◌, List}
use Rattle.std.proofs.Math.Path.{refl, ap, sym}
use Rattle.std.proofs.Common.{◌∙◌}
use Rattle.std.proofs.Math.Option
use Rattle.std.proofs.Math.Option.{Option, none, some}
use Prim.Native.Nat.{ℕ, zero, suc, ◌-◌, ◌≤◌}
use native.Mathlib.Omega.{arith}
use Rattle.value.specs.Value.{Value, Values}
use Rattle.node.specs.declared.Node.{Node}
use Rattle.node.specs.Kinds.{children, calls}
use Rattle.sheet.specs.Sheet.{Sheet}
use Rattle.sheet.proofs.Rows.{renumbered_same}
use Rattle.rules.specs.Outcome.{Out, done, refused, plus, steps, ◌>>=◌, given, choose}
use Rattle.rules.specs.Allowance.{within}
use Rattle.rules.proofs.Laws.Allowances.{chain, within_yes, within-plus, within_none, within_bind, within-done}
use Rattle.rules.specs.Semantics
use Rattle.rules.specs.Semantics.{Env}
use Rattle.rules.specs.Counting as Count
use Rattle.rules.specs.Counting.{counting}
use Rattle.rules.specs.Explain as Explain
use Rattle.rules.specs.Explain.{Cause, Exit, got, met, Explained, more, below, entered, choice, follow, next, wanted, Cell, explaining, own, barred}
use Rattle.rules.specs.Laws.Embedding.{Relates}
use Rattle.rules.proofs.Laws.Embedding.{held_itself, every_any, get_held, get_each_held, get_node_held, put_held, put_each_held, put_node_held}
use Rattle.rules.proofs.Laws.Embedding.{old_held}
use Rattle.rules.specs.Explain.Erasure.{forget, Erases, value_of, strip}

free : {B : Type 0} (o : Out B) → steps o ≡ 0 → (left : ℕ) → within left o ≡ o
free o e left = within_yes left o (omega arith)

module _ {A B : Type 0} (f : A → B) where
  forget-below : (n : ℕ) (t : Exit A) → forget f (below n t) ≡ plus 1 (forget f t)
  unfolding forget below plus
  forget-below n (got a s) = refl
  forget-below n (met y s) = refl

  forget-more : (s : ℕ) (t : Exit A) → forget f (more s t) ≡ plus s (forget f t)
  unfolding forget more plus
  forget-more s (got a t) = refl
  forget-more s (met y t) = refl

module _ {A B : Type 0} {f : A → B} where
  erases_give : (a : A) → Erases f (λ _. got a 0) (done (f a) 0)
  unfolding forget steps
  erases_give a = record { same = λ left. sym (free (done (f a) 0) refl left) }

  erases_met : (y : Cause) (c : ℕ) → y.code ≡ c → Erases f (λ _. met y 0) (refused c 0)
  unfolding forget steps
  erases_met y c e = record { same = λ left. rw (free (refused c 0) refl left) (ap (λ z. refused z 0) e) }

  erases_enter : {m : Explained A} {o : Out B} (n : ℕ) → Erases f m o → Erases f (entered n m) (plus 1 o)
  unfolding entered forget
  erases_enter {m} {o} n h = record { same = go }
    where
      go : (left : ℕ) → forget f (entered n m left) ≡ within left (plus 1 o)
      go zero = sym (within_none o)
      go (suc left) = forget-below f n (m left) ∙ ap (plus 1) (h.same left)
          ∙ (let z : suc left - 1 ≡ left = omega arith in rw z at (sym (within-plus (suc left) 1 o (omega arith))))

  erases_choose : {P Q : Type 0} (p : Dec P) (q : Dec Q) {x y : Explained A} {u v : Out B} → Erases f x u → Erases f y v
      → Erases f (choice p q x y) (choose p q u v)
  unfolding choice choose
  erases_choose (yes p) q h k = h
  erases_choose (no p) (yes q) h k = k
  erases_choose (no p) (no q) h k = erases_met (own 53 none) 53 refl

module _ {A B C D : Type 0} {f : A → C} {h : B → D} where
  erases_bind : {m : Explained A} {o : Out C} {k : A → Explained B} (j : C → Out D) → Erases f m o → ((a : A) → Erases h (k a) (j (f a)))
      → Erases h (next m k) (o >>= j)
  unfolding next forget follow chain
  erases_bind {m} {o} {k} j e c =
      record { same = λ left. go left (m left) ∙ ap (λ x. chain x (λ x s. within (left - s) (j x))) (e.same left) ∙ sym (within_bind left o j) }
    where
      go : (left : ℕ) (t : Exit A) → forget h (follow t (λ a s. k a (left - s))) ≡ chain (forget f t) (λ x s. within (left - s) (j x))
      go left (got a s) = forget-more h s (k a (left - s)) ∙ ap (plus s) ((c a).same (left - s))
      go left (met y s) = refl

module _ {A B C D : Type 0} (f : A → C) {h : B → D} where
  -- what is there, seen by both
  erases_given : (y : Cause) (c : ℕ) → y.code ≡ c → (o : Option A) (p : Option C) {k : A → Explained B} (j : C → Out D) → p ≡ Option.map f o
      → ((a : A) → Erases h (k a) (j (f a))) → Erases h (wanted y o k) (given c p j)
  unfolding wanted given
  erases_given y c e none p j q g = rw q (erases_met y c e)
  erases_given y c e (some a) p j q g = rw q (g a)

module _ {A B D : Type 0} {h : B → D} where
  erases_same : (y : Cause) (c : ℕ) → y.code ≡ c → (o : Option A) {k : A → Explained B} (j : A → Out D) → ((a : A) → Erases h (k a) (j a))
      → Erases h (wanted y o k) (given c o j)
  unfolding wanted given
  erases_same y c e none j g = erases_met y c e
  erases_same y c e (some a) j g = g a

-- THE TWO READINGS, of one sheet
abbrev erasing : Relates explaining counting (λ n. n)
erasing = record {
  Rel = Erases;
  cell = λ w. w.value;
  gives = λ h a. erases_give a;
  binds = erases_bind;
  givens = λ h c o p j e k. erases_given h (own c none) c refl o p j e k;
  sees = λ c v o j k. erases_same (own c none) c refl o j k;
  chooses = erases_choose;
  enters = λ n e. erases_enter n e;
  deeps = λ h n. erases_met (barred 40 n) 40 refl;
  marks = λ n v. refl;
  helds = λ w. refl;
  clashes = λ w o j k. erases_same (own 54 (some w.by)) 54 refl o j k;
}

-- GET

abbrev same_value : Value → Value
same_value v = v

abbrev Gets : Explain.Getter → Count.Getter → Type 0
Gets g k = (n : ℕ) (μ : Env) → Erases same_value (g n μ) (k n μ)

module _ (g : Explain.Getter) (k : Count.Getter) (ih : Gets g k) (sh : Sheet) (μ : Env) where
  pub get_each_erases : (root : ℕ) (a : Value) (n : ℕ) (l : Values) → Erases (λ ws. ws) (Semantics.get_each explaining g root a n l)
      (Semantics.get_each counting k root a n l)
  get_each_erases root a n l = get_each_held erasing (held_itself sh) g k (λ m ν _. ih m ν) μ root tt a n l

  pub get_node_erases : (nd : Node) → Erases same_value (Semantics.get_node explaining g sh nd μ) (Semantics.get_node counting k sh nd μ)
  get_node_erases nd = rw (renumbered_same nd) at (get_node_held erasing (held_itself sh) g k (λ m ν _. ih m ν) μ nd
      (every_any (children nd) (λ c. tt)) (every_any (calls nd) (λ i. record { root = tt; same = refl })))

pub get_erases : (l : ℕ) (sh : Sheet) → Gets (Explain.get l sh) (Count.get l sh)
get_erases l sh n μ = get_held erasing (held_itself sh) l n μ tt

pub old_strip : (o : Option Cell) (v : Value) → Semantics.or_old counting (value_of o) v ≡ Semantics.or_old explaining o v
old_strip o v = old_held erasing o v

abbrev Puts : Explain.Putter → Count.Putter → Type 0
Puts p q = (n : ℕ) (μ : Env) (σ : List ℕ) (v : Value) (W : Explain.Cells) → Erases strip (p n μ σ v W) (q n μ σ v (strip W))

module _ (g : Explain.Getter) (k : Count.Getter) (gets : Gets g k) (p : Explain.Putter) (q : Count.Putter) (ih : Puts p q) (sh : Sheet)
    (μ : Env) (σ : List ℕ) (v : Value) (W : Explain.Cells) where
  pub put_each_erases : (root d c : ℕ) (a : Value) (n : ℕ) (old l : Values) (X : Explain.Cells) → Erases (λ t. (t.0, strip t.1))
      (Semantics.put_each explaining g p root d c a n old l X) (Semantics.put_each counting k q root d c a n old l (strip X))
  put_each_erases root d c a n old l X =
      put_each_held erasing (held_itself sh) g k (λ m ν _. gets m ν) p q (λ m ν τ u Y _. ih m ν τ u Y) μ σ v W root d c tt tt a n old l X

  pub put_node_erases : (n : ℕ) (nd : Node)
      → Erases strip (Semantics.put_node explaining (explaining.mark n) g p sh nd μ σ v W) (Semantics.put_node counting (λ w. w) k q sh nd μ σ v (strip W))
  put_node_erases n nd = rw (renumbered_same nd) at (put_node_held erasing (held_itself sh) g k (λ m ν _. gets m ν) p q (λ m ν τ u Y _. ih m ν τ u Y)
      μ σ v W n nd (every_any (children nd) (λ c. tt)) (every_any (calls nd) (λ i. record { root = tt; same = refl })))

pub put_erases : (l : ℕ) (sh : Sheet) → Puts (Explain.put l sh) (Count.put l sh)
put_erases l sh n μ σ v W = put_held erasing (held_itself sh) l n μ σ v W tt

-- no more steps are taken than are left
pub erases_few : {A B : Type 0} (f : A → B) {m : Explained A} {o : Out B} {left : ℕ} {a : A} {s : ℕ} → Erases f m o → m left ≡ got a s → s ≤ left
unfolding forget
erases_few f {m} {o} {left} {a} {s} h e = (within-done left o (sym (h.same left) ∙ ap (forget f) e)).1

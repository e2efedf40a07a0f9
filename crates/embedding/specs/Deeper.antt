-- A walk that succeeds with some levels is the same walk with more of them.
use Rattle.std.specs.Prelude.{◌≡◌, refl, List}
use Rattle.std.proofs.Common.{ap, ◌∙◌, arith}
use Rattle.std.proofs.Math.Option.{Option, none, some, map}
use Prim.Native.Nat.{ℕ, zero, suc, ◌+◌, ◌≤◌}
use Rattle.std.proofs.Math.ListN.{get_or}
use Rattle.value.specs.Value.{Value}
use Rattle.node.specs.declared.Node.TheVariants.{False}
use Rattle.sheet.specs.Sheet.{Sheet}
use Rattle.rules.specs.Outcome.{Out, done, refused, plus, ◌>>=◌, given, choose}
use Rattle.rules.specs.Semantics
use Rattle.rules.specs.Counting.{Env, Cells, counting, get, put}
use Rattle.rules.specs.Laws.Embedding.{Relates, itself}
use Rattle.rules.proofs.Laws.Embedding.{held_itself, cells_same, cells, get_node_held, put_node_held}

-- what is done stays done, with the same steps
data Keeps {A B : Type 0} (h : A → B) : Out A → Out B → Type 0 where
  made : (a : A) (s : ℕ) → Keeps h (done a s) (done (h a) s)
  lost : (c s : ℕ) (o : Out B) → Keeps h (refused c s) o

module _ {A B : Type 0} {h : A → B} where
  keeps_plus : (s : ℕ) {m : Out A} {o : Out B} → Keeps h m o → Keeps h (plus s m) (plus s o)
  unfolding plus
  keeps_plus s (made a t) = made a (s + t)
  keeps_plus s (lost c t o) = lost c (s + t) (plus s o)

  keeps_choose : {P Q : Type 0} (p : Dec P) (q : Dec Q) {x y : Out A} {u v : Out B} → Keeps h x u → Keeps h y v → Keeps h (choose p q x y) (choose p q u v)
  unfolding choose
  keeps_choose (yes p) q e k = e
  keeps_choose (no p) (yes q) e k = k
  keeps_choose (no p) (no q) e k = lost 53 0 _

module _ {A B C D : Type 0} {h : A → C} {u : B → D} where
  keeps_bind : {m : Out A} {o : Out C} {k : A → Out B} (j : C → Out D) → Keeps h m o → ((a : A) → Keeps u (k a) (j (h a))) → Keeps u (m >>= k) (o >>= j)
  unfolding ◌>>=◌
  keeps_bind j (made a s) e = keeps_plus s (e a)
  keeps_bind j (lost c s o) e = lost c s (o >>= j)

module _ {A B C D : Type 0} (h : A → C) {u : B → D} where
  keeps_given : (c : ℕ) (o : Option A) (p : Option C) {k : A → Out B} (j : C → Out D) → p ≡ map h o
      → ((a : A) → Keeps u (k a) (j (h a))) → Keeps u (given c o k) (given c p j)
  unfolding given
  keeps_given c none p j e k = lost c 0 (given c p j)
  keeps_given c (some a) p j e k = rw e (k a)

keeps_asked : {A B D : Type 0} {u : B → D} (c : ℕ) (o : Option A) {k : A → Out B} (j : A → Out D) → ((a : A) → Keeps u (k a) (j a))
    → Keeps u (given c o k) (given c o j)
unfolding given
keeps_asked c none j k = lost c 0 (given c none j)
keeps_asked c (some a) j k = k a

abbrev keeping : Relates counting counting itself
keeping = record {
  Rel = Keeps;
  cell = itself;
  gives = λ h a. made a 0;
  binds = keeps_bind;
  givens = λ h c o p j e k. keeps_given h c o p j e k;
  sees = λ c v. keeps_asked c;
  chooses = keeps_choose;
  enters = λ n e. keeps_plus 1 e;
  deeps = λ h n. lost 40 0 (refused 40 0);
  marks = λ n v. refl;
  helds = λ w. refl;
  clashes = λ w. keeps_asked 54;
}

keeps_done : {A : Type 0} {h : A → A} → ((a : A) → h a ≡ a) → {m o : Out A} {a : A} {s : ℕ} → Keeps h m o → m ≡ done a s → o ≡ done a s
keeps_done e (made b t) q = ap (λ z. done z t) (e b) ∙ q
keeps_done e (lost c t o) q = let z : ◌≡◌ {A = ℕ} 0 1 = cc in absurd (omega arith)

module _ (sh : Sheet) where
  get_keeps : (l m : ℕ) → l ≤ m → (n : ℕ) (μ : Env) → Unit {0} → Keeps itself (get l sh n μ) (get m sh n μ)
  unfolding Semantics.get
  get_keeps zero m h n μ p = lost 40 0 (get m sh n μ)
  get_keeps (suc l) zero h n μ p = absurd (omega arith)
  get_keeps (suc l) (suc m) h n μ p =
      let nd = get_or sh.nodes n False in
      keeps_plus 1 (rw (← (held_itself sh).node n tt) at (get_node_held keeping (held_itself sh) _ _ (get_keeps l m (omega arith)) μ nd
      ((held_itself sh).below n tt) ((held_itself sh).called n tt)))

  put_keeps : (l m : ℕ) → l ≤ m → (n : ℕ) (μ : Env) (σ : List ℕ) (v : Value) (W : Cells) → Unit {0}
      → Keeps (cells keeping) (put l sh n μ σ v W) (put m sh n μ σ v (cells keeping W))
  unfolding Semantics.put
  put_keeps zero m h n μ σ v W p = lost 40 0 (put m sh n μ σ v (cells keeping W))
  put_keeps (suc l) zero h n μ σ v W p = absurd (omega arith)
  put_keeps (suc l) (suc m) h n μ σ v W p =
      let nd = get_or sh.nodes n False in
      keeps_plus 1 (rw (← (held_itself sh).node n tt) at
      (put_node_held keeping (held_itself sh) (get l sh) (get m sh) (get_keeps l m (omega arith)) (put l sh) (put m sh)
      (put_keeps l m (omega arith)) μ σ v W n nd ((held_itself sh).below n tt) ((held_itself sh).called n tt)))

  pub get_deeper : {l m : ℕ} (n : ℕ) (μ : Env) {v : Value} {s : ℕ} → l ≤ m → get l sh n μ ≡ done v s → get m sh n μ ≡ done v s
  get_deeper n μ h e = keeps_done (λ a. refl) (get_keeps _ _ h n μ tt) e

  pub put_deeper : {l m : ℕ} (n : ℕ) (μ : Env) (σ : List ℕ) (v : Value) (W : Cells) {X : Cells} {s : ℕ} → l ≤ m → put l sh n μ σ v W ≡ done X s
      → put m sh n μ σ v W ≡ done X s
  put_deeper {l} {m} n μ σ v W h e = rw (cells_same W) at (keeps_done cells_same (put_keeps l m h n μ σ v W tt) e)

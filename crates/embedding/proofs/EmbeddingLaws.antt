-- A sheet that holds another one, in each reading: the same outcomes with the same steps, and explanations in the new numbers.
use Rattle.std.specs.Prelude.{◌≡◌, List}
use Rattle.std.proofs.Math.Path.{refl}
use Rattle.std.proofs.Math.Option
use Rattle.std.proofs.Math.Option.{Option, none, some}
use Prim.Native.Nat.{ℕ, zero, suc, ◌+◌, ◌-◌}
use Rattle.value.specs.Value.{Value}
use Rattle.sheet.specs.Sheet.{Sheet}
use Rattle.rules.specs.Semantics.{Env}
use Rattle.rules.specs.Explain as Explain
use Rattle.rules.specs.Explain.{Cause, Exit, got, met, Explained, more, below, entered, choice, follow, next, wanted, Cell, explaining, own}
use Rattle.rules.specs.Laws.Embedding.{Holds, Relates, itself}
use Rattle.rules.proofs.Laws.Embedding.{get_held, put_held}
use Rattle.embedding.specs.EmbeddingLaws.{why_anew, cell_anew, cells_anew, told_anew}

-- EXPLAINING: the nodes of the chain and the first writer have their new numbers

module _ (f : ℕ → ℕ) where
  data Retold {A B : Type 0} (h : A → B) : Exit A → Exit B → Type 0 where
    says : (a : A) (s : ℕ) → Retold h (got a s) (got (h a) s)
    ends : (y : Cause) (s : ℕ) → Retold h (met y s) (met (why_anew f y) s)

  record Renamed {A B : Type 0} (h : A → B) (m : Explained A) (o : Explained B) : Type 0 where
    at : (left : ℕ) → Retold h (m left) (o left)

  module _ {A B : Type 0} {h : A → B} where
    retold_more : (s : ℕ) {m : Exit A} {o : Exit B} → Retold h m o → Retold h (more s m) (more s o)
    unfolding more
    retold_more s (says a t) = says a (s + t)
    retold_more s (ends y t) = ends y (s + t)

    retold_below : (n : ℕ) {m : Exit A} {o : Exit B} → Retold h m o → Retold h (below n m) (below (f n) o)
    unfolding below
    retold_below n (says a t) = says a (1 + t)
    retold_below n (ends y t) = ends _ (1 + t)

    renamed_enter : (n : ℕ) {m : Explained A} {o : Explained B} → Renamed h m o → Renamed h (entered n m) (entered (f n) o)
    unfolding entered
    renamed_enter n {m} {o} e = record { at = go }
      where
        go : (left : ℕ) → Retold h (entered n m left) (entered (f n) o left)
        go zero = ends _ 0
        go (suc left) = retold_below n (e.at left)

    renamed_choose : {P Q : Type 0} (p : Dec P) (q : Dec Q) {x y : Explained A} {u v : Explained B} → Renamed h x u → Renamed h y v
        → Renamed h (choice p q x y) (choice p q u v)
    unfolding choice
    renamed_choose (yes p) q e k = e
    renamed_choose (no p) (yes q) e k = k
    renamed_choose (no p) (no q) e k = record { at = λ left. ends (own 53 none) 0 }

    retold_is : {m : Exit A} {o : Exit B} → Retold h m o → o ≡ told_anew f h m
    unfolding told_anew
    retold_is (says a s) = refl
    retold_is (ends y s) = refl

  module _ {A B C D : Type 0} {h : A → C} {u : B → D} where
    renamed_bind : {m : Explained A} {o : Explained C} {k : A → Explained B} (j : C → Explained D) → Renamed h m o
        → ((a : A) → Renamed u (k a) (j (h a))) → Renamed u (next m k) (next o j)
    unfolding next follow
    renamed_bind {m} {o} {k} j e c = record { at = λ left. go left (e.at left) }
      where
        go : (left : ℕ) {x : Exit A} {y : Exit C} → Retold h x y → Retold u (follow x (λ a s. k a (left - s))) (follow y (λ a s. j a (left - s)))
        go left (says a s) = retold_more s ((c a).at (left - s))
        go left (ends y s) = ends y s

  module _ {A B C D : Type 0} (h : A → C) {u : B → D} where
    renamed_given : (y : Cause) (o : Option A) (p : Option C) {k : A → Explained B} (j : C → Explained D) → p ≡ Option.map h o
        → ((a : A) → Renamed u (k a) (j (h a))) → Renamed u (wanted y o k) (wanted (why_anew f y) p j)
    unfolding wanted
    renamed_given y none p j e k = rw e (record { at = λ left. ends y 0 })
    renamed_given y (some a) p j e k = rw e (k a)

  module _ {A B D : Type 0} {u : B → D} where
    renamed_asked : (y : Cause) (o : Option A) {k : A → Explained B} (j : A → Explained D) → ((a : A) → Renamed u (k a) (j a))
        → Renamed u (wanted y o k) (wanted (why_anew f y) o j)
    unfolding wanted
    renamed_asked y none j k = record { at = λ left. ends y 0 }
    renamed_asked y (some a) j k = k a

  abbrev explains : Relates explaining explaining f
  explains = record {
    Rel = Renamed;
    cell = cell_anew f;
    gives = λ h a. record { at = λ left. says a 0 };
    binds = renamed_bind;
    givens = λ h c o p j e k. renamed_given h (own c none) o p j e k;
    sees = λ c v o j k. renamed_asked (own c none) o j k;
    chooses = renamed_choose;
    enters = renamed_enter;
    deeps = λ h n. record { at = λ left. ends _ 0 };
    marks = λ n v. refl;
    helds = λ w. refl;
    clashes = λ w o j k. renamed_asked (own 54 (some w.by)) o j k;
  }

module _ {P : ℕ → Type 0} {f g : ℕ → ℕ} {sh sh' : Sheet} (held : Holds P f g sh sh') where
  -- THE LAW, explaining, for every allowance
  pub get_explained : (l n : ℕ) (μ : Env) → P n → (left : ℕ) → Explain.get l sh' (f n) μ left ≡ told_anew f itself (Explain.get l sh n μ left)
  get_explained l n μ p left = retold_is f ((get_held (explains f) held l n μ p).at left)

  pub put_explained : (l n : ℕ) (μ : Env) (σ : List ℕ) (v : Value) (W : Explain.Cells) → P n → (left : ℕ)
      → Explain.put l sh' (f n) μ σ v (cells_anew f W) left ≡ told_anew f (cells_anew f) (Explain.put l sh n μ σ v W left)
  put_explained l n μ σ v W p left = retold_is f ((put_held (explains f) held l n μ σ v W p).at left)

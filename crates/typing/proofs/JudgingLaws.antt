-- The judging reading, its values forgotten, is the explaining one.
use Rattle.std.specs.Prelude.{◌≡◌, List}
use Rattle.std.proofs.Math.Path.{refl, ap}
use Rattle.std.proofs.Common.{sym}
use Rattle.std.proofs.Math.Option.{Option, none, some, map}
use Prim.Native.Nat.{ℕ, zero, suc, ◌+◌, ◌-◌}
use Rattle.value.specs.Value.{Value}
use Rattle.sheet.specs.Sheet.{Sheet}
use Rattle.rules.specs.Semantics
use Rattle.rules.specs.Semantics.{Env}
use Rattle.rules.specs.Explain as Explain
use Rattle.rules.specs.Explain.{Cause, own, barred, Exit, got, met, Explained, explaining}
use Rattle.rules.specs.Laws.Embedding.{Relates, itself}
use Rattle.rules.proofs.Laws.Embedding.{cells_same, held_itself, get_held, put_held}
use Rattle.typing.specs.Judging as Judge
use Rattle.typing.specs.Judging.{Judged, has, lacks, Judging, judging, Cells}

unfoldable pub drop : {A : Type 0} → Judged A → Exit A
drop (has a s) = got a s
drop (lacks y v s) = met y s

pub record Same {A : Type 0} (m : Judging A) (o : Explained A) : Type 0 where
  pub same : (left : ℕ) → drop (m left) ≡ o left

-- THE TWO READINGS, of one sheet: the same is told, with h of what was done
data Tells {A B : Type 0} (h : A → B) : Judged A → Exit B → Type 0 where
  says : (a : A) (s : ℕ) → Tells h (has a s) (got (h a) s)
  ends : (y : Cause) (v : Option Value) (s : ℕ) → Tells h (lacks y v s) (met y s)

record Drops {A B : Type 0} (h : A → B) (m : Judging A) (o : Explained B) : Type 0 where
  at : (left : ℕ) → Tells h (m left) (o left)

module _ {A B : Type 0} {h : A → B} where
  told_more : (s : ℕ) {m : Judged A} {o : Exit B} → Tells h m o → Tells h (Judge.more s m) (Explain.more s o)
  unfolding Judge.more Explain.more
  told_more s (says a t) = says a (s + t)
  told_more s (ends y v t) = ends y v (s + t)

  told_below : (n : ℕ) {m : Judged A} {o : Exit B} → Tells h m o → Tells h (Judge.below n m) (Explain.below n o)
  unfolding Judge.below Explain.below
  told_below n (says a t) = says a (1 + t)
  told_below n (ends y v t) = ends _ v (1 + t)

  drops_enter : (n : ℕ) {m : Judging A} {o : Explained B} → Drops h m o → Drops h (Judge.entered n m) (Explain.entered n o)
  unfolding Judge.entered Explain.entered
  drops_enter n {m} {o} e = record { at = go }
    where
      go : (left : ℕ) → Tells h (Judge.entered n m left) (Explain.entered n o left)
      go zero = ends _ none 0
      go (suc left) = told_below n (e.at left)

  drops_choose : {P Q : Type 0} (p : Dec P) (q : Dec Q) {x y : Judging A} {u v : Explained B} → Drops h x u → Drops h y v
      → Drops h (Judge.choice p q x y) (Explain.choice p q u v)
  unfolding Judge.choice Explain.choice
  drops_choose (yes p) q e k = e
  drops_choose (no p) (yes q) e k = k
  drops_choose (no p) (no q) e k = record { at = λ left. ends (own 53 none) none 0 }

module _ {A B C D : Type 0} {h : A → C} {u : B → D} where
  drops_bind : {m : Judging A} {o : Explained C} {k : A → Judging B} (j : C → Explained D) → Drops h m o
      → ((a : A) → Drops u (k a) (j (h a))) → Drops u (Judge.next m k) (Explain.next o j)
  unfolding Judge.next Explain.next Judge.follow Explain.follow
  drops_bind {m} {o} {k} j e c = record { at = λ left. go left (e.at left) }
    where
      go : (left : ℕ) {x : Judged A} {y : Exit C} → Tells h x y
          → Tells u (Judge.follow x (λ a s. k a (left - s))) (Explain.follow y (λ a s. j a (left - s)))
      go left (says a s) = told_more s ((c a).at (left - s))
      go left (ends y v s) = ends y v s

module _ {A B C D : Type 0} (h : A → C) {u : B → D} where
  drops_given : (y : Cause) (o : Option A) (p : Option C) {k : A → Judging B} (j : C → Explained D) → p ≡ map h o
      → ((a : A) → Drops u (k a) (j (h a))) → Drops u (Judge.wanted y none o k) (Explain.wanted y p j)
  unfolding Judge.wanted Explain.wanted
  drops_given y none p j e k = rw e (record { at = λ left. ends y none 0 })
  drops_given y (some a) p j e k = rw e (k a)

module _ {A B D : Type 0} {u : B → D} where
  drops_asked : (y : Cause) (v : Option Value) (o : Option A) {k : A → Judging B} (j : A → Explained D) → ((a : A) → Drops u (k a) (j a))
      → Drops u (Judge.wanted y v o k) (Explain.wanted y o j)
  unfolding Judge.wanted Explain.wanted
  drops_asked y v none j k = record { at = λ left. ends y v 0 }
  drops_asked y v (some a) j k = k a

abbrev dropping : Relates judging explaining (λ n. n)
dropping = record {
  Rel = Drops;
  cell = itself;
  gives = λ h a. record { at = λ left. says a 0 };
  binds = drops_bind;
  givens = λ h c o p j e k. drops_given h (own c none) o p j e k;
  sees = λ c v o j k. drops_asked (own c none) (some v) o j k;
  chooses = drops_choose;
  enters = drops_enter;
  deeps = λ h n. record { at = λ left. ends (barred 40 n) none 0 };
  marks = λ n v. refl;
  helds = λ w. refl;
  clashes = λ w o j k. drops_asked (own 54 (some w.by)) none o j k;
}

-- done to what was done, h changes nothing
module _ {A : Type 0} {h : A → A} (e : (a : A) → h a ≡ a) where
  told_is : {m : Judged A} {o : Exit A} → Tells h m o → drop m ≡ o
  unfolding drop
  told_is (says a s) = ap (λ z. got z s) (sym (e a))
  told_is (ends y v s) = refl

  drops_same : {m : Judging A} {o : Explained A} → Drops h m o → Same m o
  drops_same d = record { same = λ left. told_is (d.at left) }

abbrev Gets : Judge.Getter → Explain.Getter → Type 0
Gets g k = (n : ℕ) (μ : Env) → Same (g n μ) (k n μ)

pub get_same : (l : ℕ) (sh : Sheet) → Gets (Semantics.get judging l sh) (Semantics.get explaining l sh)
get_same l sh n μ = drops_same (λ a. refl) (get_held dropping (held_itself sh) l n μ tt)

-- the cells of both are the same
abbrev Puts : Judge.Putter → Explain.Putter → Type 0
Puts p q = (n : ℕ) (μ : Env) (σ : List ℕ) (v : Value) (W : Cells) → Same (p n μ σ v W) (q n μ σ v W)

pub put_same : (l : ℕ) (sh : Sheet) → Puts (Semantics.put judging l sh) (Semantics.put explaining l sh)
put_same l sh n μ σ v W = rw (cells_same W) at (drops_same cells_same (put_held dropping (held_itself sh) l n μ σ v W tt))

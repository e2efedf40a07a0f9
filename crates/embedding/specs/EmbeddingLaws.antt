-- A sheet that holds another one, in each reading: the same outcomes with the same steps, and explanations in the new numbers.
use Rattle.std.specs.Prelude.{◌≡◌, List, map}
use Rattle.std.proofs.Math.Path.{refl}
use Rattle.std.proofs.Common.{ap}
use Rattle.std.proofs.Math.Option
use Rattle.std.proofs.Math.Option.{Option, none, some}
use Prim.Native.Nat.{ℕ, ◌+◌}
use Rattle.value.specs.Value.{Value}
use Rattle.sheet.specs.Sheet.{Sheet}
use Rattle.rules.specs.Outcome.{Out, done, refused, plus, ◌>>=◌, given, choose}
use Rattle.rules.specs.Semantics.{Env}
use Rattle.rules.specs.Counting.{counting, Cells, get, put}
use Rattle.rules.specs.Explain as Explain
use Rattle.rules.specs.Explain.{Cause, Exit, got, met, Explained, more, below, entered, choice, follow, next, wanted, Cell, explaining, own}
use Rattle.rules.specs.Laws.Embedding.{Holds, Relates, itself}
use Rattle.rules.proofs.Laws.Embedding.{cells_same, get_held, put_held}

-- COUNTING: no number of a node stands in an outcome, so it is the same one, with h of what was done

data Alike {A B : Type 0} (h : A → B) : Out A → Out B → Type 0 where
  made : (a : A) (s : ℕ) → Alike h (done a s) (done (h a) s)
  stop : (c s : ℕ) → Alike h (refused c s) (refused c s)

module _ {A B : Type 0} {h : A → B} where
  alike_plus : (s : ℕ) {m : Out A} {o : Out B} → Alike h m o → Alike h (plus s m) (plus s o)
  unfolding plus
  alike_plus s (made a t) = made a (s + t)
  alike_plus s (stop c t) = stop c (s + t)

  alike_choose : {P Q : Type 0} (p : Dec P) (q : Dec Q) {x y : Out A} {u v : Out B} → Alike h x u → Alike h y v → Alike h (choose p q x y) (choose p q u v)
  unfolding choose
  alike_choose (yes p) q e k = e
  alike_choose (no p) (yes q) e k = k
  alike_choose (no p) (no q) e k = stop 53 0

module _ {A B C D : Type 0} {h : A → C} {u : B → D} where
  alike_bind : {m : Out A} {o : Out C} {k : A → Out B} (j : C → Out D) → Alike h m o → ((a : A) → Alike u (k a) (j (h a))) → Alike u (m >>= k) (o >>= j)
  unfolding ◌>>=◌
  alike_bind j (made a s) e = alike_plus s (e a)
  alike_bind j (stop c s) e = stop c s

module _ {A B C D : Type 0} (h : A → C) {u : B → D} where
  alike_given : (c : ℕ) (o : Option A) (p : Option C) {k : A → Out B} (j : C → Out D) → p ≡ Option.map h o
      → ((a : A) → Alike u (k a) (j (h a))) → Alike u (given c o k) (given c p j)
  unfolding given
  alike_given c none p j e k = rw e (stop c 0)
  alike_given c (some a) p j e k = rw e (k a)

alike_asked : {A B D : Type 0} {u : B → D} (c : ℕ) (o : Option A) {k : A → Out B} (j : A → Out D) → ((a : A) → Alike u (k a) (j a))
    → Alike u (given c o k) (given c o j)
unfolding given
alike_asked c none j k = stop c 0
alike_asked c (some a) j k = k a

abbrev counts : (f : ℕ → ℕ) → Relates counting counting f
counts f = record {
  Rel = Alike;
  cell = itself;
  gives = λ h a. made a 0;
  binds = alike_bind;
  givens = λ h c o p j e k. alike_given h c o p j e k;
  sees = λ c v. alike_asked c;
  chooses = alike_choose;
  enters = λ n e. alike_plus 1 e;
  deeps = λ h n. stop 40 0;
  marks = λ n v. refl;
  helds = λ w. refl;
  clashes = λ w. alike_asked 54;
}

-- done to what was done, h changes nothing
alike_is : {A : Type 0} {h : A → A} → ((a : A) → h a ≡ a) → {m o : Out A} → Alike h m o → o ≡ m
alike_is e (made a s) = ap (λ z. done z s) (e a)
alike_is e (stop c s) = refl

module _ {P : ℕ → Type 0} {f g : ℕ → ℕ} {sh sh' : Sheet} (held : Holds P f g sh sh') where
  -- THE LAW, counting
  pub get_embedded : (l n : ℕ) (μ : Env) → P n → get l sh' (f n) μ ≡ get l sh n μ
  get_embedded l n μ p = alike_is (λ a. refl) (get_held (counts f) held l n μ p)

  pub put_embedded : (l n : ℕ) (μ : Env) (σ : List ℕ) (v : Value) (W : Cells) → P n → put l sh' (f n) μ σ v W ≡ put l sh n μ σ v W
  put_embedded l n μ σ v W p = rw (cells_same W) at (alike_is cells_same (put_held (counts f) held l n μ σ v W p))

-- EXPLAINING: the nodes of the chain and the first writer have their new numbers

module _ (f : ℕ → ℕ) where
  abbrev pub why_anew : Cause → Cause
  why_anew y = record { code = y.code; chain = map f y.chain; first = Option.map f y.first }

  abbrev pub cell_anew : Cell → Cell
  cell_anew w = record { value = w.value; by = f w.by }

  abbrev pub cells_anew : Explain.Cells → Explain.Cells
  cells_anew W = map (Option.map cell_anew) W

  module _ {A B : Type 0} where
    unfoldable pub told_anew : (A → B) → Exit A → Exit B
    told_anew h (got a s) = got (h a) s
    told_anew h (met y s) = met (why_anew y) s

-- No more steps are taken than are left.
use Rattle.std.proofs.Math.Path.{◌≡◌, refl}
use Rattle.std.proofs.Math.Option.{Option, none, some}
use Rattle.std.specs.Prelude.{List, [], ℕ, ◌+◌, ◌-◌, ◌≤◌}
use native.Mathlib.Omega.{arith}
use Rattle.value.specs.Value.{Value, Values, vfalse}
use Rattle.node.specs.declared.Node.{Node}
use Rattle.sheet.specs.Sheet.{Sheet}
use Rattle.rules.specs.Semantics.{Env}
use Rattle.rules.specs.Counting
use Rattle.rules.specs.Explain.{
  Cause,
  Exit,
  got,
  met,
  Explained,
  more,
  follow,
  next,
  wanted,
  within,
  give,
  Cells,
  get,
  put,
  get_node,
  get_each,
  put_each,
  put_node,
}
use Rattle.rules.specs.Explain.Erasure.{strip}
use Rattle.rules.proofs.Explain.Erasure.{erases_few, get_erases, put_erases, get_node_erases, get_each_erases, put_each_erases, put_node_erases}

pub record Frugal {A : Type 0} (m : Explained A) : Type 0 where
  pub few : (left : ℕ) {a : A} {s : ℕ} → within left m ≡ got a s → s ≤ left

module _ {A : Type 0} where
  pub frugal_give : (a : A) → Frugal (give a)
  frugal_give a = record { few = λ left {s = s} e. let z : 0 ≡ s = cc in omega arith }

  pub frugal_met : (y : Cause) → Frugal {A = A} (λ _. met y 0)
  frugal_met y = record { few = λ left e. absurd (let z : ◌≡◌ {A = ℕ} 0 1 = cc in omega arith) }

module _ {B : Type 0} where
  more_few : (k left : ℕ) (t : Exit B) {b : B} {s : ℕ} → k ≤ left → ((n : ℕ) → t ≡ got b n → n ≤ left - k) → more k t ≡ got b s → s ≤ left
  unfolding more
  more_few k left (got c n) {b} {s} h f e =
      let z : k + n ≡ s = cc in
      let y : c ≡ b = cc in
      let x = f n (rw y refl) in
      omega arith
  more_few k left (met y n) h f e = absurd (let z : ◌≡◌ {A = ℕ} 0 1 = cc in omega arith)

module _ {A B : Type 0} where
  pub frugal_next : {m : Explained A} {f : A → Explained B} → Frugal m → ((a : A) → Frugal (f a)) → Frugal (next m f)
  unfolding next follow
  frugal_next {m} {f} h k = record { few = λ left e. go left (m left) refl e }
    where
      go : (left : ℕ) (t : Exit A) → m left ≡ t → {b : B} {s : ℕ} → follow t (λ a s. f a (left - s)) ≡ got b s → s ≤ left
      go left (got a s) d e = more_few s left (f a (left - s)) (h.few left d) (λ _ q. (k a).few (left - s) q) e
      go left (met y s) d e = absurd (let z : ◌≡◌ {A = ℕ} 0 1 = cc in omega arith)

  pub frugal_given : (y : Cause) (o : Option A) {f : A → Explained B} → ((a : A) → Frugal (f a)) → Frugal (wanted y o f)
  unfolding wanted
  frugal_given y none h = frugal_met y
  frugal_given y (some a) h = h a

-- of a node that is entered, and of the rule of one
module _ (l : ℕ) (sh : Sheet) where
  pub get_frugal : (n : ℕ) (μ : Env) → Frugal (get l sh n μ)
  get_frugal n μ = record { few = λ left e. erases_few (λ v. v) (get_erases l sh n μ) e }

  pub get_node_frugal : (nd : Node) (μ : Env) → Frugal (get_node (get l sh) sh nd μ)
  get_node_frugal nd μ = record { few = λ left e. erases_few (λ v. v) (get_node_erases _ _ (get_erases l sh) sh μ nd) e }

  pub get_each_frugal : (root : ℕ) (a : Value) (n : ℕ) (ms : Values) → Frugal (get_each (get l sh) root a n ms)
  get_each_frugal root a n ms = record { few = λ left e. erases_few (λ v. v) (get_each_erases _ _ (get_erases l sh) sh [] root a n ms) e }

  pub put_frugal : (n : ℕ) (μ : Env) (σ : List ℕ) (v : Value) (W : Cells) → Frugal (put l sh n μ σ v W)
  put_frugal n μ σ v W = record { few = λ left e. erases_few strip (put_erases l sh n μ σ v W) e }

  pub put_each_frugal : (root d c : ℕ) (a : Value) (n : ℕ) (old us : Values) (X : Cells) → Frugal (put_each (get l sh) (put l sh) root d c a n old us X)
  put_each_frugal root d c a n old us X = record {
    few = λ left e. erases_few (λ t. (t.0, strip t.1))
        (put_each_erases _ _ (get_erases l sh) _ (Counting.put l sh) (put_erases l sh) sh [] [] vfalse [] root d c a n old us X) e;
  }

  pub put_node_frugal : (n : ℕ) (nd : Node) (μ : Env) (σ : List ℕ) (v : Value) (W : Cells) → Frugal (put_node n (get l sh) (put l sh) sh nd μ σ v W)
  put_node_frugal n nd μ σ v W =
      record { few = λ left e. erases_few strip (put_node_erases _ _ (get_erases l sh) _ (Counting.put l sh) (put_erases l sh) sh μ σ v W n nd) e }

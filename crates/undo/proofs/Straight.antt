-- Sheets that choose nothing: no node that a walk can reach is a 17, 18 or 1C (document 02, request 13). Every get of one node then takes as many steps.
use Rattle.std.specs.Prelude.{T, get_or}
use Rattle.std.proofs.Math.Path.{refl}
use Prim.Native.Nat.{ℕ, zero, suc}
use native.Mathlib.Omega.{arith}
use Rattle.node.specs.declared.Node.{Node}
use Rattle.node.specs.declared.Node.TheVariants.{Var, False, True, Empty, Number, Front, Pair, ListCase, TruthCase, Split, Call, Add, Each, Wide}
use Rattle.node.specs.Kinds.{children, calls}
use Rattle.sheet.specs.Sheet.{Sheet}
use Rattle.rules.specs.Semantics
use Rattle.rules.specs.Counting.{Env, Getter, get_node, get}
use Rattle.rules.specs.Laws.Outcomes.{stopped}
use Rattle.rules.proofs.Laws.Outcomes.{fine, after_map, after_plus, after_bind, after_given}
use Rattle.undo.proofs.Alike.{every}
use Rattle.undo.specs.Straight.{Straight, straight, Closed, Reached, called, child, InStep}

-- and so where no record of the file is one of them
pub all_straight : (sh : Sheet) → ((n : ℕ) → T (straight (get_or sh.nodes n False))) → Straight sh
all_straight sh h n r = h n

pub reached_closed : (sh : Sheet) → Straight sh → (n : ℕ) → Reached sh n → Closed (Reached sh) sh (get_or sh.nodes n False)
reached_closed sh h n r = record {
  kind = h n r;
  below = every (Reached sh) _ λ c s. child r s;
  roots = every (λ s. Reached sh (get_or sh.sections s 0)) _ λ c s. called r s;
}

module _ (P : ℕ → Type 0) where
  abbrev pub Paced : Getter → Type 0
  Paced g = (n : ℕ) → P n → (μ : Env) → InStep (g n) (g n μ)

  module _ (g : Getter) (ih : Paced g) (sh : Sheet) (μ : Env) where
    node_paced : (nd : Node) → Closed P sh nd → InStep (get_node g sh nd) (get_node g sh nd μ)
    unfolding Semantics.get_node Semantics.bounded children calls
    node_paced (Var x) c = after_given _ λ a _. fine λ ν. after_given _ λ b _. fine refl
    node_paced False c = fine λ ν. fine refl
    node_paced True c = fine λ ν. fine refl
    node_paced Empty c = fine λ ν. fine refl
    node_paced (Number n) c = fine λ ν. fine refl
    node_paced (Wide n) c = fine λ ν. fine refl
    node_paced (Front a b) c = after_bind (ih a c.below.0 μ) λ f i _ hf. after_bind (ih b c.below.1.0 μ) λ r j _ hr.
        after_given _ λ _ _. after_given _ λ _ _. fine λ ν. after_bind (hf ν) λ f' i' _ ei. after_bind (hr ν) λ r' j' _ ej.
        after_given _ λ _ _. after_given _ λ _ _. fine (omega arith)
    node_paced (Pair a b) c = after_bind (ih a c.below.0 μ) λ f i _ hf. after_bind (ih b c.below.1.0 μ) λ r j _ hr.
        after_given _ λ _ _. fine λ ν. after_bind (hf ν) λ f' i' _ ei. after_bind (hr ν) λ r' j' _ ej. after_given _ λ _ _. fine (omega arith)
    node_paced (ListCase s b tb n tn df dr) c = absurd c.kind
    node_paced (TruthCase s f tf t t₁) c = absurd c.kind
    node_paced (Split s b) c = after_bind (ih s c.below.0 μ) λ o i _ hs. after_given _ λ q _. after_map (ih b c.below.1.0 _) λ v j hb. λ ν.
        after_bind (hs ν) λ o' i' _ ei. after_given _ λ q' _. after_map (hb _) λ v' j' ej. omega arith
    node_paced (Call sec x y) c = after_given _ λ a _. after_given _ λ b _. after_map (ih _ c.roots.0 _) λ v s h. λ ν.
        after_given _ λ a' _. after_given _ λ b' _. h _
    node_paced (Add n k) c = after_bind (ih n c.below.0 μ) λ o i _ h. after_given _ λ _ _. after_given _ λ _ _.
        fine λ ν. after_bind (h ν) λ o' i' _ e. after_given _ λ _ _. after_given _ λ _ _. fine (omega arith)
    node_paced (Each s sec x d) c = absurd c.kind

  pub get_paced : (l : ℕ) (sh : Sheet) → ((n : ℕ) → P n → Closed P sh (get_or sh.nodes n False)) → Paced (get l sh)
  unfolding Semantics.get
  get_paced zero sh k n q μ = stopped tt
  get_paced (suc l) sh k n q μ = after_plus 1 (after_map (node_paced (get l sh) (get_paced l sh k) sh μ _ (k n q)) λ v s h. λ ν.
      after_plus 1 (after_map (h ν) λ u t e. omega arith))

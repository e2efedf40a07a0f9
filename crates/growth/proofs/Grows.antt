-- How a walk's value grows with one variable, for sheets of 10 to 16, 1B and 1D (document 02, request 14).
use Rattle.std.specs.Prelude.{◌≡◌, refl, [], ◌∷◌, T, get_or}
use Rattle.std.proofs.Common.{sym, ◌∙◌, arith, eq-eqb, ne_eqb}
use Rattle.std.proofs.Math.Path.{ap}
use Rattle.std.proofs.Math.Option.{some, none-ne-some, some-injective}
use Prim.Native.Nat.{ℕ, zero, suc, ◌+◌, ◌*◌, ◌≤◌}
use Rattle.std.proofs.Math.Decide.{ℕ_discrete}
use Rattle.std.proofs.Math.ListN.{get_elem?}
use Rattle.value.specs.Value.{Value, vfalse, size}
use Rattle.value.proofs.Encoding.{size_pos}
use Rattle.node.specs.declared.Node.{Node}
use Rattle.node.specs.declared.Node.TheVariants.{Var, False, True, Empty, Number, Front, Pair, ListCase, TruthCase, Split, Call, Add, Each, Wide}
use Rattle.node.specs.Kinds.{children, variables}
use Rattle.sheet.specs.Sheet.{Sheet}
use Rattle.sheet.specs.Laws.{Ranges}
use Rattle.rules.specs.Outcome.{Out}
use Rattle.rules.specs.Semantics
use Rattle.rules.specs.Counting.{Env, Getter, get_node, get}
use Rattle.rules.specs.Laws.Outcomes.{After, stopped}
use Rattle.rules.proofs.Laws.Outcomes.{fine, after_map, after_plus, after_bind, after_given}
use Rattle.growth.specs.Growth.{plain, own, total, entered}
use Rattle.growth.proofs.Counts.{entered_at}

-- the two plans have the same in every variable but x
abbrev pub OnlyAt : ℕ → Env → Env → Type 0
OnlyAt x μ ν = (y : ℕ) → (y ≡ x → ⊥) → get_elem? μ y ≡ get_elem? ν y

at_get_d : (μ : Env) (x : ℕ) {v : Value} → get_elem? μ x ≡ some v → get_or μ x vfalse ≡ v
at_get_d [] x e = absurd (none-ne-some _ e)
at_get_d (w ∷ μ) zero e = some-injective _ _ e
at_get_d (w ∷ μ) (suc x) e = at_get_d μ x e

-- a 10 record is for x, or not
own_is : (x : ℕ) → own x (Var x) ≡ 1
unfolding own variables
own_is x = rw (eq-eqb x x refl)

own_not : (x y : ℕ) → (y ≡ x → ⊥) → own x (Var y) ≡ 0
unfolding own variables
own_not x y h = rw (ne_eqb y x h)

-- r counts; A and B are the sizes of the two values
abbrev Grown : (A B r : ℕ) → Value → Value → Type 0
Grown A B r v u = size u + r * A ≡ size v + r * B

abbrev pub Grows : (A B r : ℕ) → Out Value → Out Value → Type 0
Grows A B r o q = After (Unit {0}) (λ v s. After (Unit {0}) (λ u t. Grown A B r v u) q) o

module _ (x : ℕ) (μ ν : Env) (only : OnlyAt x μ ν) (r : ℕ → ℕ) (g : Getter)
    (ih : (n : ℕ) → Grows (size (get_or μ x vfalse)) (size (get_or ν x vfalse)) (r n) (g n μ) (g n ν)) (sh : Sheet) where
  var_grows : (y : ℕ) (v u : Value) → get_elem? μ y ≡ some v → get_elem? ν y ≡ some u → Dec (y ≡ x)
      → Grown (size (get_or μ x vfalse)) (size (get_or ν x vfalse)) (own x (Var y) + 0) v u
  var_grows y v u ev eu (yes q) =
      let a : get_or μ x vfalse ≡ v = at_get_d μ x (rw q at ev) in let b : get_or ν x vfalse ≡ u = at_get_d ν x (rw q at eu) in
      rw (q, own_is, a, b) (omega arith)
  var_grows y v u ev eu (no q) =
      let e : v ≡ u = some-injective _ _ (sym ev ∙ only y q ∙ eu) in
      rw (own_not x y q, e) (omega arith)

  node_grows : (nd : Node) → T (plain nd)
      → Grows (size (get_or μ x vfalse)) (size (get_or ν x vfalse)) (own x nd + total r (children nd)) (get_node g sh nd μ) (get_node g sh nd ν)
  unfolding Semantics.get_node Semantics.bounded size children own variables
  node_grows (Var y) p = after_given _ λ v ev. fine (after_given _ λ u eu. fine (var_grows y v u ev eu (ℕ_discrete y x)))
  node_grows False p = fine (fine (omega arith))
  node_grows True p = fine (fine (omega arith))
  node_grows Empty p = fine (fine (omega arith))
  node_grows (Number n) p = fine (fine (omega arith))
  node_grows (Wide n) p = fine (fine (omega arith))
  node_grows (Front a b) p = after_bind (ih a) λ f i _ hf. after_bind (ih b) λ l j _ hl. after_given _ λ c _. after_given _ λ _ _.
      fine (after_bind hf λ f' i' _ ef. after_bind hl λ l' j' _ el. after_given _ λ c' _. after_given _ λ _ _.
      let z = ap size c.1 in let z' = ap size c'.1 in fine (omega arith))
  node_grows (Pair a b) p = after_bind (ih a) λ f i _ hf. after_bind (ih b) λ l j _ hl. after_given _ λ _ _.
      fine (after_bind hf λ f' i' _ ef. after_bind hl λ l' j' _ el. after_given _ λ _ _. fine (omega arith))
  node_grows (ListCase s b tb n tn df dr) p = absurd p
  node_grows (TruthCase s f tf t t₁) p = absurd p
  node_grows (Split s b) p = absurd p
  node_grows (Call c y z) p = absurd p
  node_grows (Add n k) p = after_bind (ih n) λ v i _ h. after_given _ λ m _. after_given _ λ _ _.
      fine (after_bind h λ u i' _ e. after_given _ λ m' _. after_given _ λ _ _.
      let z = ap size m.1 in let z' = ap size m'.1 in fine (omega arith))
  node_grows (Each s c y d) p = absurd p

module _ (sh : Sheet) (ranges : Ranges sh) (kinds : (n : ℕ) → T (plain (get_or sh.nodes n False))) (x : ℕ) where
  pub grows : (μ ν : Env) → OnlyAt x μ ν → (l n : ℕ)
      → Grows (size (get_or μ x vfalse)) (size (get_or ν x vfalse)) (entered sh x n) (get l sh n μ) (get l sh n ν)
  unfolding Semantics.get
  grows μ ν only zero n = stopped tt
  grows μ ν only (suc l) n = rw (entered_at sh ranges x n) (after_plus 1 (after_map
      (node_grows x μ ν only (entered sh x) (get l sh) (grows μ ν only l) sh _ (kinds n)) λ v s h. after_plus 1 (after_map h λ u t e. e)))

-- NO VALUE IS SHORTER THAN ITS COUNT
module _ (x : ℕ) (μ : Env) (r : ℕ → ℕ) (g : Getter) (ih : (n : ℕ) → After (Unit {0}) (λ v s. r n ≤ size v) (g n μ)) (sh : Sheet) where
  own_small : (y : ℕ) → Dec (y ≡ x) → own x (Var y) ≤ 1
  own_small y (yes q) = rw (q, own_is) (omega arith)
  own_small y (no q) = rw (own_not x y q) (omega arith)

  node_covers : (nd : Node) → T (plain nd) → After (Unit {0}) (λ v s. own x nd + total r (children nd) ≤ size v) (get_node g sh nd μ)
  unfolding Semantics.get_node Semantics.bounded size children own variables
  node_covers (Var y) p = after_given _ λ v _. fine (omega (arith, own_small y (ℕ_discrete y x), size_pos v))
  node_covers False p = fine (omega arith)
  node_covers True p = fine (omega arith)
  node_covers Empty p = fine (omega arith)
  node_covers (Number n) p = fine (omega arith)
  node_covers (Wide n) p = fine (omega arith)
  node_covers (Front a b) p = after_bind (ih a) λ f i _ hf. after_bind (ih b) λ l j _ hl. after_given _ λ c _. after_given _ λ _ _.
      let z = ap size c.1 in fine (omega arith)
  node_covers (Pair a b) p = after_bind (ih a) λ f i _ hf. after_bind (ih b) λ l j _ hl. after_given _ λ _ _. fine (omega arith)
  node_covers (ListCase s b tb n tn df dr) p = absurd p
  node_covers (TruthCase s f tf t t₁) p = absurd p
  node_covers (Split s b) p = absurd p
  node_covers (Call c y z) p = absurd p
  node_covers (Add n k) p = after_bind (ih n) λ v i _ h. after_given _ λ m _. after_given _ λ _ _. let z = ap size m.1 in fine (omega arith)
  node_covers (Each s c y d) p = absurd p

module _ (sh : Sheet) (ranges : Ranges sh) (kinds : (n : ℕ) → T (plain (get_or sh.nodes n False))) (x : ℕ) (μ : Env) where
  pub covers : (l n : ℕ) → After (Unit {0}) (λ v s. entered sh x n ≤ size v) (get l sh n μ)
  unfolding Semantics.get
  covers zero n = stopped tt
  covers (suc l) n = rw (entered_at sh ranges x n) (after_plus 1 (node_covers x μ (entered sh x) (get l sh) (covers l) sh _ (kinds n)))

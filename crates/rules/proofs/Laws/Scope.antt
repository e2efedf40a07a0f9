-- At most 110 variables are ever in scope: a walk that refused to enter a node with more of them is the same walk.
use Rattle.std.specs.Prelude.{◌≡◌, length, get_or, replicate}
use Rattle.std.proofs.Math.Path.{refl, ap, fun_ext}
use Rattle.std.proofs.Common.{◌∙◌, arith, length-append}
use Rattle.std.proofs.Math.Option.{Option, none}
use mathlib.Core.List.{List, [], ◌∷◌, ◌++◌}
use Prim.Native.Nat.{ℕ, zero, suc, ◌+◌, ◌*◌, ◌≤◌}
use Rattle.std.proofs.Math.Decide.{dec_le}
use Rattle.value.specs.Result.{Result, ok, refusal}
use Rattle.value.specs.Value.{Value, Values, vfalse, list, nil, cons, size, encode, flat}
use Rattle.value.specs.Reading.{read_plan, read_view}
use Rattle.value.proofs.Laws.{read_values_sound}
use Rattle.node.specs.declared.Node.{Node}
use Rattle.node.specs.declared.Node.TheVariants.{Var, False, True, Empty, Number, Front, Pair, ListCase, TruthCase, Split, Call, Add, Each, Wide}
use Rattle.sheet.specs.Sheet.{Sheet, read_sheet}
use Rattle.sheet.specs.Laws.{sheet_ranges}
use Rattle.rules.specs.Numbers.{level_limit, variable_limit, get_output, put_output}
use Rattle.rules.specs.Outcome.{Out, refused, plus, when, map_out, ◌>>=◌, given, reading, choose}
use Rattle.rules.specs.Allowance.{within}
use Rattle.rules.specs.Semantics
use Rattle.rules.specs.Counting.{
  Env,
  Cells,
  Getter,
  Putter,
  two,
  tested,
  on_list,
  get_each,
  get_node,
  get,
  or_old,
  both,
  under,
  put_each,
  mk_list,
  mk_pair,
  put_node,
  put,
}
use Rattle.rules.specs.Answer.{answer, door, get_walk, get_bytes, get_answer, count, new_plan, put_walk, put_bytes, put_answer}
use Rattle.rules.proofs.Laws.Outcomes.{given_yes}

-- as `get` and `put`, and no node is entered with over 110 variables in scope (0 is no refusal of document 01's)
unfoldable pub get_narrow : ℕ → Sheet → Getter
get_narrow zero sh n μ = refused 40 0
get_narrow (suc l) sh n μ = given 0 (when (dec_le (length μ) variable_limit)) λ _. plus 1 (get_node (get_narrow l sh) sh (get_or sh.nodes n False) μ)

unfoldable pub put_narrow : ℕ → Sheet → Putter
put_narrow zero sh n μ σ v W = refused 40 0
put_narrow (suc l) sh n μ σ v W =
    given 0 (when (dec_le (length μ) variable_limit)) λ _. plus 1 (put_node (get_narrow l sh) (put_narrow l sh) sh (get_or sh.nodes n False) μ σ v W)

-- OUTCOMES OF EQUAL PARTS ARE EQUAL

module _ {A B : Type 0} where
  pub bind_ext : {m m' : Out A} {f f' : A → Out B} → m ≡ m' → ((a : A) → f a ≡ f' a) → (m >>= f) ≡ (m' >>= f')
  bind_ext {m} {m'} {f} {f'} e h = rw e (ap (λ (k : A → Out B). m' >>= k) (fun_ext h))

  pub given_ext : (c : ℕ) (o : Option A) {f f' : A → Out B} → ((a : A) → f a ≡ f' a) → given c o f ≡ given c o f'
  given_ext c o h = ap (given c o) (fun_ext h)

list_ext : {B : Type 0} (l : Values) {x x' : B} {f f' : Value → Values → B} → x ≡ x' → ((v : Value) (r : Values) → f v r ≡ f' v r)
    → on_list l x f ≡ on_list l x' f'
unfolding on_list
list_ext nil e h = e
list_ext (cons v r) e h = h v r

choose_ext : {A P Q : Type 0} (p : Dec P) (q : Dec Q) {x x' y y' : Out A} → x ≡ x' → y ≡ y' → choose p q x y ≡ choose p q x' y'
choose_ext p q e k = rw (e, k)

-- the scope of a node that is entered from another has at most two variables more
longer : {A : Type 0} (μ : List A) (a b : A) {k : ℕ} → length μ + 2 ≤ k → length (μ ++ two a b) ≤ k
longer μ a b h = rw length-append (omega arith)

-- GET

abbrev SameGets : ℕ → Getter → Getter → Type 0
SameGets k g h = (n : ℕ) (μ : Env) → length μ ≤ k → g n μ ≡ h n μ

module _ {k : ℕ} {g h : Getter} (same : SameGets k g h) (sh : Sheet) where
  get_each_ext : (root : ℕ) (a : Value) (n : ℕ) (l : Values) → 2 ≤ k → get_each g root a n l ≡ get_each h root a n l
  unfolding Semantics.get_each
  get_each_ext root a n nil z = refl
  get_each_ext root a n (cons m r) z = bind_ext (same root (two m a) z) λ w. given_ext _ _ λ _. bind_ext (get_each_ext root a (n + suc (size w)) r z) λ ws. refl

  get_ext : (nd : Node) (μ : Env) → length μ + 2 ≤ k → get_node g sh nd μ ≡ get_node h sh nd μ
  unfolding Semantics.get_node
  get_ext (Var x) μ z = refl
  get_ext False μ z = refl
  get_ext True μ z = refl
  get_ext Empty μ z = refl
  get_ext (Number n) μ z = refl
  get_ext (Wide n) μ z = refl
  get_ext (Front a b) μ z = bind_ext (same a μ (omega arith)) λ f. bind_ext (same b μ (omega arith)) λ r. refl
  get_ext (Pair a b) μ z = bind_ext (same a μ (omega arith)) λ f. bind_ext (same b μ (omega arith)) λ r. refl
  get_ext (ListCase s e te n tn df dr) μ z = bind_ext (same s μ (omega arith)) λ v. given_ext _ _ λ l.
      list_ext l.0 (ap (tested te) (same e μ (omega arith))) λ f r. ap (tested tn) (same n _ (longer μ f (list r) z))
  get_ext (TruthCase s f tf t t₁) μ z = bind_ext (same s μ (omega arith)) λ v. given_ext _ _ λ b. ap (tested _) (same _ μ (omega arith))
  get_ext (Split s i) μ z = bind_ext (same s μ (omega arith)) λ v. given_ext _ _ λ p. same i _ (longer μ p.0 p.1 z)
  get_ext (Call sec x y) μ z = given_ext _ _ λ a. given_ext _ _ λ b. same _ (two a b) (omega arith)
  get_ext (Add n c) μ z = bind_ext (same n μ (omega arith)) λ v. refl
  get_ext (Each s sec x d) μ z = bind_ext (same s μ (omega arith)) λ v. given_ext _ _ λ l. given_ext _ _ λ a.
      bind_ext (get_each_ext _ a _ l.0 (omega arith)) λ ws. refl

pub get_narrow_lem : (l : ℕ) (sh : Sheet) (n : ℕ) (μ : Env) → length μ + 2 * l ≤ 112 → get_narrow l sh n μ ≡ get l sh n μ
unfolding get_narrow Semantics.get
get_narrow_lem zero sh n μ z = refl
get_narrow_lem (suc l) sh n μ z = given_yes 0 (dec_le (length μ) variable_limit) (omega arith)
    ∙ (ap (plus 1) (get_ext {k = length μ + 2} (λ m ν y. get_narrow_lem l sh m ν (omega arith)) sh _ μ (omega arith)))

-- PUT

abbrev SamePuts : ℕ → Putter → Putter → Type 0
SamePuts k p q = (n : ℕ) (μ : Env) (σ : List ℕ) (v : Value) (W : Cells) → length μ ≤ k → p n μ σ v W ≡ q n μ σ v W

module _ {k : ℕ} {g h : Getter} {p q : Putter} (gets : SameGets k g h) (same : SamePuts k p q) (sh : Sheet)
    (μ : Env) (σ : List ℕ) (v : Value) (W : Cells) (z : length μ + 2 ≤ k) where
  both_ext : (a b : ℕ) (x y : Value) → both p μ σ W a x b y ≡ both q μ σ W a x b y
  unfolding Semantics.both
  both_ext a b x y = bind_ext (same a μ σ x W (omega arith)) λ X. same b μ σ y X (omega arith)

  under_ext : (b s : ℕ) (mk : Value → Value → Option Value) (f r : Value) → under p μ σ W b v s mk f r ≡ under q μ σ W b v s mk f r
  unfolding Semantics.under
  under_ext b s mk f r = bind_ext (same b _ _ v _ (longer μ f r z)) λ X. given_ext _ _ λ x. given_ext _ _ λ y. given_ext _ _ λ u. given_ext _ _ λ _.
      same s μ σ u _ (omega arith)

  put_each_ext : (root d c : ℕ) (a : Value) (n : ℕ) (old l : Values) (X : Cells) → put_each g p root d c a n old l X ≡ put_each h q root d c a n old l X
  unfolding Semantics.put_each Semantics.stood_for
  put_each_ext root d c a n old nil X = refl
  put_each_ext root d c a n old (cons u r) X = bind_ext (list_ext old (gets d [] (omega arith)) λ m _. refl) λ m.
      bind_ext (same root (two m a) _ u _ (omega arith)) λ Y. given_ext _ _ λ o. given_ext _ _ λ _.
      bind_ext (put_each_ext root d c a (n + suc (size (or_old o m))) _ r _) λ s. refl

  put_ext : (nd : Node) → put_node g p sh nd μ σ v W ≡ put_node h q sh nd μ σ v W
  unfolding Semantics.put_node
  put_ext (Var x) = refl
  put_ext False = refl
  put_ext True = refl
  put_ext Empty = refl
  put_ext (Number n) = refl
  put_ext (Wide n) = refl
  put_ext (Front a b) = given_ext _ _ λ c. both_ext a b _ _
  put_ext (Pair a b) = given_ext _ _ λ c. both_ext a b _ _
  put_ext (ListCase s e te n tn df dr) = bind_ext (gets s μ (omega arith)) λ o. given_ext _ _ λ l. list_ext l.0
      (choose_ext _ _ (both_ext e s v (list nil))
      (bind_ext (gets df (v ∷ []) (omega arith)) λ f. bind_ext (gets dr (v ∷ []) (omega arith)) λ r. given_ext _ _ λ _. under_ext n s mk_list f r))
      λ f r. choose_ext _ _ (under_ext n s mk_list f (list r)) (both_ext e s v (list nil))
  put_ext (TruthCase s f tf t t₁) = bind_ext (gets s μ (omega arith)) λ o. given_ext _ _ λ b. choose_ext _ _ (both_ext _ s v _) (both_ext _ s v _)
  put_ext (Split s i) = bind_ext (gets s μ (omega arith)) λ o. given_ext _ _ λ c. under_ext i s mk_pair _ _
  put_ext (Call sec x y) = given_ext _ _ λ a. given_ext _ _ λ c. given_ext _ _ λ b. given_ext _ _ λ d. same _ (two a b) _ v W (omega arith)
  put_ext (Add n c) = given_ext _ _ λ m. given_ext _ _ λ _. same n μ σ _ W (omega arith)
  put_ext (Each s sec x d) = given_ext _ _ λ l. bind_ext (gets s μ (omega arith)) λ o. given_ext _ _ λ old. given_ext _ _ λ a. given_ext _ _ λ c.
      bind_ext (put_each_ext _ d c a _ old.0 l.0 W) λ r. same s μ σ _ _ (omega arith)

pub put_narrow_lem : (l : ℕ) (sh : Sheet) (n : ℕ) (μ : Env) (σ : List ℕ) (v : Value) (W : Cells) → length μ + 2 * l ≤ 112
    → put_narrow l sh n μ σ v W ≡ put l sh n μ σ v W
unfolding put_narrow Semantics.put
put_narrow_lem zero sh n μ σ v W z = refl
put_narrow_lem (suc l) sh n μ σ v W z = given_yes 0 (dec_le (length μ) variable_limit) (omega arith)
    ∙ (ap (plus 1) (put_ext {k = length μ + 2} (λ m ν y. get_narrow_lem l sh m ν (omega arith)) (λ m ν τ u X y. put_narrow_lem l sh m ν τ u X (omega arith)) sh
    μ σ v
    W (omega arith) _))

-- WHOLE WALKS: at most 16 variables of the plan, and two more for each of 47 levels

module _ (a : ℕ) (sh : Sheet) (μ : Env) (few : length μ ≤ 16) where
  pub get_walk_narrow : within a (get_narrow level_limit sh sh.root μ) ≡ get_walk a sh μ
  unfolding get_walk
  get_walk_narrow = ap (within a) (get_narrow_lem level_limit sh sh.root μ (omega arith))

  pub put_walk_narrow : (v : Value) → within a (put_narrow level_limit sh sh.root μ (count 0 (length μ)) v (replicate (length μ) none)) ≡ put_walk a sh μ v
  unfolding put_walk
  put_walk_narrow v = ap (within a) (put_narrow_lem level_limit sh sh.root μ (count 0 (length μ)) v (replicate (length μ) none) (omega arith))

-- AND WHOLE CALLS, of any bytes: a sheet that was read has no more variables

reading_ext : {A B : Type 0} (r : Result A) {f f' : A → Out B} → ((x : A) → r ≡ ok x → f x ≡ f' x) → reading r f ≡ reading r f'
unfolding reading
reading_ext (ok x) h = h x refl
reading_ext (refusal c) h = refl

few_read : (sheet plan : List ℕ) {sh : Sheet} {μ : Env} → read_sheet sheet ≡ ok sh → read_plan sh.k plan ≡ ok μ → length μ ≤ 16
few_read sheet plan {sh} es ep = let r = sheet_ranges sheet es in let q = read_values_sound 20 sh.k plan ep in omega arith

module _ (sheet plan : List ℕ) (allowance output scratch : ℕ) where
  pub get_call_narrow : answer (door get_output output scratch allowance (
      reading (read_sheet sheet) λ sh. reading (read_plan sh.k plan) λ μ. map_out encode (within allowance (get_narrow level_limit sh sh.root μ))))
      ≡ get_answer sheet plan allowance output scratch
  unfolding get_answer get_bytes
  get_call_narrow = ap (λ o. answer (door get_output output scratch allowance o)) (reading_ext _ λ sh es. reading_ext _ λ μ ep.
      ap (map_out encode) (get_walk_narrow allowance sh μ (few_read sheet plan es ep)))

  pub put_call_narrow : (view : List ℕ) → answer (door put_output output scratch allowance (
      reading (read_sheet sheet) λ sh. reading (read_plan sh.k plan) λ μ. reading (read_view view) λ vs. map_out (λ X. flat (new_plan X μ))
      (within allowance (put_narrow level_limit sh sh.root μ (count 0 (length μ)) (get_or vs 0 vfalse) (replicate (length μ) none)))))
      ≡ put_answer sheet plan view allowance output scratch
  unfolding put_answer put_bytes
  put_call_narrow view = ap (λ o. answer (door put_output output scratch allowance o)) (reading_ext _ λ sh es. reading_ext _ λ μ ep. reading_ext _ λ vs _.
      ap (map_out (λ X. flat (new_plan X μ))) (put_walk_narrow allowance sh μ (few_read sheet plan es ep) (get_or vs 0 vfalse)))

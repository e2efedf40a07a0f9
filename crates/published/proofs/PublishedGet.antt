-- Get and the published relation: sound, complete up to our limits, exact in its steps, and one value.
use Rattle.std.specs.Prelude.{◌≡◌, Bool, [], ◌++◌, ℕ, zero, suc, ◌+◌, ◌≤◌, get_or}
use Rattle.std.proofs.Math.Path.{refl}
use Rattle.std.proofs.Common.{sym, subst, ◌∙◌, append-nil, arith}
use Rattle.std.proofs.Math.Bool.{true, false}
use Rattle.std.proofs.Math.Option.{Option, some, some-injective}
use Rattle.value.specs.Value.{Value, Values, vfalse, vtrue, list, number, wide, pair, nil, cons, size, truth}
use Rattle.value.proofs.Encoding.{size_pos}
use Rattle.value.specs.Views.{as_list, as_pair, as_truth}
use Rattle.value.specs.Tests.{Passes}
use Rattle.node.specs.declared.Node.{Node}
use Rattle.node.specs.declared.Node.TheVariants.{Var, False, True, Empty, Number, Front, Pair, ListCase, TruthCase, Split, Call, Add, Each, Wide}
use Rattle.sheet.specs.Sheet.{Sheet}
use Rattle.rules.specs.Outcome.{Out, done}
use Rattle.rules.specs.Allowance.{within}
use Rattle.rules.specs.Semantics
use Rattle.rules.specs.Counting.{Env, Getter, two, pick, bounded, tested, get_each, on_list, get_node, get}
use Rattle.rules.specs.Laws.Outcomes.{After, stopped}
use Rattle.rules.proofs.Laws.Outcomes.{fine, after_map, after_at, as_number_lem, after_plus, after_bind, after_given, after_list}
use Rattle.rules.proofs.Laws.Allowances.{within-done}
use Rattle.published.specs.Published.{
  Pattern,
  pattern_false,
  pattern_true,
  pattern_empty,
  pattern_front,
  pattern_pair,
  Match,
  m_false,
  m_true,
  m_empty,
  m_front,
  m_pair,
  Branch,
  plain,
  opened,
  Expr,
  var,
  const,
  front,
  case,
  let_in,
  couple,
  call,
  add,
  each,
  members,
  expr,
  node,
  residual,
  Get,
  g_var,
  g_const,
  g_cons,
  g_case,
  g_let,
  g_pair,
  g_call,
  g_add,
  g_each,
  g_end,
  g_next,
}
use Rattle.published.specs.PublishedCost.{Cost, built, ◌⊕◌, get_below, get_cost}
use Rattle.published.proofs.UpTo.{deep, Costs, Comes, Exactly, stops, reach, up_as, up_enter, up_within, up_costs, up_exactly}
use Rattle.published.proofs.UpTo.{comes_bind, comes_last, up_given, up_when, up_bytes, up_size}

-- SOUND

abbrev pub GetsSoundly : Sheet → Getter → Type 0
GetsSoundly sh g = (n : ℕ) (μ : Env) → After (Unit {0}) (λ v s. Get sh μ (residual sh n) v) (g n μ)

-- the scope of a branch that binds nothing
nil_scope : {sh : Sheet} {μ : Env} {e : Expr} {v : Value} → Get sh μ e v → Get sh (μ ++ []) e v
nil_scope d = rw append-nil d

module _ (sh : Sheet) (g : Getter) (ih : GetsSoundly sh g) where
  -- a branch's result, and its exit condition
  tested_soundly : (t : ℕ) (o : Out Value) {P : Value → Type 0} → After (Unit {0}) (λ v s. P v) o → After (Unit {0}) (λ v s. P v × Passes t v) (tested t o)
  unfolding Semantics.tested
  tested_soundly t o h = after_bind h λ v s _ d. after_given _ λ p _. fine (d, p)

  get_each_sound : (root d : ℕ) (a : Value) (n : ℕ) (ms : Values)
      → After (Unit {0}) (λ ws s. Get sh (two (list ms) a) (members root d) (list ws)) (get_each g root a n ms)
  unfolding Semantics.get_each
  get_each_sound root d a n nil = fine g_end
  get_each_sound root d a n (cons m ms) = after_bind (ih root _) λ w s _ h. after_given _ λ _ _.
      after_bind (get_each_sound root d a (n + suc (size w)) ms) λ ws t _ k. fine (g_next h k)

  get_node_sound : (nd : Node) (μ : Env) → After (Unit {0}) (λ v s. Get sh μ (expr nd) v) (get_node g sh nd μ)
  unfolding Semantics.get_node Semantics.bounded
  get_node_sound (Var x) μ = after_given _ λ v e. fine (g_var e)
  get_node_sound False μ = fine g_const
  get_node_sound True μ = fine g_const
  get_node_sound Empty μ = fine g_const
  get_node_sound (Number n) μ = fine g_const
  get_node_sound (Wide n) μ = fine g_const
  get_node_sound (Front a b) μ = after_bind (ih a μ) λ f s _ df. after_bind (ih b μ) λ r t _ dr. after_given _ λ l _. after_given _ λ _ _.
      fine (g_cons df (rw l.1 at dr))
  get_node_sound (Pair a b) μ = after_bind (ih a μ) λ f s _ df. after_bind (ih b μ) λ r t _ dr. after_given _ λ _ _. fine (g_pair df dr)
  get_node_sound (ListCase s e te n tn df dr) μ = after_bind (ih s μ) λ v i _ ds. after_given _ λ l _. after_list l.0
      (λ el. after_map (tested_soundly te _ (ih e μ)) λ u t h. g_case false (rw (l.1, el) at ds) m_empty (nil_scope h.0) h.1)
      (λ f r el. after_map (tested_soundly tn _ (ih n _)) λ u t h. g_case true (rw (l.1, el) at ds) m_front h.0 h.1)
  get_node_sound (TruthCase s f tf t t₁) μ = after_bind (ih s μ) λ v i _ ds. after_given _ λ b _.
      after_map (tested_soundly _ _ (ih _ μ)) λ u j h. side b.0 (rw b.1 at ds) h
    where
      side : {u : Value} (b : Bool) → Get sh μ (residual sh s) (truth b) → Get sh μ (residual sh (pick b f t)) u × Passes (pick b tf t₁) u
          → Get sh μ (expr (TruthCase s f tf t t₁)) u
      side false ds h = g_case false ds m_false (nil_scope h.0) h.1
      side true ds h = g_case true ds m_true (nil_scope h.0) h.1
  get_node_sound (Split s i) μ = after_bind (ih s μ) λ v j _ ds. after_given _ λ p _. after_map (ih i _) λ u t h. g_let (rw p.2 at ds) m_pair h
  get_node_sound (Call sec x y) μ = after_given _ λ a ea. after_given _ λ b eb. after_map (ih _ _) λ v s h. g_call ea eb h
  get_node_sound (Add n k) μ = after_bind (ih n μ) λ v s _ d. after_given _ λ m _. after_given _ λ q _. fine (g_add (rw m.1 at d) q)
  get_node_sound (Each s sec x d) μ = after_bind (ih s μ) λ v i _ ds. after_given _ λ l _. after_given _ λ a ea.
      after_bind (get_each_sound _ d a 1 l.0) λ ws j _ h. fine (g_each (rw l.1 at ds) ea h)

pub gets_soundly : (l : ℕ) (sh : Sheet) → GetsSoundly sh (get l sh)
unfolding Semantics.get
gets_soundly zero sh n μ = stopped tt
gets_soundly (suc l) sh n μ = after_plus 1 (get_node_sound sh (get l sh) (gets_soundly l sh) _ μ)

-- COMPLETE UP TO OUR LIMITS

abbrev pub GetsAll : (l a : ℕ) → Sheet → Getter → Type 0
GetsAll l a sh g = (n : ℕ) (μ : Env) (v : Value) (d : Get sh μ (residual sh n) v) → Comes l a (get_cost d) v (g n μ)

-- Q of the cost of each way to get a case
abbrev Cases : Sheet → Env → Value → ℕ → Branch → Branch → (Cost → Type 0) → Type 0
Cases sh μ v s b₁ b₂ Q = (i : Bool) (v₀ : Value) (μᵢ : Env) (ds : Get sh μ (residual sh s) v₀) → Match (pick i b₁ b₂).pattern v₀ μᵢ
    → (d : Get sh (μ ++ μᵢ) (residual sh (pick i b₁ b₂).body) v) → Passes (pick i b₁ b₂).exit v → Q (get_cost ds ⊕ get_cost d)

module _ {l a : ℕ} (sh : Sheet) (g : Getter) (ih : GetsAll l a sh g) where
  bounded_all : (v : Value) → Comes l a (built v) v (bounded v)
  unfolding Semantics.bounded
  bounded_all v = up_as (built v) (omega arith) (up_size v λ _. reach refl)

  -- a branch's result, and its exit condition
  tested_all : (t n : ℕ) {ν μ : Env} (v : Value) → ν ≡ μ → (d : Get sh ν (residual sh n) v) → Passes t v → Comes l a (get_cost d) v (tested t (g n μ))
  unfolding Semantics.tested
  tested_all t n v e d p = comes_last _ (subst (λ μ. Comes l a (get_cost d) v (g n μ)) e (ih n _ v d)) (up_when _ _ p λ _. reach refl)

  -- the list so far, with its 02, has n bytes, and the whole list those of u
  get_each_complete : (root d : ℕ) (b u : Value) (n : ℕ) {ms ws : Values} → n ≤ 256 → suc (size u) ≡ n + size (list ws)
      → (h : Get sh (two (list ms) b) (members root d) (list ws)) → Comes l a (get_below h ⊕ built u) ws (get_each g root b n ms)
  unfolding Semantics.get_each get_below size
  get_each_complete root d b u n z e g_end = up_as _ (omega arith) (reach refl)
  get_each_complete root d b u n {ws = cons w ws} z e (g_next h k) = up_as _ (omega arith) (comes_bind _ (ih root _ _ h)
      (up_bytes _ (omega (arith, size_pos (list ws))) λ z'. comes_last _ (get_each_complete root d b u _ z' (omega arith) k) (reach refl)))

  get_node_complete : (nd : Node) (μ : Env) (v : Value) (d : Get sh μ (expr nd) v) → Comes l a (get_below d) v (get_node g sh nd μ)
  unfolding Semantics.get_node as_list as_pair as_truth on_list get_below
  get_node_complete (Var x) μ v (g_var e) = up_given _ _ e (reach refl)
  get_node_complete False μ v g_const = reach refl
  get_node_complete True μ v g_const = reach refl
  get_node_complete Empty μ v g_const = reach refl
  get_node_complete (Number n) μ v g_const = reach refl
  get_node_complete (Wide n) μ v g_const = reach refl
  get_node_complete (Front a b) μ v (g_cons df dr) = comes_bind _ (ih a μ _ df) (comes_bind _ (ih b μ _ dr) (up_given _ _ refl (bounded_all _)))
  get_node_complete (Pair a b) μ v (g_pair df dr) = comes_bind _ (ih a μ _ df) (comes_bind _ (ih b μ _ dr) (bounded_all _))
  get_node_complete (ListCase s e te n tn df dr) μ v (g_case i ds m d p) = go i _ _ ds m d p
    where
      go : Cases sh μ v s (plain pattern_empty e te) (opened n tn df dr) λ c. Comes l a c v (get_node g sh (ListCase s e te n tn df dr) μ)
      go false v₀ μᵢ ds m_empty d p = comes_bind _ (ih s μ _ ds) (up_given _ _ refl (tested_all te e v (append-nil μ) d p))
      go true v₀ μᵢ ds m_front d p = comes_bind _ (ih s μ _ ds) (up_given _ _ refl (tested_all tn n v refl d p))
  get_node_complete (TruthCase s f tf t t₁) μ v (g_case i ds m d p) = go i _ _ ds m d p
    where
      go : Cases sh μ v s (plain pattern_false f tf) (plain pattern_true t t₁) λ c. Comes l a c v (get_node g sh (TruthCase s f tf t t₁) μ)
      go false v₀ μᵢ ds m_false d p = comes_bind _ (ih s μ _ ds) (up_given _ _ refl (tested_all tf f v (append-nil μ) d p))
      go true v₀ μᵢ ds m_true d p = comes_bind _ (ih s μ _ ds) (up_given _ _ refl (tested_all t₁ t v (append-nil μ) d p))
  get_node_complete (Split s i) μ v (g_let ds m_pair d) = comes_bind _ (ih s μ _ ds) (up_given _ _ refl (ih i _ v d))
  get_node_complete (Call sec x y) μ v (g_call ea eb d) = up_given _ _ ea (up_given _ _ eb (ih _ _ v d))
  get_node_complete (Add n k) μ v (g_add {m = m} d q) =
      comes_last _ (ih n μ _ d) (let (z, e) = as_number_lem m (omega arith) in up_given _ _ e (up_when _ _ q λ _. reach refl))
  get_node_complete (Each s sec x d) μ v (g_each {a = b} {ws = ws} ds ea h) = comes_bind _ (ih s μ _ ds)
      (up_given _ _ refl (up_given _ _ ea (comes_last _ (get_each_complete _ d b (list ws) 1 (omega arith) (omega arith) h) (reach refl))))

pub gets_all : (l a : ℕ) (sh : Sheet) → GetsAll l a sh (get l sh)
unfolding Semantics.get
gets_all zero a sh n μ v d = stops (omega arith) (deep (omega arith))
gets_all (suc l) a sh n μ v d = up_enter (get_node_complete sh (get l sh) (gets_all l a sh) _ μ v d)

-- ONE VALUE

-- a pattern and a value have one environment, and a pattern and an environment one value
pub match_env : {p : Pattern} {v : Value} {μ μ' : Env} → Match p v μ → Match p v μ' → μ ≡ μ'
match_env m_false m_false = refl
match_env m_true m_true = refl
match_env m_empty m_empty = refl
match_env m_front m_front = refl
match_env m_pair m_pair = refl

pub match_value : {p : Pattern} {v u : Value} {μ : Env} → Match p v μ → Match p u μ → v ≡ u
match_value m_false m_false = refl
match_value m_true m_true = refl
match_value m_empty m_empty = refl
match_value m_front m_front = refl
match_value m_pair m_pair = refl

-- a value matches one pattern
unfoldable shape : Value → Pattern
shape vfalse = pattern_false
shape vtrue = pattern_true
shape (list nil) = pattern_empty
shape (list (cons f r)) = pattern_front
shape (number n) = pattern_pair
shape (wide n) = pattern_pair
shape (pair a b) = pattern_pair

match_shape : {p : Pattern} {v : Value} {μ : Env} → Match p v μ → shape v ≡ p
unfolding shape
match_shape m_false = refl
match_shape m_true = refl
match_shape m_empty = refl
match_shape m_front = refl
match_shape m_pair = refl

-- the patterns of two branches do not overlap
abbrev pub Apart : Branch → Branch → Type 0
Apart b₁ b₂ = (i j : Bool) (v : Value) (μᵢ μⱼ : Env) → Match (pick i b₁ b₂).pattern v μᵢ → Match (pick j b₁ b₂).pattern v μⱼ → i ≡ j

apart_of : (b₁ b₂ : Branch) → (b₁.pattern ≡ b₂.pattern → ⊥) → Apart b₁ b₂
apart_of b₁ b₂ h false false v μᵢ μⱼ m m' = refl
apart_of b₁ b₂ h false true v μᵢ μⱼ m m' = absurd (h (cc (match_shape m, match_shape m')))
apart_of b₁ b₂ h true false v μᵢ μⱼ m m' = absurd (h (cc (match_shape m, match_shape m')))
apart_of b₁ b₂ h true true v μᵢ μⱼ m m' = refl

abbrev pub Fair : Expr → Type 0
Fair (var x) = Unit {0}
Fair (const c) = Unit {0}
Fair (front a b) = Unit {0}
Fair (case s b₁ b₂) = Apart b₁ b₂
Fair (let_in p s e) = Unit {0}
Fair (couple a b) = Unit {0}
Fair (call sec x y) = Unit {0}
Fair (add n k) = Unit {0}
Fair (each s sec x d) = Unit {0}
Fair (members root d) = Unit {0}

pub fair : (nd : Node) → Fair (expr nd)
fair (Var x) = tt
fair False = tt
fair True = tt
fair Empty = tt
fair (Number n) = tt
fair (Wide n) = tt
fair (Front a b) = tt
fair (Pair a b) = tt
fair (ListCase s e te n tn df dr) = apart_of (plain pattern_empty e te) (opened n tn df dr) λ h. let z : ◌≡◌ {A = ℕ} 0 1 = cc in omega arith
fair (TruthCase s f tf t t₁) = apart_of (plain pattern_false f tf) (plain pattern_true t t₁) λ h. let z : ◌≡◌ {A = ℕ} 0 1 = cc in omega arith
fair (Split s i) = tt
fair (Call sec x y) = tt
fair (Add n k) = tt
fair (Each s sec x d) = tt

-- what a variable stands for, and the members of a list
pub at_one : {o : Option Value} {a b : Value} → o ≡ some a → o ≡ some b → a ≡ b
at_one e f = some-injective _ _ (sym e ∙ f)

pub list_one : {l l' : Values} → list l ≡ list l' → l ≡ l'
list_one e = cc

module _ (sh : Sheet) where
  pub get_one : {μ : Env} {e : Expr} {v v' : Value} → Fair e → Get sh μ e v → Get sh μ e v' → v ≡ v'
  get_one h (g_var e) (g_var e') = cc
  get_one h g_const g_const = refl
  get_one h (g_cons {a = a} {b = b} df dr) (g_cons df' dr') = let ef = get_one (fair (node sh a)) df df' in let er = get_one (fair (node sh b)) dr dr' in cc
  get_one h (g_case {s = s} {b₁ = b₁} {b₂ = b₂} i ds m d p) (g_case j ds' m' d' p') =
      let es = get_one (fair (node sh s)) ds ds' in let ei = h i j _ _ _ m (rw (← es) at m') in
      let eμ = match_env m (rw (← es, ← ei) at m') in get_one (fair (node sh (pick i b₁ b₂).body)) d (rw (← ei, ← eμ) at d')
  get_one h (g_let {s = s} {e = e} ds m d) (g_let ds' m' d') =
      let es = get_one (fair (node sh s)) ds ds' in let eμ = match_env m (rw (← es) at m') in get_one (fair (node sh e)) d (rw (← eμ) at d')
  get_one h (g_pair {a = a} {b = b} df dr) (g_pair df' dr') = let ef = get_one (fair (node sh a)) df df' in let er = get_one (fair (node sh b)) dr dr' in cc
  get_one h (g_call {sec = sec} ea eb d) (g_call ea' eb' d') =
      get_one (fair (node sh (get_or sh.sections sec 0))) d (rw (← at_one ea ea', ← at_one eb eb') at d')
  get_one h (g_add {n = n} d q) (g_add d' q') = let e = get_one (fair (node sh n)) d d' in cc
  get_one h (g_each {s = s} ds e d) (g_each ds' e' d') =
      let em = list_one (get_one (fair (node sh s)) ds ds') in get_one tt d (rw (← at_one e e', ← em) at d')
  get_one h g_end g_end = refl
  get_one h (g_next {root = root} d ds) (g_next d' ds') = let e = get_one (fair (node sh root)) d d' in let es = get_one tt ds ds' in cc

-- THE THEOREMS, for every sheet, node, environment, number of levels and allowance
module _ (sh : Sheet) (n : ℕ) (μ : Env) (v : Value) where
  -- where get succeeds, the published relation holds of the same value
  pub get_sound : (l a s : ℕ) → within a (get l sh n μ) ≡ done v s → Get sh μ (residual sh n) v
  get_sound l a s e = after_at (rw (within-done a (get l sh n μ) e).0 at (gets_soundly l sh n μ))

  -- where the published relation holds, get gives that value or is refused with 40, 41 or 44: with 40 only where the derivation
  -- has more than l levels, with 41 only where it has more than a nodes
  pub get_complete : (l a : ℕ) (d : Get sh μ (residual sh n) v) → Comes l a (get_cost d) v (within a (get l sh n μ))
  get_complete l a d = up_within (gets_all l a sh n μ v d)

  -- so a derivation of at most l levels and a nodes gives the value, in exactly as many steps as it has nodes, or refusal 44
  pub get_exact : (l a : ℕ) (d : Get sh μ (residual sh n) v) → (get_cost d).height ≤ l → (get_cost d).nodes ≤ a
      → Exactly (get_cost d) v (within a (get l sh n μ))
  get_exact l a d h k = up_exactly (get_complete l a d) h k

  -- and where get succeeds, there is a derivation of at most l levels and of exactly as many nodes as the steps
  pub get_counted : (l a s : ℕ) → within a (get l sh n μ) ≡ done v s → (d : Get sh μ (residual sh n) v) × Costs l s (get_cost d)
  get_counted l a s e = let d = get_sound l a s e in (d, up_costs (rw e at (get_complete l a d)))

  -- one value
  pub get_functional : (v' : Value) → Get sh μ (residual sh n) v → Get sh μ (residual sh n) v' → v ≡ v'
  get_functional v' d d' = get_one sh (fair (node sh n)) d d'

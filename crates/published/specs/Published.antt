-- The published rules: HOBiT's residual expressions and its two evaluation relations (Matsuda and Wang 2018, section 4.2), one
-- constructor for each rule. No steps, no allowance, no sizes. docs/RULES.md lays them beside the paper and beside ours.
use Rattle.std.specs.Prelude.{◌≡◌, Bool, not, List, [], ◌∷◌, ◌++◌, ℕ, ◌+◌, ◌-◌, ◌≤◌, get_or, set}
use Rattle.std.proofs.Math.Option.{Option, none, some}
use Rattle.std.proofs.Math.ListN.{get_elem?}
use Rattle.value.specs.Value.{Value, Values, vfalse, vtrue, list, number, wide, pair, nil, cons}
use Rattle.value.specs.Tests.{Passes}
use Rattle.node.specs.declared.Node.{Node}
use Rattle.node.specs.declared.Node.TheVariants.{Var, False, True, Empty, Number, Front, Pair, ListCase, TruthCase, Split, Call, Add, Each, Wide}
use Rattle.sheet.specs.Sheet.{Sheet}
use Rattle.rules.specs.Counting.{Env, two, pick, rest_of, or_old}
use Rattle.rules.specs.Laws.Related.{All2}

-- ENVIRONMENTS. A value environment μ maps the variables in scope, numbered from 0, to values (`Env`)

-- put's result, a partial map: for each variable in scope what it is updated to, and none where it has no binding
abbrev pub Writes : Type 0
Writes = List (Option Value)

-- the bindings of ω are of variables of μ
abbrev pub Over : Writes → Env → Type 0
Over ω μ = All2 (λ o v. Unit {0}) ω μ

-- ∅, for the variables of μ
unfoldable pub blank : Env → Writes
blank [] = []
blank (v ∷ μ) = none ∷ blank μ

-- {x = v} where o is v, and ∅ where o is none
unfoldable pub only : Env → ℕ → Option Value → Writes
only μ x o = set (blank μ) x o

-- μ₁ ⋎ μ₂ = μ: the union, and only where no variable has two values
pub data Merge1 : Option Value → Option Value → Option Value → Type 0 where
  neither : Merge1 none none none
  left : {v : Value} → Merge1 (some v) none (some v)
  right : {v : Value} → Merge1 none (some v) (some v)
  same : {v u : Value} → v ≡ u → Merge1 (some v) (some u) (some u)

pub data Merge : Writes → Writes → Writes → Type 0 where
  m_ends : Merge [] [] []
  m_more : {o p q : Option Value} {ω₁ ω₂ ω : Writes} → Merge1 o p q → Merge ω₁ ω₂ ω → Merge (o ∷ ω₁) (p ∷ ω₂) (q ∷ ω)

-- μ' ◁ μ: what is updated, and the rest as it was
infixl 30 ◌◁◌
unfoldable pub ◌◁◌ : Writes → Env → Env
[] ◁ μ = μ
(o ∷ ω) ◁ [] = []
(o ∷ ω) ◁ (v ∷ μ) = or_old o v ∷ (ω ◁ μ)

-- PATTERNS p, and match(p, v, μ): v is p with its variables replaced as μ says. `pattern_pair` is an extension of document 01

pub data Pattern : Type 0 where
  pattern_false pattern_true pattern_empty pattern_front pattern_pair : Pattern

pub data Match : Pattern → Value → Env → Type 0 where
  m_false : Match pattern_false vfalse []
  m_true : Match pattern_true vtrue []
  m_empty : Match pattern_empty (list nil) []
  m_front : {f : Value} {r : Values} → Match pattern_front (list (cons f r)) (two f (list r))
  m_pair : {a b : Value} → Match pattern_pair (pair a b) (two a b)

-- RESIDUAL EXPRESSIONS E. Those within E are nodes of a sheet, by number

-- p → e with a test by a reconciliation. Where HOBiT has a function of the old subject and the view, a sheet has a node for each variable of
-- p, got in a scope of one variable, the view (document 02, request 5)
pub record Branch : Type 0 where
  pub pattern : Pattern
  pub body : ℕ
  pub exit : ℕ
  pub by : List ℕ

pub data Expr : Type 0 where
  var : ℕ → Expr
  const : Value → Expr
  front : ℕ → ℕ → Expr
  case : ℕ → Branch → Branch → Expr
  -- extensions of document 01: HOBiT's let (a case of one branch) of a pair, pairs, sections, the lens that adds
  let_in : Pattern → ℕ → ℕ → Expr
  couple : ℕ → ℕ → Expr
  call : ℕ → ℕ → ℕ → Expr
  add : ℕ → ℕ → Expr
  -- a section for each member of a list. `members` is no node of a sheet: it stands in a scope of two, the list and the caller's variable
  each : ℕ → ℕ → ℕ → ℕ → Expr
  members : (root d : ℕ) → Expr

-- a branch without variables, and a list's with first and rest
abbrev pub plain : Pattern → ℕ → ℕ → Branch
plain p e t = record { pattern = p; body = e; exit = t; by = [] }

abbrev pub opened : ℕ → ℕ → ℕ → ℕ → Branch
opened n t df dr = record { pattern = pattern_front; body = n; exit = t; by = two df dr }

-- what a node stands for
abbrev pub expr : Node → Expr
expr (Var x) = var x
expr False = const vfalse
expr True = const vtrue
expr Empty = const (list nil)
expr (Number n) = const (number n)  -- (an extension)
expr (Wide n) = const (wide n)  -- (an extension)
expr (Front a b) = front a b
expr (Pair a b) = couple a b
expr (ListCase s e te n tn df dr) = case s (plain pattern_empty e te) (opened n tn df dr)
expr (TruthCase s f tf t tt) = case s (plain pattern_false f tf) (plain pattern_true t tt)
expr (Split s i) = let_in pattern_pair s i
expr (Call sec x y) = call sec x y
expr (Add n k) = add n k
expr (Each s sec x d) = each s sec x d

abbrev pub node : Sheet → ℕ → Node
node sh n = get_or sh.nodes n False

abbrev pub residual : Sheet → ℕ → Expr
residual sh n = expr (node sh n)

-- GET: `Get sh μ E v` is μ ⊢ get E ⇒ v. Of a case, i says which of its two branches

pub data Get (sh : Sheet) : Env → Expr → Value → Type 0 where
  -- μ(x) = v
  g_var : {μ : Env} {x : ℕ} {v : Value} → get_elem? μ x ≡ some v → Get sh μ (var x) v
  g_const : {μ : Env} {c : Value} → Get sh μ (const c) c
  g_cons : {μ : Env} {a b : ℕ} {f : Value} {r : Values} → Get sh μ (residual sh a) f → Get sh μ (residual sh b) (list r)
      → Get sh μ (front a b) (list (cons f r))
  -- the subject matches the branch's pattern, and the exit condition holds of the result
  g_case : {μ μᵢ : Env} {s : ℕ} {b₁ b₂ : Branch} {v₀ v : Value} (i : Bool) → Get sh μ (residual sh s) v₀
      → Match (pick i b₁ b₂).pattern v₀ μᵢ → Get sh (μ ++ μᵢ) (residual sh (pick i b₁ b₂).body) v
      → Passes (pick i b₁ b₂).exit v → Get sh μ (case s b₁ b₂) v
  -- EXTENSIONS. HOBiT's let has one branch and no exit condition; a section's variables 0 and 1 are the caller's x and y; k is
  -- added where the sum is a number of kind 04
  g_let : {μ μᵢ : Env} {p : Pattern} {s e : ℕ} {v₀ v : Value} → Get sh μ (residual sh s) v₀ → Match p v₀ μᵢ
      → Get sh (μ ++ μᵢ) (residual sh e) v → Get sh μ (let_in p s e) v
  g_pair : {μ : Env} {a b : ℕ} {u v : Value} → Get sh μ (residual sh a) u → Get sh μ (residual sh b) v → Get sh μ (couple a b) (pair u v)
  g_call : {μ : Env} {sec x y : ℕ} {a b v : Value} → get_elem? μ x ≡ some a → get_elem? μ y ≡ some b
      → Get sh (two a b) (residual sh (get_or sh.sections sec 0)) v → Get sh μ (call sec x y) v
  g_add : {μ : Env} {n k m : ℕ} → Get sh μ (residual sh n) (number m) → m + k ≤ 65535 → Get sh μ (add n k) (number (m + k))
  -- each member of the subject is got by the section, whose variables 0 and 1 are the member and the caller's x
  g_each : {μ : Env} {s sec x d : ℕ} {a : Value} {ms ws : Values} → Get sh μ (residual sh s) (list ms) → get_elem? μ x ≡ some a
      → Get sh (two (list ms) a) (members (get_or sh.sections sec 0) d) (list ws) → Get sh μ (each s sec x d) (list ws)
  g_end : {root d : ℕ} {a : Value} → Get sh (two (list nil) a) (members root d) (list nil)
  g_next : {root d : ℕ} {a m w : Value} {ms ws : Values} → Get sh (two m a) (residual sh root) w
      → Get sh (two (list ms) a) (members root d) (list ws) → Get sh (two (list (cons m ms)) a) (members root d) (list (cons w ws))

-- what the next member of an each stands for: the first of the old ones, or past their end what the default d gives in an empty scope
pub data StoodFor (sh : Sheet) (d : ℕ) : Values → Value → Type 0 where
  s_old : {m : Value} {old : Values} → StoodFor sh d (cons m old) m
  s_new : {m : Value} → Get sh [] (residual sh d) m → StoodFor sh d nil m

-- PUT: `Put sh μ v E ω` is μ ⊢ put v ⇐ E ⊣ ω

pub data Put (sh : Sheet) : Env → Value → Expr → Writes → Type 0 where
  -- {x = v}. x is a variable of μ: in the paper, what has a type has no other
  p_var : {μ : Env} {x : ℕ} {v old : Value} → get_elem? μ x ≡ some old → Put sh μ v (var x) (only μ x (some v))
  p_const : {μ : Env} {c : Value} → Put sh μ c (const c) (blank μ)
  p_cons : {μ : Env} {a b : ℕ} {f : Value} {r : Values} {ω₁ ω₂ ω : Writes} → Put sh μ f (residual sh a) ω₁
      → Put sh μ (list r) (residual sh b) ω₂ → Merge ω₁ ω₂ ω → Put sh μ (list (cons f r)) (front a b) ω
  -- without a switch: the branch that the old subject matches, if its exit condition holds of the view. Its put gives ω for
  -- the variables outside and ωᵢ for the pattern's; the subject is rebuilt from ωᵢ ◁ μᵢ, and put under the old μ
  p_case : {μ μᵢ : Env} {s : ℕ} {b₁ b₂ : Branch} {v₀ v u : Value} {ω ωᵢ ω₀ ω' : Writes} (i : Bool)
      → Get sh μ (residual sh s) v₀ → Match (pick i b₁ b₂).pattern v₀ μᵢ → Passes (pick i b₁ b₂).exit v
      → Put sh (μ ++ μᵢ) v (residual sh (pick i b₁ b₂).body) (ω ++ ωᵢ) → Over ω μ → Over ωᵢ μᵢ
      → Match (pick i b₁ b₂).pattern u (ωᵢ ◁ μᵢ) → Put sh μ u (residual sh s) ω₀ → Merge ω ω₀ ω' → Put sh μ v (case s b₁ b₂) ω'
  -- with a switch: its exit condition does not hold of the view, and the other branch's does. The other's pattern is matched by
  -- what the reconciliation gives of the view, and the rest is the same
  p_case_switch : {μ μᵢ μⱼ : Env} {s : ℕ} {b₁ b₂ : Branch} {v₀ v u₀ u : Value} {ω ωⱼ ω₀ ω' : Writes} (i : Bool)
      → Get sh μ (residual sh s) v₀ → Match (pick i b₁ b₂).pattern v₀ μᵢ → ¬ Passes (pick i b₁ b₂).exit v
      → Passes (pick (not i) b₁ b₂).exit v → All2 (λ n w. Get sh (v ∷ []) (residual sh n) w) (pick (not i) b₁ b₂).by μⱼ
      → Match (pick (not i) b₁ b₂).pattern u₀ μⱼ
      → Put sh (μ ++ μⱼ) v (residual sh (pick (not i) b₁ b₂).body) (ω ++ ωⱼ) → Over ω μ → Over ωⱼ μⱼ
      → Match (pick (not i) b₁ b₂).pattern u (ωⱼ ◁ μⱼ) → Put sh μ u (residual sh s) ω₀ → Merge ω ω₀ ω' → Put sh μ v (case s b₁ b₂) ω'
  -- EXTENSIONS. What a section writes to its variables 0 and 1 is written to x and y: if these are one variable, both agree
  p_let : {μ μᵢ : Env} {p : Pattern} {s e : ℕ} {v₀ v u : Value} {ω ωᵢ ω₀ ω' : Writes} → Get sh μ (residual sh s) v₀ → Match p v₀ μᵢ
      → Put sh (μ ++ μᵢ) v (residual sh e) (ω ++ ωᵢ) → Over ω μ → Over ωᵢ μᵢ
      → Match p u (ωᵢ ◁ μᵢ) → Put sh μ u (residual sh s) ω₀ → Merge ω ω₀ ω' → Put sh μ v (let_in p s e) ω'
  p_pair : {μ : Env} {a b : ℕ} {u v : Value} {ω₁ ω₂ ω : Writes} → Put sh μ u (residual sh a) ω₁ → Put sh μ v (residual sh b) ω₂
      → Merge ω₁ ω₂ ω → Put sh μ (pair u v) (couple a b) ω
  p_call : {μ : Env} {sec x y : ℕ} {a b v : Value} {o q : Option Value} {ω : Writes} → get_elem? μ x ≡ some a → get_elem? μ y ≡ some b
      → Put sh (two a b) v (residual sh (get_or sh.sections sec 0)) (two o q) → Merge (only μ x o) (only μ y q) ω → Put sh μ v (call sec x y) ω
  p_add : {μ : Env} {n k m : ℕ} {ω : Writes} → m ≤ 65535 → k ≤ m → Put sh μ (number (m - k)) (residual sh n) ω → Put sh μ (number m) (add n k) ω
  -- the views vs are put into the section one by one, and the members, which are us then, into the subject, under the old μ. A member that
  -- is not written keeps what it stood for; old members past the last view are dropped; what is written to x agrees
  p_each : {μ : Env} {s sec x d : ℕ} {a : Value} {old vs us : Values} {q : Option Value} {ω₀ ω : Writes} → Get sh μ (residual sh s) (list old)
      → get_elem? μ x ≡ some a → Put sh (two (list old) a) (list vs) (members (get_or sh.sections sec 0) d) (two (some (list us)) q)
      → Put sh μ (list us) (residual sh s) ω₀ → Merge (only μ x q) ω₀ ω → Put sh μ (list vs) (each s sec x d) ω
  p_end : {root d : ℕ} {a : Value} {old : Values} → Put sh (two (list old) a) (list nil) (members root d) (two (some (list nil)) none)
  p_next : {root d : ℕ} {a m v : Value} {old vs us : Values} {o q₁ q₂ q : Option Value} → StoodFor sh d old m
      → Put sh (two m a) v (residual sh root) (two o q₁)
      → Put sh (two (list (rest_of old)) a) (list vs) (members root d) (two (some (list us)) q₂) → Merge1 q₁ q₂ q
      → Put sh (two (list old) a) (list (cons v vs)) (members root d) (two (some (list (cons (or_old o m) us))) q)

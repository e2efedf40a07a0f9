-- When a node has its lent type, and what a sheet that passes is (document 02, request 6).
use Rattle.std.specs.Prelude.{◌≡◌, List, [], ◌∷◌, ◌++◌, ℕ, suc, get_or}
use Rattle.std.proofs.Math.Option.{some}
use Rattle.std.proofs.Math.ListN.{get_elem?}
use Rattle.node.specs.declared.Node.{Node}
use Rattle.node.specs.declared.Node.TheVariants.{Var, False, True, Empty, Number, Front, Pair, ListCase, TruthCase, Split, Call, Add, Each, Wide}
use Rattle.sheet.specs.Sheet.{Sheet}
use Rattle.rules.specs.Semantics.{two}
use Rattle.typing.specs.Types.{Ty, truths, numbers, lists, pairs}

-- the types of a section: of its two variables, and of what it gives
pub record Section : Type 0 where
  pub first : Ty
  pub second : Ty
  pub result : Ty

-- what is lent beside a sheet: a type for each plan variable, three for each section, one for the view, one for each node
pub record Lent : Type 0 where
  pub plan : List Ty
  pub sections : List Section
  pub view : Ty
  pub nodes : List Ty

abbrev pub Scope : Type 0
Scope = List Ty

abbrev pub node_of : Sheet → ℕ → Node
node_of sh n = get_or sh.nodes n False

abbrev pub root_of : Sheet → ℕ → ℕ
root_of sh c = get_or sh.sections c 0

abbrev pub type_of : Lent → ℕ → Ty
type_of ts n = get_or ts.nodes n truths

abbrev pub section_of : Lent → ℕ → Section
section_of ts c = get_or ts.sections c (record { first = truths; second = truths; result = truths })

-- the types of the two variables that a case on a list or a pair adds
abbrev pub added : Ty → Scope
added truths = []
added numbers = []
added (lists t) = two t (lists t)
added (pairs a b) = two a b

module _ (ts : Lent) where
  -- a node of the type t in the scope Γ, by its kind and the types that its children have been lent
  abbrev pub Fits : Node → Ty → Scope → Type 0
  Fits (Var x) t Γ = get_elem? Γ x ≡ some t
  Fits False t Γ = t ≡ truths
  Fits True t Γ = t ≡ truths
  Fits Empty t Γ = (u : Ty) × (t ≡ lists u)
  Fits (Number n) t Γ = t ≡ numbers
  Fits (Wide n) t Γ = t ≡ numbers
  Fits (Front a b) t Γ = (t ≡ lists (type_of ts a)) × (type_of ts b ≡ t)
  Fits (Pair a b) t Γ = t ≡ pairs (type_of ts a) (type_of ts b)
  Fits (ListCase s e te n tn df dr) t Γ =
      (type_of ts s ≡ lists (type_of ts df)) × (type_of ts dr ≡ type_of ts s) × (type_of ts e ≡ t) × (type_of ts n ≡ t)
  Fits (TruthCase s f tf g tg) t Γ = (type_of ts s ≡ truths) × (type_of ts f ≡ t) × (type_of ts g ≡ t)
  Fits (Split s i) t Γ = (a : Ty) × (b : Ty) × (type_of ts s ≡ pairs a b) × (type_of ts i ≡ t)
  Fits (Call c x y) t Γ =
      (get_elem? Γ x ≡ some (section_of ts c).first) × (get_elem? Γ y ≡ some (section_of ts c).second) × (t ≡ (section_of ts c).result)
  Fits (Add n k) t Γ = (t ≡ numbers) × (type_of ts n ≡ numbers)
  Fits (Each s c x d) t Γ =
      (type_of ts s ≡ lists (section_of ts c).first) × (type_of ts d ≡ (section_of ts c).first)
      × (get_elem? Γ x ≡ some (section_of ts c).second) × (t ≡ lists (section_of ts c).result)

  -- its children, each with its scope: a branch of 17 or 19 has two variables more, the defaults of 17 the view alone, that of 1C none
  abbrev pub places : Node → Ty → Scope → List (ℕ × Scope)
  places (Var x) t Γ = []
  places False t Γ = []
  places True t Γ = []
  places Empty t Γ = []
  places (Number n) t Γ = []
  places (Wide n) t Γ = []
  places (Front a b) t Γ = (a, Γ) ∷ (b, Γ) ∷ []
  places (Pair a b) t Γ = (a, Γ) ∷ (b, Γ) ∷ []
  places (ListCase s e te n tn df dr) t Γ = (s, Γ) ∷ (e, Γ) ∷ (n, Γ ++ added (type_of ts s)) ∷ (df, t ∷ []) ∷ (dr, t ∷ []) ∷ []
  places (TruthCase s f tf g tg) t Γ = (s, Γ) ∷ (f, Γ) ∷ (g, Γ) ∷ []
  places (Split s i) t Γ = (s, Γ) ∷ (i, Γ ++ added (type_of ts s)) ∷ []
  places (Call c x y) t Γ = []
  places (Add n k) t Γ = (n, Γ) ∷ []
  places (Each s c x d) t Γ = (s, Γ) ∷ (d, []) ∷ []

pub data In {A : Type 0} (a : A) : List A → Type 0 where
  here : {l : List A} → In a (a ∷ l)
  there : {b : A} {l : List A} → In a l → In a (b ∷ l)

-- where a walk begins: the main root in the plan's scope, for the view, and the root of each section in the scope of its two variables
pub record Root : Type 0 where
  pub node : ℕ
  pub scope : Scope
  pub type : Ty

abbrev pub section_root : Lent → ℕ → ℕ → Root
section_root ts c r = record { node = r; scope = two (section_of ts c).first (section_of ts c).second; type = (section_of ts c).result }

abbrev pub section_roots : Lent → ℕ → List ℕ → List Root
section_roots ts c [] = []
section_roots ts c (r ∷ rs) = section_root ts c r ∷ section_roots ts (suc c) rs

abbrev pub main_root : Sheet → Lent → Root
main_root sh ts = record { node = sh.root; scope = ts.plan; type = ts.view }

abbrev pub roots : Sheet → Lent → List Root
roots sh ts = main_root sh ts ∷ section_roots ts 0 sh.sections

module _ (sh : Sheet) (ts : Lent) where
  -- the node n is reached from a root, and stands there in the scope Γ
  pub data Reached : ℕ → Scope → Type 0 where
    root : {r : Root} → In r (roots sh ts) → Reached r.node r.scope
    child : {n m : ℕ} {Γ Δ : Scope} → Reached n Γ → In (m, Δ) (places ts (node_of sh n) (type_of ts n) Γ) → Reached m Δ

  -- where it is a root, it has the type that is asked there
  abbrev pub Placed : ℕ → Type 0
  Placed n = (r : Root) → In r (roots sh ts) → r.node ≡ n → type_of ts n ≡ r.type

  -- it has its lent type there
  pub record Right (n : ℕ) (Γ : Scope) : Type 0 where
    pub fits : Fits ts (node_of sh n) (type_of ts n) Γ
    pub placed : Placed n

  -- and so has every node that is reached
  abbrev pub Passed : Type 0
  Passed = (n : ℕ) (Γ : Scope) → Reached n Γ → Right n Γ

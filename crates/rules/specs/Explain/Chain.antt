-- What a refusal says, in the explaining reading: its chain begins with the node that was entered, leads from each node to one that it may
-- enter, and is no longer than the levels allow; its last node is of a kind that refuses so; of 54, and 54 alone, a node wrote first.
use Rattle.std.proofs.Math.Path.{◌≡◌}
use Rattle.std.proofs.Math.Option.{none, some}
use Rattle.std.specs.Prelude.{List, [], ◌∷◌, length, get_or}
use Prim.Native.Nat.{ℕ, ◌≤◌}
use Rattle.node.specs.declared.Node.{Node}
use Rattle.node.specs.declared.Node.TheVariants.{False}
use Rattle.sheet.specs.Sheet.{Sheet}
pub use Rattle.rules.specs.Nodes.{◌∈◌, here, there}
use Rattle.rules.specs.Nodes.{entries, Way, MayRefuse}
use Rattle.rules.specs.Explain.{Cause, Exit, got, met, Explained}

-- each node of the list is one that the node before it may enter, and the first is one that m may
abbrev pub Leads : Sheet → ℕ → List ℕ → Type 0
Leads sh m [] = Unit
Leads sh m (n ∷ ns) = (n ∈ entries sh (get_or sh.nodes m False)) × Leads sh n ns

-- of a refusal of the node n or below it, where n has l levels below it: its chain begins with n and leads on from there
pub record Chain (sh : Sheet) (n l : ℕ) (y : Cause) : Type 0 where
  pub rest : List ℕ
  pub begins : y.chain ≡ n ∷ rest
  pub leads : Leads sh n rest
  pub short : length rest ≤ l
  pub deepest : y.code ≡ 40 → length rest ≡ l

-- the last node of a chain
abbrev pub last_of : ℕ → List ℕ → ℕ
last_of n [] = n
last_of n (m ∷ ns) = last_of m ns

-- who wrote first: of 54 a node of P, and of no other refusal any
pub data Wrote (P : ℕ → Type 0) (y : Cause) : Type 0 where
  nobody : y.first ≡ none → (y.code ≡ 54 → ⊥) → Wrote P y
  somebody : {m : ℕ} → y.first ≡ some m → P m → y.code ≡ 54 → Wrote P y

-- all that is said of a refusal of the node n or below it
pub record Refuses (P : ℕ → Type 0) (w : Way) (sh : Sheet) (n l : ℕ) (y : Cause) : Type 0 where
  pub chain : Chain sh n l y
  pub kind : 42 ≤ y.code → MayRefuse w (get_or sh.nodes (last_of n chain.rest) False) y.code
  pub wrote : Wrote P y

-- what a refusal says below the node whose rule is followed: nothing where it is that node's own, and then its kind has the number; or else a
-- node that this one may enter, with l levels left below
pub data Below (P : ℕ → Type 0) (w : Way) (sh : Sheet) (nd : Node) (l : ℕ) (y : Cause) : Type 0 where
  itself : y.chain ≡ [] → MayRefuse w nd y.code → Wrote P y → Below P w sh nd l y
  further : {n : ℕ} → n ∈ entries sh nd → Refuses P w sh n l y → Below P w sh nd l y

-- where it is a refusal, P holds of it
pub data Meets {A : Type 0} (P : Cause → Type 0) : Exit A → Type 0 where
  came : {a : A} {s : ℕ} → Meets P (got a s)
  stop : {y : Cause} {s : ℕ} → P y → Meets P (met y s)

-- with `left` steps left: where it is done, it took no more and Q holds of what was done; where it is a refusal, P holds of it, and for 41 all
-- steps are taken
pub data Ends {A : Type 0} (P : Cause → Type 0) (Q : A → Type 0) (left : ℕ) : Exit A → Type 0 where
  ended : {a : A} {s : ℕ} → s ≤ left → Q a → Ends P Q left (got a s)
  stopped : {y : Cause} {s : ℕ} → (y.code ≡ 41 → s ≡ left) → P y → Ends P Q left (met y s)

-- the same under every allowance
pub record Always {A : Type 0} (P : Cause → Type 0) (Q : A → Type 0) (m : Explained A) : Type 0 where
  pub at : (left : ℕ) → Ends P Q left (m left)

abbrev pub Whoever : ℕ → Type 0
Whoever n = Unit {0}

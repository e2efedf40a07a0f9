-- Plans that differ only in variables that no record names read out alike, and take a list alike (document 02, request 13, second half).
-- Of every sheet: a record names a variable if it has a field for one (10, 1A and 1C).
use Rattle.std.specs.Prelude.{◌≡◌, Bool, false, ◌||◌, List, [], ◌∷◌, eqb, length, get_or}
use Rattle.std.proofs.Math.Option.{some}
use Prim.Native.Nat.{ℕ}
use Rattle.std.proofs.Math.ListN.{get_elem?}
use Rattle.node.specs.declared.Node.{Node}
use Rattle.node.specs.declared.Node.TheVariants.{False}
use Rattle.node.specs.Kinds.{variables}
use Rattle.sheet.specs.Rows.{Every}
use Rattle.sheet.specs.Sheet.{Sheet}
use Rattle.rules.specs.Counting.{Env, Cells}

-- WHICH VARIABLES A SHEET NAMES

-- x is one of these numbers
pub data Occurs (x : ℕ) : List ℕ → Type 0 where
  here : {l : List ℕ} → Occurs x (x ∷ l)
  there : {y : ℕ} {l : List ℕ} → Occurs x l → Occurs x (y ∷ l)

-- the number x stands as a variable in a record of the sheet. (Behind the last node `get_or` finds a constant, which names none)
abbrev pub Named : Sheet → ℕ → Type 0
Named sh x = (i : ℕ) × Occurs x (variables (get_or sh.nodes i False))

-- N holds of every number that a record names as a variable
abbrev pub Covers : Sheet → (ℕ → Type 0) → Type 0
Covers sh N = (i : ℕ) → Every N (variables (get_or sh.nodes i False))

-- THE SAME AS A TEST
unfoldable pub stands : ℕ → List ℕ → Bool
stands x [] = false
stands x (y ∷ l) = eqb y x || stands x l

unfoldable pub names : ℕ → List Node → Bool
names x [] = false
names x (n ∷ ns) = stands x (variables n) || names x ns

-- as many values, and the same ones at N
abbrev pub SameAt : (ℕ → Type 0) → Env → Env → Type 0
SameAt N μ ν = (length μ ≡ length ν) × ((x : ℕ) → N x → get_elem? μ x ≡ get_elem? ν x)

-- A CELL OF NO NAMED VARIABLE IS LEFT
abbrev pub Spares : (ℕ → Type 0) → ℕ → List ℕ → Type 0
Spares N c σ = (x d : ℕ) → N x → get_elem? σ x ≡ some d → d ≡ c → ⊥

abbrev pub Not : ℕ → ℕ → Type 0
Not c d = d ≡ c → ⊥

-- as many cells, and in c what was there
pub record Left (c : ℕ) (W X : Cells) : Type 0 where
  pub many : length X ≡ length W
  pub same : get_elem? X c ≡ get_elem? W c

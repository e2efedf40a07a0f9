-- What holds of every outcome of the judging reading: of what was done, and of a refusal with the value that was judged.
use Rattle.std.specs.Prelude.{◌≡◌, List, [], ◌∷◌}
use Rattle.std.proofs.Math.Option.{Option, some}
use Prim.Native.Nat.{ℕ}
use Rattle.value.specs.Value.{Value, list, wide, nil}
use Rattle.node.specs.declared.Node.{Node}
use Rattle.node.specs.declared.Node.TheVariants.{Front, Add}
use Rattle.sheet.specs.Sheet.{Sheet}
use Rattle.rules.specs.Explain.{Cause}
use Rattle.typing.specs.Fits.{node_of}
use Rattle.typing.specs.Judging.{Judged, has, lacks, Judging}

-- REFUSALS THAT A SHEET THAT PASSED CAN STILL MEET

-- a number that is none of the three
abbrev pub Plain : ℕ → Type 0
Plain c = (c ≡ 42 → ⊥) × (c ≡ 43 → ⊥) × (c ≡ 51 → ⊥)

-- the three where they are met all the same, by the node that refuses and the value that it judged: an 06 meets an add, forwards (43) or
-- backwards (51); an empty list meets a 15 (51)
pub data Excuse (P : ℕ → Type 0) : Node → ℕ → Option Value → Type 0 where
  wide_got : {m k w : ℕ} → P w → Excuse P (Add m k) 43 (some (wide w))
  wide_put : {m k w : ℕ} → P w → Excuse P (Add m k) 51 (some (wide w))
  empty_put : {a b : ℕ} → Excuse P (Front a b) 51 (some (list nil))

-- n is the last of them
pub data Last (n : ℕ) : List ℕ → Type 0 where
  last : Last n (n ∷ [])
  before : {m : ℕ} {ns : List ℕ} → Last n ns → Last n (m ∷ ns)

pub data Allowed (sh : Sheet) (P : ℕ → Type 0) (y : Cause) (v : Option Value) : Type 0 where
  plain : Plain y.code → Allowed sh P y v
  excused : {n : ℕ} → Last n y.chain → Excuse P (node_of sh n) y.code v → Allowed sh P y v

-- below the node whose rule is followed: its own refusals are named by no node yet
pub data Inside (sh : Sheet) (P : ℕ → Type 0) (nd : Node) (y : Cause) (v : Option Value) : Type 0 where
  itself : y.chain ≡ [] → Excuse P nd y.code v → Inside sh P nd y v
  further : Allowed sh P y v → Inside sh P nd y v

-- OUTCOMES
pub data Ends {A : Type 0} (R : Cause → Option Value → Type 0) (Q : A → Type 0) : Judged A → Type 0 where
  well : {a : A} {s : ℕ} → Q a → Ends R Q (has a s)
  ill : {y : Cause} {v : Option Value} {s : ℕ} → R y v → Ends R Q (lacks y v s)

-- under every allowance
pub record Always {A : Type 0} (R : Cause → Option Value → Type 0) (Q : A → Type 0) (m : Judging A) : Type 0 where
  pub at : (left : ℕ) → Ends R Q (m left)

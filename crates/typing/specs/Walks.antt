-- Whole walks and calls of a sheet that passed, for plans and views of the stated types (document 02, request 6).
use Rattle.std.specs.Prelude.{◌≡◌, ◌⊎◌, Bool, true, false, ◌&&◌, List, [], ◌∷◌, ℕ}
use Rattle.std.proofs.Math.Option.{Option, some}
use Rattle.value.specs.Value.{Value, Values, vfalse, vtrue, list, number, wide, pair, nil, cons}
use Rattle.node.specs.declared.Node.{Node}
use Rattle.node.specs.declared.Node.TheVariants.{Front, Add}
use Rattle.sheet.specs.Sheet.{Sheet}
use Rattle.rules.specs.Explain.{Cause}
use Rattle.rules.specs.Explain.Calls.{node}
use Rattle.typing.specs.Types.{Ty, truths, numbers, lists, pairs}
use Rattle.typing.specs.Fits.{node_of}
use Rattle.typing.specs.Ends.{Plain, Excuse}

-- VALUES OF A TYPE, as a test; w says whether numbers of kind 06 are taken
unfoldable pub is_truth : Value → Bool
is_truth vfalse = true
is_truth vtrue = true
is_truth (list l) = false
is_truth (number n) = false
is_truth (wide n) = false
is_truth (pair a b) = false

unfoldable pub numeric : Bool → Value → Bool
numeric w vfalse = false
numeric w vtrue = false
numeric w (list l) = false
numeric w (number n) = true
numeric w (wide n) = w
numeric w (pair a b) = false

unfoldable pub each : (Value → Bool) → Values → Bool
each p nil = true
each p (cons v l) = p v && each p l

unfoldable pub list_of : (Value → Bool) → Value → Bool
list_of p vfalse = false
list_of p vtrue = false
list_of p (list l) = each p l
list_of p (number n) = false
list_of p (wide n) = false
list_of p (pair a b) = false

unfoldable pub pair_of : (Value → Bool) → (Value → Bool) → Value → Bool
pair_of p q vfalse = false
pair_of p q vtrue = false
pair_of p q (list l) = false
pair_of p q (number n) = false
pair_of p q (wide n) = false
pair_of p q (pair a b) = p a && q b

unfoldable pub typed : Bool → Ty → Value → Bool
typed w truths v = is_truth v
typed w numbers v = numeric w v
typed w (lists t) v = list_of (typed w t) v
typed w (pairs a b) v = pair_of (typed w a) (typed w b) v

unfoldable pub typed_all : Bool → List Ty → List Value → Bool
typed_all w [] [] = true
typed_all w [] (v ∷ vs) = false
typed_all w (t ∷ ts) [] = false
typed_all w (t ∷ ts) (v ∷ vs) = typed w t v && typed_all w ts vs

-- numbers of kind 06 where they are taken
abbrev pub If : Bool → ℕ → Type 0
If w n = w ≡ true

-- WHAT IS LEFT OF A REFUSAL'S FACTS where only its number is told
pub data Permitted (sh : Sheet) (P : ℕ → Type 0) (c : ℕ) : Type 0 where
  plainly : Plain c → Permitted sh P c
  with_excuse : (n : ℕ) {v : Option Value} → Excuse P (node_of sh n) c v → Permitted sh P c

-- 43: an add, and an 06
pub data Adds (P : ℕ → Type 0) : Node → Option Value → Type 0 where
  adds : {m k w : ℕ} → P w → Adds P (Add m k) (some (wide w))

pub data Empties : Node → Option Value → Type 0 where
  empties : {a b : ℕ} → Empties (Front a b) (some (list nil))

-- what is known of a refusal in the explaining reading: the node where it was met, and what was judged there
pub record Facts (sh : Sheet) (P : ℕ → Type 0) (y : Cause) (v : Option Value) : Type 0 where
  pub not_42 : y.code ≡ 42 → ⊥
  pub at_43 : y.code ≡ 43 → Adds P (node_of sh (node y)) v
  pub at_51 : y.code ≡ 51 → Adds P (node_of sh (node y)) v ⊎ Empties (node_of sh (node y)) v

-- Request 13 of document 02, of the answers of whole calls on bytes.
use Rattle.std.specs.Prelude.{◌≡◌, ◌||◌, ◌⊎◌, List, ℕ, T, eqb, get_or}
use Rattle.std.proofs.Math.ListN.{get_elem?}
use Rattle.value.specs.Result.{ok}
use Rattle.value.specs.Reading.{read_plan}
use Rattle.node.specs.declared.Node.TheVariants.{False}
use Rattle.node.specs.Kinds.{row, variables}
use Rattle.sheet.specs.Sheet.{Sheet}
use Rattle.rules.specs.Outcome.{Out, refused}
use Rattle.rules.specs.Counting.{Env}
use Rattle.rules.specs.Answer.{Answer, refusal, success, door}
use Rattle.undo.specs.Alike.{Occurs}

-- PLANS THAT DIFFER WHERE NO RECORD LOOKS

-- the door lets all through or none
abbrev pub Either : (need output scratch allowance : ℕ) → Type 0
Either need output scratch allowance =
    ((o : Out (List ℕ)) → door need output scratch allowance o ≡ o)
    ⊎ ((c : ℕ) × ((o : Out (List ℕ)) → door need output scratch allowance o ≡ refused c 0))

-- two new plans, of N the variables that a record names: those that none names are left as they were, and the rest are the same in both
pub record Wrote (sh : Sheet) (N : ℕ → Type 0) (μ ν : Env) (new new' : List ℕ) : Type 0 where
  pub first : Env
  pub second : Env
  pub first_read : read_plan sh.k new ≡ ok first
  pub second_read : read_plan sh.k new' ≡ ok second
  pub rest : (x : ℕ) → N x → get_elem? first x ≡ get_elem? second x
  pub first_left : (x : ℕ) → (N x → ⊥) → get_elem? first x ≡ get_elem? μ x
  pub second_left : (x : ℕ) → (N x → ⊥) → get_elem? second x ≡ get_elem? ν x

-- two puts: refused alike, or done in as many steps
pub data PutsSame (sh : Sheet) (N : ℕ → Type 0) (μ ν : Env) : Answer → Answer → Type 0 where
  refusals : {c : ℕ} → PutsSame sh N μ ν (refusal c) (refusal c)
  successes : {new new' : List ℕ} {n : ℕ} → Wrote sh N μ ν new new' → PutsSame sh N μ ν (success new n) (success new' n)

-- THE REQUEST'S OWN WORDS: sheets with no 17, 18 or 1C in the file, and variables whose numbers stand in no 10 or 1A record
abbrev pub NamedIn10or1A : Sheet → ℕ → Type 0
NamedIn10or1A sh x = (i : ℕ) × T (eqb (row (get_or sh.nodes i False)).kind 0x10 || eqb (row (get_or sh.nodes i False)).kind 0x1A)
    × Occurs x (variables (get_or sh.nodes i False))

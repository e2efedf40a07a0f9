-- On a sheet that passed no variable is out of scope (42), whatever values the plan and the view have: a scope has as many variables as it has types.
use Rattle.std.specs.Prelude.{◌≡◌, List}
use Prim.Native.Nat.{ℕ, ◌<◌}
use Rattle.value.specs.All.{All}
use Rattle.rules.specs.Outcome.{Out, done, refused}

-- what is done has Q, and a refusal is not 42
pub data Safe {A : Type 0} (Q : A → Type 0) : Out A → Type 0 where
  fine : {a : A} {s : ℕ} → Q a → Safe Q (done a s)
  other : {c s : ℕ} → (c ≡ 42 → ⊥) → Safe Q (refused c s)

abbrev pub Any : {A : Type 0} → A → Type 0
Any a = Unit {0}

abbrev pub CellsIn : ℕ → List ℕ → Type 0
CellsIn k σ = All (λ c. c < k) σ

-- On a sheet that passed 42 never occurs, whatever the plan and the view are: more than document 02's request 6 asks, which speaks of plans and views of
-- the stated types.
use Rattle.std.specs.Prelude.{ℕ, ◌≤◌}
use Rattle.value.specs.Result.{Result, ok, refusal}

-- READERS: a value's refusals are c to c + 2
pub data Low {A : Type 0} (m : ℕ) : Result A → Type 0 where
  read : {a : A} → Low m (ok a)
  low : {d : ℕ} → d ≤ m → Low m (refusal d)

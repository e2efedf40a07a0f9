-- Rules for outcomes: what holds after one walk and the next, so that a proof reads like the definition it is about.
use Rattle.std.specs.Prelude.{◌≡◌, ℕ, ◌≤◌}
use Rattle.rules.specs.Outcome.{Out, done, refused}

-- Q of what was done; R where it was refused
pub data After {A : Type 0} (R : Type 0) (Q : A → ℕ → Type 0) : Out A → Type 0 where
  finished : {a : A} {s : ℕ} → Q a s → After R Q (done a s)
  stopped : {c s : ℕ} → R → After R Q (refused c s)

-- o gives v, in at most s steps
abbrev pub DoneWithin : {A : Type 0} → Out A → A → ℕ → Type 0
DoneWithin o v s = After ⊥ (λ a t. (a ≡ v) × (t ≤ s)) o

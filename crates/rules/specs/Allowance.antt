-- The allowance of steps, applied from outside (document 01, "Entering a node").
use Rattle.std.specs.Prelude.{ℕ, ◌≤◌}
use Rattle.std.proofs.Math.Decide.{dec_le}
use Rattle.rules.specs.Outcome.{Out, refused, steps}

module _ {A : Type 0} where
  unfoldable pub cap : {a : ℕ} (o : Out A) → Dec (steps o ≤ a) → Out A
  cap o (yes h) = o
  cap {a} o (no h) = refused 41 a

  -- o where it takes at most a steps, and else 41. This is the same as paying a step on entering each node: a walk that
  -- takes more than a steps is refused where it enters the node after the a-th, before any refusal that comes later
  -- (`within_bind` of Laws/Allowances.antt); and a node that is too deep costs no step, so its 40 comes before 41.
  unfoldable pub within : ℕ → Out A → Out A
  unfolding cap
  within a o = cap {a = a} o (dec_le (steps o) a)

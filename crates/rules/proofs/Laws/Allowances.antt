-- How an allowance is handed on from step to step.
use Rattle.std.proofs.Math.Path.{◌≡◌, refl}
use Rattle.std.proofs.Common.{ap, arith}
use Rattle.std.specs.Prelude.{ℕ, ◌+◌, ◌-◌, ◌≤◌, ◌<◌}
use Rattle.std.proofs.Math.Decide.{dec_le}
use Rattle.rules.specs.Outcome.{Out, done, refused, plus, steps, ◌>>=◌}
use Rattle.rules.specs.Allowance.{cap, within}

module _ {A : Type 0} where
  pub within_yes : (a : ℕ) (o : Out A) → steps o ≤ a → within a o ≡ o
  unfolding within cap
  within_yes a o h = go (dec_le (steps o) a)
    where
      go : (d : Dec (steps o ≤ a)) → cap {a = a} o d ≡ o
      go (yes k) = refl
      go (no k) = absurd (k h)

  pub within_no : (a : ℕ) (o : Out A) → a < steps o → within a o ≡ refused 41 a
  unfolding within cap
  within_no a o h = go (dec_le (steps o) a)
    where
      go : (d : Dec (steps o ≤ a)) → cap {a = a} o d ≡ refused 41 a
      go (yes k) = absurd (omega arith)
      go (no k) = refl

  pub done-within : (a : ℕ) (x : A) (s : ℕ) → s ≤ a → within a (done x s) ≡ done x s
  unfolding steps
  done-within a x s h = within_yes a (done x s) h

  pub within-done : (a : ℕ) (o : Out A) {x : A} {s : ℕ} → within a o ≡ done x s → (o ≡ done x s) × (s ≤ a)
  unfolding steps within cap
  within-done a o {x} {s} e = go (dec_le (steps o) a) e
    where
      go : (d : Dec (steps o ≤ a)) → cap {a = a} o d ≡ done x s → (o ≡ done x s) × (s ≤ a)
      go (yes k) e = (e, rw e at k)
      go (no k) e = let z : ◌≡◌ {A = ℕ} 0 1 = cc in absurd (omega arith)

  steps-plus : (s : ℕ) (o : Out A) → steps (plus s o) ≡ s + steps o
  unfolding steps plus
  steps-plus s (done a t) = refl
  steps-plus s (refused c t) = refl

  -- steps that are taken come off the allowance
  pub within-plus : (a s : ℕ) (o : Out A) → s ≤ a → within a (plus s o) ≡ plus s (within (a - s) o)
  unfolding plus
  within-plus a s o h = go (dec_le (steps o) (a - s))
    where
      go : Dec (steps o ≤ a - s) → within a (plus s o) ≡ plus s (within (a - s) o)
      go (yes k) = rw (within_yes (a - s) o k) (within_yes a (plus s o) (omega (arith, steps-plus s o)))
      go (no k) = rw (within_no (a - s) o (omega arith), within_no a (plus s o) (omega (arith, steps-plus s o))) (ap (refused 41) (omega arith))

  -- and a node is not entered with none left
  pub within_none : (o : Out A) → within 0 (plus 1 o) ≡ refused 41 0
  within_none o = within_no 0 (plus 1 o) (omega (arith, steps-plus 1 o))

module _ {A B : Type 0} where
  unfoldable pub chain : Out A → (A → ℕ → Out B) → Out B
  chain (done a s) k = plus s (k a s)
  chain (refused c s) k = refused c s

  -- first m within a; then the rest within what is left
  pub within_bind : (a : ℕ) (m : Out A) (f : A → Out B) → within a (m >>= f) ≡ chain (within a m) (λ x s. within (a - s) (f x))
  unfolding ◌>>=◌ chain steps
  within_bind a (refused c s) f = go (dec_le s a)
    where
      go : Dec (s ≤ a) → within a (refused c s) ≡ chain (within a (refused c s)) (λ x t. within (a - t) (f x))
      go (yes k) = rw (within_yes {A = A} a (refused c s) k, within_yes {A = B} a (refused c s) k)
      go (no k) = rw (within_no {A = A} a (refused c s) (omega arith), within_no {A = B} a (refused c s) (omega arith))
  within_bind a (done x s) f = go (dec_le s a)
    where
      go : Dec (s ≤ a) → within a (plus s (f x)) ≡ chain (within a (done x s)) (λ y t. within (a - t) (f y))
      go (yes k) = rw (within_yes a (done x s) k) (within-plus a s (f x) k)
      go (no k) = rw (within_no a (done x s) (omega arith)) (within_no a (plus s (f x)) (omega (arith, steps-plus s (f x))))

-- Outcomes of a walk: what was done or why it was refused, with the steps taken; and how one follows another.
use Rattle.std.proofs.Math.Option.{Option, none, some}
use Rattle.std.specs.Prelude.{ℕ, ◌+◌}
use Rattle.value.specs.Result.{Result, ok, refusal}

-- a refusal is a number of document 01's table; steps are the nodes entered
pub data Out (A : Type 0) : Type 0 where
  done : A → ℕ → Out A
  refused : ℕ → ℕ → Out A

module _ {A : Type 0} where
  unfoldable pub plus : ℕ → Out A → Out A
  plus s (done a t) = done a (s + t)
  plus s (refused c t) = refused c (s + t)

  unfoldable pub steps : Out A → ℕ
  steps (done a s) = s
  steps (refused c s) = s

  -- what a decision shows
  unfoldable pub when : Dec A → Option A
  when (yes p) = some p
  when (no p) = none

infixl 20 ◌>>=◌
module _ {A B : Type 0} where
  -- one after the other: the first refusal met ends the walk, and steps add up
  unfoldable pub ◌>>=◌ : Out A → (A → Out B) → Out B
  unfolding plus
  ◌>>=◌ (done a s) f = plus s (f a)
  ◌>>=◌ (refused c s) f = refused c s

  unfoldable pub map_out : (A → B) → Out A → Out B
  map_out f (done a s) = done (f a) s
  map_out f (refused c s) = refused c s

  -- go on with what is there, or refuse with c
  unfoldable pub given : ℕ → Option A → (A → Out B) → Out B
  given c none f = refused c 0
  given c (some a) f = f a

  -- go on with what was read
  unfoldable pub reading : Result A → (A → Out B) → Out B
  reading (ok a) f = f a
  reading (refusal c) f = refused c 0

module _ {A P Q : Type 0} where
  -- the first choice where its test says yes, or else the second, or refusal 53
  unfoldable pub choose : Dec P → Dec Q → Out A → Out A → Out A
  choose (yes p) q x y = x
  choose (no p) (yes q) x y = y
  choose (no p) (no q) x y = refused 53 0

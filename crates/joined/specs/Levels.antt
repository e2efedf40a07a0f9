-- What a walk gives with some levels it gives with any other number of levels, or it is refused there with 40.
use Rattle.std.proofs.Math.Path.{◌≡◌}
use Rattle.std.specs.Prelude.{◌⊎◌, ℕ, ◌<◌, length, replicate}
use Rattle.std.proofs.Math.Option.{none}
use Rattle.value.specs.Value.{Value}
use Rattle.sheet.specs.Sheet.{Sheet}
use Rattle.rules.specs.Outcome.{Out, done, refused}
use Rattle.rules.specs.Counting.{Env, Cells, put}
use Rattle.rules.specs.Answer.{count}

-- no node is too deep: o is not refused with 40
abbrev pub NoDeeper : {A : Type 0} → Out A → Type 0
NoDeeper o = (t : ℕ) → o ≡ refused 40 t → ⊥

-- o is done as told; or it is refused with 40, having fewer levels
abbrev pub Either : {A : Type 0} (l l' : ℕ) → A → ℕ → Out A → Type 0
Either l l' v m o = (o ≡ done v m) ⊎ ((t : ℕ) × (o ≡ refused 40 t) × (l' < l))

-- a put from a whole plan, with nothing written yet
abbrev pub put_from : (l : ℕ) → Sheet → ℕ → Env → Value → Out Cells
put_from l sh n μ v = put l sh n μ (count 0 (length μ)) v (replicate (length μ) none)

-- What a walk gives: the output's length and the steps taken, or why it is refused.
use Rattle.std.specs.Prelude.{◌≡◌, ℕ, Result, Ok, MatchResult}
use Rattle.refusal.specs.declared.Refusal.{Refusal}
use Rattle.refusal.specs.Refusal.{number_of}
use Rattle.walk.specs.declared.Done.{Done}

abbrev pub Reply : Type 0
Reply = Result Done Refusal

abbrev pub finished : (len steps : ℕ) → Reply
finished len steps = Ok (record { len = len; steps = steps })

-- it is refused, with that number
abbrev pub RefusedAs : ℕ → Reply → Type 0
RefusedAs c r = MatchResult r (λ d. ⊥) (λ e. number_of e ≡ c)

-- What a reader or a writer within a call answers: the places behind what it read and behind what it wrote; or a refusal.
use Rattle.std.specs.Prelude.{ℕ, Result, Ok}
use Rattle.refusal.specs.declared.Refusal.{Refusal}
use Rattle.json_codec.specs.declared.Step.{Step}

abbrev pub Answer : Type 0
Answer = Result Step Refusal

abbrev pub done : (at put : ℕ) → Answer
done at put = Ok (record { at = at; put = put })

-- What the code answers, as the definitions say it: a value, or a refusal by its number.
use Rattle.std.specs.Prelude.{Result as Answer, Ok, Err}
use Rattle.refusal.specs.declared.Refusal.{Refusal}
use Rattle.refusal.specs.Refusal.{number_of}
use Rattle.value.specs.Result.{Result, ok, refusal}

abbrev pub numbered : {A : Type 0} → Answer A Refusal → Result A
numbered (Ok a) = ok a
numbered (Err e) = refusal (number_of e)

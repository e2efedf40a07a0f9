-- Which numbers refuse a text: 70 and 71 while it is read, 72 behind it.
use Rattle.value.specs.Result.{Result, ok, refusal}

pub data Told {A : Type 0} : Result A → Type 0 where
  read : {v : A} → Told (ok v)
  malformed : Told (refusal 70)
  deep : Told (refusal 71)

-- What calls one after the other answer together, in numbers: a refusal is its number.
use Rattle.std.specs.Prelude.{ℕ}
use Rattle.refusal.specs.Refusal.{number_of}
use Rattle.together.specs.declared.Trip.{Trip as Code}

pub data Trip : Type 0 where
  Kept : (first second : ℕ) → Trip
  Stopped : (code : ℕ) → Trip
  Broken : Trip

abbrev pub trip_of : Code → Trip
trip_of (Code.Kept first second) = Kept first second
trip_of (Code.Stopped e) = Stopped (number_of e)
trip_of Code.Broken = Broken

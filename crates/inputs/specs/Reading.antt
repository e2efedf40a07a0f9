-- What a buffer has of a reader's bytes.
use Rattle.std.specs.Prelude.{ℕ, ◌≤◌, List, length, take, Option}
use Rattle.std.specs.Io.KnownBytes.{Consumes}

-- the reader gave what stands at the front of the buffer, and nothing else; where its bytes are not known, this says nothing
pub record GaveSome (old new : Option (List ℕ)) (buffer : List ℕ) : Type 0 where
  pub count : ℕ
  pub inside : count ≤ length buffer
  pub given : Consumes old new (take count buffer)

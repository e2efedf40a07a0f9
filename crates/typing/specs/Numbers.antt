-- The numbers of the check, by the names that the code has for them (types/src/lent.rt).
use Rattle.std.specs.Prelude.{ℕ}

-- the most bytes of one type
abbrev pub longest_type : ℕ
longest_type = 256

-- the slots of types, and the one behind the last
abbrev pub past_slots : ℕ
past_slots = 241

-- The number of the programs' input, by the name that the code has for it (src/lib.rt).
use Rattle.std.specs.Prelude.{ℕ}

-- the bytes of an input, at most
abbrev pub input_limit : ℕ
input_limit = 8192

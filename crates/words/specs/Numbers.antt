-- The number of the line of `tools`, by the name that the code has for it (crate command).
use Rattle.std.specs.Prelude.{ℕ}

-- the bytes of a line of `tools`, at most: `ok`, a space, a text of 16,384 bytes in hexadecimal, a line feed
abbrev pub line_limit : ℕ
line_limit = 32772

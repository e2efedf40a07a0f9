-- The archive's version: 10,000 times its first number, 100 times the second, and the third.
use Rattle.std.specs.Prelude.{ℕ}

-- 0.1.0
abbrev pub version : ℕ
version = 100

-- THE LAW, in tokens: the tokens that are printed of a sheet that request 12's writer takes are read as the sheet that it writes.
use Rattle.std.specs.Prelude.{◌≡◌}
use mathlib.Core.List.{List, [], ◌∷◌}
use Prim.Native.Nat.{ℕ, suc}

-- NUMBERS one behind the other
abbrev pub Numbers : (ℕ → ℕ) → ℕ → List ℕ → Type 0
Numbers ρ m [] = Unit {0}
Numbers ρ m (n ∷ ns) = (ρ n ≡ m) × Numbers ρ (suc m) ns

-- The seven tests of a branch's result (HOBiT's exit conditions): document 01, "Sheet records"; docs/SHEETS.md, "Tests".
use Rattle.std.specs.Prelude.{◌≡◌, Bool, true, false, List, [], ◌∷◌, ℕ, get_or}
use Rattle.std.proofs.Math.Bool.{Bool-discrete}
use Rattle.value.specs.Value.{Value, vfalse, vtrue, list, number, wide, pair, nil, cons}

-- what a test can tell apart: 0 an empty list, 1 a list of one member, 2 of two or more, 3 False, 4 True, 5 any other value
unfoldable pub class : Value → ℕ
class vfalse = 3
class vtrue = 4
class (list nil) = 0
class (list (cons f nil)) = 1
class (list (cons f (cons g r))) = 2
class (number n) = 5
class (wide n) = 5
class (pair a b) = 5

-- a row for each test, 0 anything, 1 empty list, 2 list with members, 3 False, 4 True, 5 exactly one member, 6 two or more:
-- which classes it says yes to
unfoldable pub table : List (List Bool)
table =
    (true ∷ true ∷ true ∷ true ∷ true ∷ true ∷ []) ∷ (true ∷ []) ∷ (false ∷ true ∷ true ∷ []) ∷ (false ∷ false ∷ false ∷ true ∷ [])
    ∷ (false ∷ false ∷ false ∷ false ∷ true ∷ []) ∷ (false ∷ true ∷ []) ∷ (false ∷ false ∷ true ∷ []) ∷ []

-- whether test t says yes to v; a number that is no test says no
unfoldable pub holds : ℕ → Value → Bool
holds t v = get_or (get_or table t []) (class v) false

abbrev pub Passes : ℕ → Value → Type 0
Passes t v = holds t v ≡ true

unfoldable pub passes : (t : ℕ) (v : Value) → Dec (Passes t v)
passes t v = Bool-discrete (holds t v) true

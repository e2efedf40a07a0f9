-- The starts of a plan's values (letter L of `tools`), and one value by its number (letter V).
use Rattle.std.specs.Prelude.{cond, List, [], ◌∷◌, map, ℕ, ◌+◌, ◌*◌, leb, length, get_or, drop}
use Rattle.report.specs.Text.{hex_of, decimal_of, refusal_line, ok_line}
use Rattle.value.specs.Result.{Result, ok, refusal}
use Rattle.starts.specs.declared.Starts.{Starts}
use Rattle.starts.specs.declared.Place.{Place}
use Rattle.starts.specs.Starts.{load_of, numbers, find_of, part_of}
use Rattle.inputs.specs.Format.{two, part}
use Rattle.inputs.specs.Starts.{starts_in}

-- L: a sheet behind its length in two bytes, then a plan: the starts of the plan's values

unfoldable pub loaded_line : Result Starts → List ℕ
loaded_line (ok s) = ok_line (map decimal_of (numbers s))
loaded_line (refusal c) = refusal_line c

unfoldable pub load_line : List ℕ → List ℕ
load_line bs = let n = two bs 1 in cond (leb (3 + n) (length bs)) (loaded_line (load_of (part bs 3 n) (drop (3 + n) bs))) (refusal_line 60)

-- V: a variable's number, a count, that many starts of two bytes, then a plan: the part of the plan that holds the variable's value

unfoldable pub found_line : Result Place → (plan : List ℕ) → List ℕ
found_line (ok p) plan = ok_line (hex_of (part_of (ok p) plan) ∷ [])
found_line (refusal c) plan = refusal_line c

unfoldable pub value_line : List ℕ → List ℕ
value_line bs =
    let k = 3 + 2 * get_or bs 2 0 in
    let plan = drop k bs in
    cond (leb k (length bs)) (found_line (find_of (starts_in bs) (length plan) (get_or bs 1 0)) plan) (refusal_line 60)

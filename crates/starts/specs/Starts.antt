-- The starts of a plan's values, and a lookup by a variable's number (document 02, request 2).
use Rattle.std.specs.Prelude.{Bool, true, cond, ◌&&◌, List, [], ◌∷◌, ◌++◌, ℕ, zero, suc, ◌-◌, leb, ltb, eqb, length, get_or, take, drop, replicate}
use Rattle.value.specs.Result.{Result, ok, refusal, and_then, map_result}
use Rattle.value.specs.Value.{Value}
use Rattle.value.specs.Reading.{read_plan}
use Rattle.value.specs.Spans.{places, starts}
use Rattle.sheet.specs.Sheet.{read_sheet}
use Rattle.starts.specs.declared.Starts.{Starts}
use Rattle.starts.specs.declared.Place.{Place}

-- LOADING: the sheet's refusals, then the plan's; or where each of the plan's values starts

unfoldable pub no_starts : Starts
no_starts = record { count = 0; at = replicate 16 0 }

unfoldable pub starts_of : List Value → Starts
starts_of vs = record { count = length vs; at = places (starts 0 vs) }

unfoldable pub load_of : (sheet plan : List ℕ) → Result Starts
load_of sheet plan = map_result starts_of (and_then (read_sheet sheet) λ sh. read_plan sh.k plan)

-- the starts that are loaded; none where loading is refused
unfoldable pub starts_in : Result Starts → Starts
starts_in (ok s) = s
starts_in (refusal c) = no_starts

-- A LOOKUP in a plan of n bytes

-- the first n of some numbers; zeros where there are fewer
abbrev pub firsts : ℕ → List ℕ → List ℕ
firsts zero l = []
firsts (suc n) [] = 0 ∷ firsts n []
firsts (suc n) (a ∷ l) = a ∷ firsts n l

-- the numbers that starts hold: as many as their count says
abbrev pub numbers : Starts → List ℕ
numbers s = firsts s.count s.at

-- numbers from `low` on that rise, all below n
unfoldable pub rises : (low n : ℕ) → List ℕ → Bool
rises low n [] = true
rises low n (a ∷ l) = leb low a && (ltb a n && rises (suc a) n l)

-- 1 to 16 numbers that rise from 0, all below n
unfoldable pub proper : Starts → ℕ → Bool
proper s n = leb 1 s.count && (leb s.count 16 && (eqb (get_or s.at 0 0) 0 && rises 0 n (numbers s)))

-- variable i: from its start to the next one, or to the end
unfoldable pub stands_at : Starts → (n i : ℕ) → Place
stands_at s n i = record { start = get_or (numbers s) i 0; end = get_or (numbers s ++ (n ∷ [])) (suc i) 0 }

-- 24 starts that are not proper; then 23 a variable's number that is not below their count
unfoldable pub find_of : Starts → (n i : ℕ) → Result Place
find_of s n i = cond (proper s n) (cond (ltb i s.count) (ok (stands_at s n i)) (refusal 23)) (refusal 24)

-- the part of the plan's bytes that was found; the empty part where none was
unfoldable pub part_of : Result Place → List ℕ → List ℕ
part_of (ok p) plan = take (p.end - p.start) (drop p.start plan)
part_of (refusal c) plan = []

-- A value's bytes taken apart: its shape with the position where the second part starts, the two parts, and the kind bytes that the tests look at.
use Rattle.std.specs.Prelude.{Bool, true, false, Option, Some, None, Ok, Err, List, [], ◌∷◌, ℕ, ◌+◌, ◌-◌, ◌*◌, leb, eqb, length, get_or, take, drop}
use Rattle.value.specs.Reading.{Kind, k_false, k_true, k_empty, k_front, k_number, k_pair, k_wide, unknown, kind_of, read_value}
use Rattle.value.specs.Reader.{Read, outcome}
use Rattle.shapes.specs.declared.Shape.{Shape}
use Rattle.shapes.specs.declared.Shape.TheVariants.{False, True, Empty, Front, Number, Pair, Wide, Malformed}

-- where the second part starts, behind the kind byte and the first part
unfoldable pub behind : (ℕ → Shape) → Read → Shape
behind two (Ok n) = two (1 + n)
behind two (Err e) = Malformed

unfoldable pub number_in : List ℕ → Shape
number_in [] = Malformed
number_in (h ∷ []) = Malformed
number_in (h ∷ l ∷ bs) = Number (256 * h + l)

unfoldable pub shape_as : List ℕ → Kind → Shape
shape_as bs k_false = False
shape_as bs k_true = True
shape_as bs k_empty = Empty
shape_as bs k_front = behind Front (outcome (read_value bs))
shape_as bs k_number = number_in bs
shape_as bs k_pair = behind Pair (outcome (read_value bs))
shape_as bs k_wide = Wide
shape_as bs unknown = Malformed

-- a value taken apart; a second part is not read
unfoldable pub shape_of : List ℕ → Shape
shape_of [] = Malformed
shape_of (b ∷ bs) = shape_as bs (kind_of b)

-- where the second part of a list with members or of a pair starts; nothing where a value has no two parts
unfoldable pub middle_of : Shape → Option ℕ
middle_of False = None
middle_of True = None
middle_of Empty = None
middle_of (Front at) = Some at
middle_of (Number n) = None
middle_of (Pair at) = Some at
middle_of Wide = None
middle_of Malformed = None

unfoldable pub part_where : Bool → List ℕ → List ℕ
part_where true part = part
part_where false part = []

-- the first part is the bytes from 1 up to `at`, the second those from `at` on; nothing where `at` is out of range
unfoldable pub first_part : List ℕ → ℕ → List ℕ
first_part bs at = part_where (leb at (length bs)) (take (at - 1) (drop 1 bs))

abbrev pub second_part : List ℕ → ℕ → List ℕ
second_part bs at = drop at bs

-- the byte at a position; 255, which is no kind, where none is
abbrev pub kind_at : List ℕ → ℕ → ℕ
kind_at bs at = get_or bs at 255

unfoldable pub kind_behind : List ℕ → Shape → ℕ
kind_behind bs False = 255
kind_behind bs True = 255
kind_behind bs Empty = 255
kind_behind bs (Front at) = kind_at bs at
kind_behind bs (Number n) = 255
kind_behind bs (Pair at) = 255
kind_behind bs Wide = 255
kind_behind bs Malformed = 255

-- the kind byte of a list's rest
unfoldable pub rest_kind : List ℕ → ℕ
rest_kind bs = kind_behind bs (shape_of bs)

-- what each test says, 0 to 6, by a value's kind byte and that of its rest
unfoldable pub by_kinds : ℕ → ℕ → List Bool
by_kinds k r = true ∷ eqb k 2 ∷ eqb k 3 ∷ eqb k 0 ∷ eqb k 1 ∷ eqb r 2 ∷ eqb r 3 ∷ []

-- what test t says of the value that the bytes begin with; a number that is no test says no
unfoldable pub passes_bytes : ℕ → List ℕ → Bool
passes_bytes t bs = get_or (by_kinds (kind_at bs 0) (rest_kind bs)) t false

unfoldable pub both : Bool → Bool → Bool
both true b = b
both false b = false

-- whether the same bytes stand in both
unfoldable pub same_bytes : List ℕ → List ℕ → Bool
same_bytes [] [] = true
same_bytes [] (b ∷ n) = false
same_bytes (a ∷ m) [] = false
same_bytes (a ∷ m) (b ∷ n) = both (eqb a b) (same_bytes m n)

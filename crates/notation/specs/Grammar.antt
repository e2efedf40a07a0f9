-- JSON text (RFC 8259) read as a value, each byte judged in turn (document 02, request 11).
use Rattle.std.specs.Prelude.{Bool, true, false, ◌&&◌, ◌||◌, cond, List, [], ◌∷◌, ℕ, zero, suc, ◌+◌, ◌-◌, ◌*◌, eqb, leb}
use Rattle.value.specs.Value.{Value, Values, vfalse, vtrue, list, number, wide, pair, nil, cons, least_wide, size}
use Rattle.value.specs.Result.{Result, ok, refusal, and_then, unless}
use Rattle.notation.specs.Text.{level_limit}

-- What the text must go on with, and then with what:
--   value    white space and a value, in which arrays and objects nest at most so deep
--   members  white space and what stands behind `[`: nothing, or a member and what stands behind it; then `]`
--   more     white space and what stands behind a member: nothing, or a comma, a member and what stands behind it; then `]`
--   token    white space and this byte
--   exactly  this byte
--   digits   the digits that follow a number's first ones, which make n
--   finished white space; the text is this value
pub data Awaits : Type 0 where
  value : (levels : ℕ) → (Value → Awaits) → Awaits
  members more : (levels : ℕ) → (Values → Awaits) → Awaits
  token exactly : ℕ → Awaits → Awaits
  digits : ℕ → (Value → Awaits) → Awaits
  finished : Value → Awaits

-- these bytes
unfoldable pub word : List ℕ → Awaits → Awaits
word [] w = w
word (c ∷ cs) w = exactly c (word cs w)

-- the literals behind their first letter
unfoldable pub alse : List ℕ
alse = 0x61 ∷ 0x6C ∷ 0x73 ∷ 0x65 ∷ []

unfoldable pub rue : List ℕ
rue = 0x72 ∷ 0x75 ∷ 0x65 ∷ []

-- the name of a member of an object, which is one letter and is read without escapes, and a colon
unfoldable pub name : (letter : ℕ) → Awaits → Awaits
name letter w = token 0x22 (word (letter ∷ 0x22 ∷ []) (token 0x3A w))

-- a member of an object: its name, a colon and its value
unfoldable pub named : (letter levels : ℕ) → (Value → Awaits) → Awaits
named letter levels k = name letter (value levels k)

-- an object behind `{`: the members "a" and "b" and `}`
unfoldable pub object : (levels : ℕ) → (Value → Awaits) → Awaits
object levels k = named 0x61 levels λ a. token 0x2C (named 0x62 levels λ b. token 0x7D (k (pair a b)))

-- a member of an array, and what stands behind it
unfoldable pub member : (levels : ℕ) → (Values → Awaits) → Awaits
member levels k = value levels λ v. more levels λ l. k (cons v l)

-- the value that a number is
unfoldable pub numeral : ℕ → Value
numeral n = cond (leb least_wide n) (wide n) (number n)

-- the RFC's white space: space, line feed, carriage return, tab
unfoldable pub white : ℕ → Bool
white b = eqb b 0x20 || (eqb b 0x0A || (eqb b 0x0D || eqb b 0x09))

unfoldable pub is_digit : ℕ → Bool
is_digit b = leb 0x30 b && leb b 0x39

-- the largest number
abbrev pub largest_number : ℕ
largest_number = 4294967295

-- the digit b may follow those that make n: no number has a leading zero, and none is above the largest
unfoldable pub follows : (n b : ℕ) → Bool
follows n b = leb 1 n && leb (10 * n + (b - 48)) largest_number

-- what a value begins with
pub data Start : Type 0 where
  start_false start_true start_array start_object start_number no_start : Start

unfoldable pub start_of : ℕ → Start
start_of b = cond (eqb b 0x66) start_false (cond (eqb b 0x74) start_true (cond (eqb b 0x5B) start_array (cond (eqb b 0x7B) start_object
    (cond (is_digit b) start_number no_start))))

-- ONE BYTE, b. `next` reads on behind it

module _ {A : Type 0} (b : ℕ) (next : Awaits → Result A) where
  -- a value begins: 71 where an array or an object begins one level too deep
  unfoldable pub begin : (levels : ℕ) → (Value → Awaits) → Start → Result A
  begin levels k start_false = next (word alse (k vfalse))
  begin levels k start_true = next (word rue (k vtrue))
  begin zero k start_array = refusal 71
  begin (suc levels) k start_array = next (members levels λ l. k (list l))
  begin zero k start_object = refusal 71
  begin (suc levels) k start_object = next (object levels k)
  begin levels k start_number = next (digits (b - 48) k)
  begin levels k no_start = refusal 70

  -- what was asked for is there, or not
  unfoldable pub found : Bool → Awaits → Result A
  found true w = next w
  found false w = refusal 70

  -- `]`, or a first member
  unfoldable pub or_member : Bool → (levels : ℕ) → (Values → Awaits) → Result A
  or_member true levels k = next (k nil)
  or_member false levels k = begin levels (λ v. more levels λ l. k (cons v l)) (start_of b)

  -- `]`, or a comma
  unfoldable pub or_comma : Bool → (levels : ℕ) → (Values → Awaits) → Result A
  or_comma true levels k = next (k nil)
  or_comma false levels k = found (eqb b 0x2C) (member levels k)

  -- a digit, or the number has ended
  unfoldable pub or_digit : Bool → (n : ℕ) → (Value → Awaits) → Result A → Result A
  or_digit true n k ended = found (follows n b) (digits (10 * n + (b - 48)) k)
  or_digit false n k ended = ended

  -- white space
  unfoldable pub skip : Awaits → Result A
  skip (value levels k) = next (value levels k)
  skip (members levels k) = next (members levels k)
  skip (more levels k) = next (more levels k)
  skip (token c w) = next (token c w)
  skip (exactly c w) = found (eqb b c) w
  skip (digits n k) = skip (k (numeral n))
  skip (finished v) = next (finished v)

  -- any other byte
  unfoldable pub take : Awaits → Result A
  take (value levels k) = begin levels k (start_of b)
  take (members levels k) = or_member (eqb b 0x5D) levels k
  take (more levels k) = or_comma (eqb b 0x5D) levels k
  take (token c w) = found (eqb b c) w
  take (exactly c w) = found (eqb b c) w
  take (digits n k) = let ended = take (k (numeral n)) in or_digit (is_digit b) n k ended
  take (finished v) = refusal 70

  unfoldable pub judge : Bool → Awaits → Result A
  judge true w = skip w
  judge false w = take w

-- THE WHOLE TEXT

-- the text ends: a number may end there, and nothing else may be missing
unfoldable pub ends : Awaits → Result Value
ends (value levels k) = refusal 70
ends (members levels k) = refusal 70
ends (more levels k) = refusal 70
ends (token c w) = refusal 70
ends (exactly c w) = refusal 70
ends (digits n k) = ends (k (numeral n))
ends (finished v) = ok v

unfoldable pub run : List ℕ → Awaits → Result Value
run [] w = ends w
run (b ∷ bs) w = judge b (run bs) (white b) w

-- the value that a text is: 70 not such a text, 71 nested 49 deep, each at the first byte that shows it; 72 over 256 bytes as a value
unfoldable pub read_json : List ℕ → Result Value
read_json t = and_then (run t (value level_limit finished)) λ v. unless 72 (leb (size v) 256) (ok v)

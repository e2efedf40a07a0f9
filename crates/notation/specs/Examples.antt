-- Texts and values, computed: `{"a": 7,"b":[true]}`, `65535`, `65536`, `01`, white space, an array, 48 levels, a fault in front
-- of the 49th, the 49th `[`, a `{` in its place, and a value written.
use Rattle.std.specs.Prelude.{◌≡◌, refl, [], ◌∷◌, ◌++◌, replicate}
use Rattle.value.specs.Value.{vtrue, list, number, pair, nil, cons, encode, encodes, size, sizes}
use Rattle.value.specs.Result.{ok, refusal, and_then, unless, map_result}
use Rattle.report.specs.Text.{decimal_of, decimal_in, digit_of}
use Rattle.notation.specs.Text.{json_of, depth, depths, write_json}
use Rattle.notation.specs.Grammar.{
  word,
  alse,
  rue,
  name,
  named,
  object,
  member,
  numeral,
  white,
  is_digit,
  follows,
  start_of,
  begin,
  found,
  or_member,
  or_comma,
  or_digit,
  skip,
  take,
  judge,
  ends,
  run,
  read_json,
}
use Rattle.notation.specs.Calls.{from_json}

reads_object : from_json (0x7B ∷ 0x22 ∷ 0x61 ∷ 0x22 ∷ 0x3A ∷ 0x20 ∷ 0x37 ∷ 0x2C ∷ 0x22 ∷ 0x62 ∷ 0x22 ∷ 0x3A ∷ 0x5B ∷ 0x74 ∷ 0x72 ∷ 0x75 ∷ 0x65 ∷ 0x5D ∷ 0x7D ∷
    []) 256
    ≡ ok (5 ∷ 4 ∷ 0 ∷ 7 ∷ 3 ∷ 1 ∷ 2 ∷ [])
unfolding from_json read_json run ends judge take skip or_digit or_comma or_member found begin start_of follows is_digit white numeral member object named name
    rue
    alse word map_result unless and_then encode encodes size sizes
reads_object = refl

reads_number : from_json (0x36 ∷ 0x35 ∷ 0x35 ∷ 0x33 ∷ 0x35 ∷ []) 256 ≡ ok (4 ∷ 255 ∷ 255 ∷ [])
unfolding from_json read_json run ends judge take skip or_digit found begin start_of follows is_digit white numeral map_result unless and_then encode encodes
    size
    sizes
reads_number = refl

reads_wide : from_json (0x36 ∷ 0x35 ∷ 0x35 ∷ 0x33 ∷ 0x36 ∷ []) 256 ≡ ok (6 ∷ 0 ∷ 1 ∷ 0 ∷ 0 ∷ [])
unfolding from_json read_json run ends judge take skip or_digit found begin start_of follows is_digit white numeral map_result unless and_then encode encodes
    size
    sizes
reads_wide = refl

leading_zero : read_json (0x30 ∷ 0x31 ∷ []) ≡ refusal 70
unfolding read_json run ends judge take skip or_digit found begin start_of follows is_digit white numeral unless and_then
leading_zero = refl

-- all of the RFC's white space, and a vertical tab, which is none
reads_white : from_json (0x09 ∷ 0x0A ∷ 0x0D ∷ 0x20 ∷ 0x37 ∷ 0x09 ∷ []) 256 ≡ ok (4 ∷ 0 ∷ 7 ∷ [])
unfolding from_json read_json run ends judge take skip or_digit found begin start_of follows is_digit white numeral map_result unless and_then encode encodes
    size
    sizes
reads_white = refl

vertical_tab : read_json (0x0B ∷ 0x37 ∷ []) ≡ refusal 70
unfolding read_json run ends judge take skip found begin start_of is_digit white unless and_then
vertical_tab = refl

form_feed : read_json (0x0C ∷ 0x37 ∷ []) ≡ refusal 70
unfolding read_json run ends judge take skip found begin start_of is_digit white unless and_then
form_feed = refl

-- the members of an array stay in their order, and white space may stand before a comma
reads_array : read_json (0x5B ∷ 0x74 ∷ 0x72 ∷ 0x75 ∷ 0x65 ∷ 0x20 ∷ 0x2C ∷ 0x37 ∷ 0x5D ∷ []) ≡ ok (list (cons vtrue (cons (number 7) nil)))
unfolding read_json run ends judge take skip or_digit or_comma or_member found begin start_of is_digit white numeral member rue word unless and_then size sizes
reads_array = refl

level_48 : from_json (replicate 48 0x5B ++ replicate 48 0x5D) 256 ≡ ok (replicate 47 3 ++ replicate 48 2)
unfolding from_json read_json run ends judge take skip or_comma or_member found begin start_of is_digit white map_result unless and_then encode encodes size
    sizes
level_48 = refl

-- an `x` for the `"` of a name, and behind it a `[` that would be the 49th level: the `x` is judged
fault_first : read_json (replicate 47 0x5B ++ 0x7B ∷ 0x78 ∷ 0x61 ∷ 0x22 ∷ 0x3A ∷ 0x5B ∷ []) ≡ refusal 70
unfolding read_json run ends judge take skip or_member found begin start_of is_digit white object named name word unless and_then
fault_first = refl

level_49 : read_json (replicate 49 0x5B) ≡ refusal 71
unfolding read_json run ends judge take skip or_member found begin start_of is_digit white unless and_then
level_49 = refl

object_49 : read_json (replicate 48 0x5B ++ 0x7B ∷ []) ≡ refusal 71
unfolding read_json run ends judge take skip or_member found begin start_of is_digit white unless and_then
object_49 = refl

writes_pair : write_json (pair (number 10) (list (cons vtrue nil)))
    ≡ ok (0x7B ∷ 0x22 ∷ 0x61 ∷ 0x22 ∷ 0x3A ∷ 0x31 ∷ 0x30 ∷ 0x2C ∷ 0x22 ∷ 0x62 ∷ 0x22 ∷ 0x3A ∷ 0x5B ∷ 0x74 ∷ 0x72 ∷ 0x75 ∷ 0x65 ∷ 0x5D ∷ 0x7D ∷ [])
unfolding write_json unless json_of depth depths decimal_of decimal_in digit_of
writes_pair = refl

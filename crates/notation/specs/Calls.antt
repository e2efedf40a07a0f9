-- Whole calls on bytes: a value's bytes as JSON text, and JSON text as a value's bytes (document 02, request 11).
use Rattle.std.specs.Prelude.{List, ℕ, leb, get_or}
use Rattle.value.specs.Value.{vfalse, encode}
use Rattle.value.specs.Reading.{read_view}
use Rattle.value.specs.Result.{Result, and_then, map_result, unless}
use Rattle.notation.specs.Text.{write_json}
use Rattle.notation.specs.Grammar.{read_json}

-- the bytes that the output needs: for JSON, and for a value
abbrev pub json_room : ℕ
json_room = 2048

abbrev pub value_room : ℕ
value_room = 256

-- a value's bytes as text: 1 the output too short; 30, 31, 32 of the value; 71 nested 49 deep
unfoldable pub to_json : (bytes : List ℕ) (room : ℕ) → Result (List ℕ)
to_json bytes room = unless 1 (leb json_room room) (and_then (read_view bytes) λ vs. write_json (get_or vs 0 vfalse))

-- text as a value's bytes: 1 the output too short; 70, 71 and then 72 of the text
unfoldable pub from_json : (text : List ℕ) (room : ℕ) → Result (List ℕ)
from_json text room = unless 1 (leb value_room room) (map_result encode (read_json text))

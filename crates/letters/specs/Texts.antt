-- A value as JSON (letter D of `tools`), and JSON as a value (letter E).
use Rattle.std.specs.Prelude.{◌≡◌, List, ℕ, ◌≤◌, length, drop}
use Rattle.std.proofs.Common.{arith}
use Rattle.std.proofs.Math.Path.{ap₂}
use Rattle.std.proofs.Math.Bool.{true, false}
use Rattle.value.specs.Result.{Result}
use Rattle.words.specs.Numbers.{line_limit}
use Rattle.notation.specs.Calls.{json_room, value_room, to_json, from_json}
use Rattle.notation.specs.Text.{level_limit, write_json}
use Rattle.notation.specs.Grammar.{value, finished, read_json}
use Rattle.notation.proofs.Laws.{to_short, from_short}
use Rattle.notation.specs.Numbers.{Told, read, malformed, deep}
use Rattle.notation.proofs.Numbers.{told}
use Rattle.letters.specs.Small.{Small, no, small_number, small_unless, small_then, small_map, small_view}
use Rattle.letters.specs.Making.{made_line, fits_made}

-- D: a value: its text as it stands
unfoldable pub text_line : List ℕ → List ℕ
text_line bs = made_line true (to_json (drop 1 bs) json_room)

-- E: a text: the value's bytes in hexadecimal
unfoldable pub parsed_line : List ℕ → List ℕ
parsed_line bs = made_line false (from_json (drop 1 bs) value_room)

-- HOW LONG THEY ARE

to_small : (bs : List ℕ) (n : ℕ) → Small (to_json bs n)
unfolding to_json write_json
to_small bs n = small_unless 1 _ (omega arith) (small_then (small_view bs) λ vs. small_unless 71 _ (omega arith) Small.done)

small_told : {A : Type 0} {r : Result A} → Told r → Small r
small_told read = Small.done
small_told malformed = no {c = 70} (omega arith)
small_told deep = no {c = 71} (omega arith)

from_small : (bs : List ℕ) (n : ℕ) → Small (from_json bs n)
unfolding from_json read_json
from_small bs n = small_unless 1 _ (omega arith) (small_map _ (small_then (small_told (told bs (value level_limit finished))) λ v.
    small_unless 72 _ (omega arith) Small.done))

pub fits_text : (bs : List ℕ) → length (text_line bs) ≤ line_limit
unfolding text_line
fits_text bs = fits_made true _ (λ t e. to_short (drop 1 bs) json_room e) (small_number (to_small (drop 1 bs) json_room))

pub fits_parsed : (bs : List ℕ) → length (parsed_line bs) ≤ line_limit
unfolding parsed_line
fits_parsed bs = fits_made false _ (λ t e. omega (arith, from_short (drop 1 bs) value_room e)) (small_number (from_small (drop 1 bs) value_room))

-- WHAT SHOWS IT OF THE CODE

module _ (bs : List ℕ) {s : List ℕ} {n : ℕ} (es : s ≡ drop 1 bs) where
  pub text_whole : n ≡ json_room → made_line true (to_json s n) ≡ text_line bs
  unfolding text_line
  text_whole en = ap₂ (λ x k. made_line true (to_json x k)) es en

  pub parsed_whole : n ≡ value_room → made_line false (from_json s n) ≡ parsed_line bs
  unfolding parsed_line
  parsed_whole en = ap₂ (λ x k. made_line false (from_json x k)) es en

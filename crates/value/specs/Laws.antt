-- Laws of reading: what is read is what stands there (sound), and what stands there is read (complete).
use Rattle.std.specs.Prelude.{◌≡◌, length}
use Rattle.std.proofs.Math.Option.{Option, none as no_number, some}
use mathlib.Core.List.{List, [], ◌++◌}
use Prim.Native.Nat.{ℕ, suc, ◌≤◌, ◌<◌}
use Rattle.value.specs.All.{All}
use Rattle.value.specs.Result.{Result, ok, refusal}
use Rattle.value.specs.Value.{Value, vfalse, vtrue, list, number, wide, pair, encode, encodes, Fits, flat, Encodable, Encodables}
use Rattle.value.specs.Reading.{Owed, Things, nothing, a_value, a_rest, a_body, Found, whole, malformed, too_long, Kind, k_false, k_true, k_empty}
use Rattle.value.specs.Reading.{k_front, k_number, k_pair, k_wide, unknown, joined}

-- the bytes of what was read
unfoldable pub bytes_of : {os : List Owed} → Things os → List ℕ
bytes_of nothing = []
bytes_of (a_value v t) = encode v ++ bytes_of t
bytes_of (a_rest l t) = encodes l ++ bytes_of t
bytes_of (a_body l t) = l ++ bytes_of t

-- its numbers are ones that the bytes of their kind hold; its bytes are bytes, as many as were owed, and the number is large enough
abbrev pub Proper : {os : List Owed} → Things os → Type 0
Proper nothing = Unit
Proper (a_value v t) = Encodable v × Proper t
Proper (a_rest l t) = Encodables l × Proper t
Proper (a_body {least = least} {follow = n} {before = h} l t) = ((length l ≡ suc n) × All (λ b. b < 256) l × (least ≤ joined h l)) × Proper t

-- a byte and the kind that it names
pub data Names : ℕ → Kind → Type 0 where
  is0 : Names 0 k_false
  is1 : Names 1 k_true
  is2 : Names 2 k_empty
  is3 : Names 3 k_front
  is4 : Names 4 k_number
  is5 : Names 5 k_pair
  is6 : Names 6 k_wide
  is_other : {b : ℕ} → Names b unknown

-- READ IS SOUND: the bytes of what was read stand at the front, within the room
pub data Sound (bs : List ℕ) (room : ℕ) (os : List Owed) : Found os → Type 0 where
  s_whole : {t : Things os} {more : List ℕ} → bs ≡ bytes_of t ++ more → length (bytes_of t) ≤ room → Proper t → Sound bs room os (whole t more)
  s_malformed : Sound bs room os malformed
  s_too_long : Sound bs room os too_long

-- A value that the reader takes: at most 256 bytes, and its numbers are ones that the bytes of their kind hold
pub record Readable (v : Value) : Type 0 where
  pub fits : Fits v
  pub encodable : Encodable v

-- one number has one encoding: the number that a value is decides its kind, and so its bytes
unfoldable pub numeral : Value → Option ℕ
numeral vfalse = no_number
numeral vtrue = no_number
numeral (list l) = no_number
numeral (number n) = some n
numeral (wide n) = some n
numeral (pair a b) = no_number

-- Several values: what is read is all that stands there
pub record ReadAs (k : ℕ) (bs : List ℕ) (vs : List Value) : Type 0 where
  pub bytes : bs ≡ flat vs
  pub count : length vs ≡ k
  pub readable : All Readable vs

pub data SoundValues (k : ℕ) (bs : List ℕ) : Result (List Value) → Type 0 where
  s_ok : {vs : List Value} → ReadAs k bs vs → SoundValues k bs (ok vs)
  s_refusal : {c : ℕ} → SoundValues k bs (refusal c)

-- What reading a text answers, for other languages: one number, and the place of a fault in a number that the caller lends.
use Rattle.std.specs.Prelude.{◌≡◌, refl, List, ℕ, ◌<◌}
use Rattle.std.proofs.Common.{arith}
use Rattle.parsing.specs.declared.Reading.{Reading}
use Rattle.parsing.specs.declared.Reading.TheVariants.{Done, Refused, At}
use Rattle.parsing.specs.Answer.{ReadAnswer, reply_of, output_of}
use Rattle.packing.specs.Numbers.{Tells}
use Rattle.telling.specs.Tools.{read_number, read_bits, place_or, ReadTold}

-- what is told beside the number of each case: the length of the sheet, the detail of a fault
unfoldable pub read_told : Reading → ℕ
read_told (Done n) = n
read_told (Refused c) = 0
read_told (At c p d) = d

-- the reader's answer is a: the number r says so, the output o became o', and the caller's number became place'
pub record ReadPacked (a : ReadAnswer) (r : ℕ) (o o' : List ℕ) (place place' : ℕ) : Type 0 where
  pub answer : Tells (read_number (reply_of a)) (read_told (reply_of a)) r
  pub output : o' ≡ output_of a o
  pub placed : place' ≡ place_or (reply_of a) place

-- WHAT SHOWS IT

-- a length of 16 bits is told whole
bits_told : (q : Reading) → ((n : ℕ) → q ≡ Done n → n < 65536) → read_bits q ≡ read_told q
unfolding read_bits read_told
bits_told (Done n) h = omega (arith, h n refl)
bits_told (Refused c) h = refl
bits_told (At c p d) h = refl

pub read_packed : {a : ReadAnswer} {q : Reading} {o o' : List ℕ} {r place place' : ℕ} → (q ≡ reply_of a) × (o' ≡ output_of a o)
    → ((n : ℕ) → q ≡ Done n → n < 65536) → ReadTold q r place place' → ReadPacked a r o o' place place'
read_packed {q = q} (e, f) h t = record { answer = rw e at (rw (bits_told q h) at t.answer); output = f; placed = rw e at t.placed }

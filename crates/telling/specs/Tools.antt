-- What the answers of tools tell in one number, and the place of a fault in a number that the caller lends.
use Rattle.std.specs.Prelude.{◌≡◌, ℕ}
use Rattle.std.proofs.Math.Path.{refl}
use Rattle.std.specs.Prelude.{Bool, true, false, Ok, Err}
use Rattle.refusal.specs.declared.Refusal.{Refusal}
use Rattle.refusal.specs.Refusal.{number_of}
use Rattle.value.specs.Result.{Result, ok, refusal}
use Rattle.made.specs.Made.{Made, code_of as made_code, length_of}
use Rattle.numbering.specs.Replies.{Reply, code_of, value_of}
use Rattle.numbering.specs.Replies as Reply
use Rattle.accepts.specs.Accepts.{code_of as verdict_code, yes_of}
use Rattle.parsing.specs.declared.Reading.{Reading}
use Rattle.parsing.specs.declared.Reading.TheVariants.{Done, Refused, At}
use Rattle.packing.specs.Numbers.{Tells, low}

-- what a tool made: its length beside 0
abbrev pub MadeTold : Made → ℕ → Type 0
MadeTold q r = Tells (made_code q) (low (length_of q)) r

-- what was replied about a sheet: the length, or the node of 81
abbrev pub NumberTold : Reply → ℕ → Type 0
NumberTold q r = Tells (code_of q) (low (value_of q)) r

-- a verdict: 1 for yes
abbrev pub VerdictTold : Result Bool → ℕ → Type 0
VerdictTold v r = Tells (verdict_code v) (yes_of v) r

-- READING A TEXT

-- the number of each case: 0 for a success
unfoldable pub read_number : Reading → ℕ
read_number (Done n) = 0
read_number (Refused c) = c
read_number (At c p d) = c

-- the 16 bits beside it: the low ones of the sheet's length, the detail of a fault
unfoldable pub read_bits : Reading → ℕ
read_bits (Done n) = low n
read_bits (Refused c) = 0
read_bits (At c p d) = d

-- the caller's number: the place of a fault; else it is what it was
unfoldable pub place_or : Reading → ℕ → ℕ
place_or (Done n) old = old
place_or (Refused c) old = old
place_or (At c p d) old = p

-- the number r tells what was read, and the caller's number became place'
pub record ReadTold (q : Reading) (r place place' : ℕ) : Type 0 where
  pub answer : Tells (read_number q) (read_bits q) r
  pub placed : place' ≡ place_or q place

-- WHAT SHOWS IT, case by case

module _ {r : ℕ} where
  pub made_done : (n : ℕ) {m : ℕ} → m ≡ low n → Tells 0 m r → MadeTold (Ok n) r
  unfolding made_code length_of
  made_done n f t = rw f at t

  pub made_refused : (e : Refusal) → Tells (number_of e) 0 r → MadeTold (Err e) r
  unfolding made_code length_of
  made_refused e t = t

  pub numbered_done : (n : ℕ) {m : ℕ} → m ≡ low n → Tells 0 m r → NumberTold (Reply.Done n) r
  unfolding code_of value_of
  numbered_done n f t = rw f at t

  pub numbered_refused : (c : ℕ) → Tells c 0 r → NumberTold (Reply.Refused c) r
  unfolding code_of value_of
  numbered_refused c t = t

  pub numbered_twice : (n : ℕ) {m : ℕ} → m ≡ low n → Tells 81 m r → NumberTold (Reply.Twice n) r
  unfolding code_of value_of
  numbered_twice n f t = rw f at t

  pub told_yes : Tells 0 1 r → VerdictTold (ok true) r
  unfolding verdict_code yes_of
  told_yes t = t

  pub told_no : Tells 0 0 r → VerdictTold (ok false) r
  unfolding verdict_code yes_of
  told_no t = t

  pub told_refused : (c : ℕ) → Tells c 0 r → VerdictTold (refusal c) r
  unfolding verdict_code yes_of
  told_refused c t = t

module _ (old : ℕ) {r : ℕ} where
  pub read_done : (n : ℕ) {m : ℕ} → m ≡ low n → Tells 0 m r → ReadTold (Done n) r old old
  unfolding read_number read_bits place_or
  read_done n f t = record { answer = rw f at t; placed = refl }

  pub read_refused : (c : ℕ) → Tells c 0 r → ReadTold (Refused c) r old old
  unfolding read_number read_bits place_or
  read_refused c t = record { answer = t; placed = refl }

  pub read_fault : (c p d : ℕ) → Tells c d r → ReadTold (At c p d) r old p
  unfolding read_number read_bits place_or
  read_fault c p d t = record { answer = t; placed = refl }

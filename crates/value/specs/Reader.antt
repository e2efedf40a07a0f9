-- The reader's contracts: what a reading function answers, and what then holds of the bytes.
use Rattle.std.specs.Prelude.{◌≡◌, Result, Ok, Err, Bool, true, false, eqb, length, take, drop}
use mathlib.Core.List.{List, [], ◌∷◌}
use Prim.Native.Nat.{ℕ, zero, suc, ◌-◌, ◌≤◌, ◌<◌}
use Rattle.std.proofs.Math.ListN.{get_or}
use Rattle.value.specs.Value.{size, least_wide}
use Rattle.value.specs.Reading.{Owed, value, byte, Things, nothing, a_value, Found, whole, malformed, too_long, on_whole, read}
use Rattle.value.specs.declared.Fault.{Fault}
use Rattle.value.specs.declared.Fault.TheVariants.{Malformed, TooLong}

-- what a reading function answers: how many bytes it takes, or why it takes none
abbrev pub Read : Type 0
Read = Result ℕ Fault

-- the answer for what reading finds
unfoldable pub outcome : Found (value ∷ []) → Read
outcome (whole (a_value v nothing) more) = Ok (size v)
outcome malformed = Err Malformed
outcome too_long = Err TooLong

-- the answer as a number: a length of 1 to 256, 0 malformed, 257 too long
abbrev pub too_long_or : Bool → ℕ → Read
too_long_or true n = Err TooLong
too_long_or false n = Ok n

abbrev pub answer : ℕ → Read
answer zero = Err Malformed
answer (suc n) = too_long_or (eqb n 256) (suc n)

-- One thing is owed, and perhaps others after it. It takes n bytes, and the others are read from what is behind them; or all is refused
pub data Reads (o : Owed) (bs : List ℕ) (room : ℕ) : Read → Type 0 where
  r_whole : {n : ℕ} (f : (os : List Owed) → Things os → Things (o ∷ os)) → n ≤ length bs → n ≤ room →
      ((os : List Owed) → read bs room (o ∷ os) ≡ on_whole (f os) (read (drop n bs) (room - n) os)) → Reads o bs room (Ok n)
  r_malformed : ((os : List Owed) → read bs room (o ∷ os) ≡ malformed) → Reads o bs room (Err Malformed)
  r_too_long : ((os : List Owed) → read bs room (o ∷ os) ≡ too_long) → Reads o bs room (Err TooLong)

-- a thing begins here that is no truth value and no pair
pub record PartBegins (bs : List ℕ) (room : ℕ) : Type 0 where
  pub byte : 0 < length bs
  pub some : 0 < room
  pub most : room ≤ 256
  pub kind : 2 ≤ get_or bs 0 0
  pub no_pair : get_or bs 0 0 ≡ 5 → ⊥

-- the bytes from a on, as the code takes them
abbrev pub from : ℕ → List ℕ → List ℕ
from a s = take (length s - a) (drop a s)

-- a thing of two parts behind its kind byte
pub record TwoParts (o first second : Owed) (s : List ℕ) (room : ℕ) : Type 0 where
  pub make : (os : List Owed) → Things (first ∷ second ∷ os) → Things (o ∷ os)
  pub begun : (os : List Owed) → read s room (o ∷ os) ≡ on_whole (make os) (read (drop 1 s) (room - 1) (first ∷ second ∷ os))
  pub byte : 0 < length s
  pub some : 0 < room

-- a number begins here: its body has `follow` bytes behind the first, and it must be at least `least`
pub record BodyBegins (least follow : ℕ) (s : List ℕ) (room : ℕ) : Type 0 where
  pub make : (os : List Owed) → Things (byte least follow 0 ∷ os) → Things (value ∷ os)
  pub begun : (os : List Owed) → read s room (value ∷ os) ≡ on_whole (make os) (read (drop 1 s) (room - 1) (byte least follow 0 ∷ os))
  pub bytes : (i : ℕ) → get_or s i 0 < 256
  pub there : 0 < length s
  pub some : 0 < room

-- a number of so many bytes begins here, the kind byte counted
pub data NumberBegins : ℕ → List ℕ → ℕ → Type 0 where
  small : {s : List ℕ} {room : ℕ} → BodyBegins 0 1 s room → NumberBegins 3 s room
  large : {s : List ℕ} {room : ℕ} → BodyBegins least_wide 3 s room → NumberBegins 5 s room

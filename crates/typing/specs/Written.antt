-- Types as bytes: what the check reads is exactly so many types of at most 256 bytes each, one after another.
use Rattle.std.specs.Prelude.{◌≡◌, ℕ, ◌≤◌, length}
use Rattle.std.proofs.Math.Option.{Option, none, some}
use mathlib.Core.List.{List, [], ◌∷◌, ◌++◌}
use Rattle.value.specs.All.{All}
use Rattle.typing.specs.Types.{Ty, truths, numbers, lists, pairs}
use Rattle.typing.specs.Numbers.{longest_type}
use Rattle.typing.specs.Check.{Kind, k_truth, k_number, k_list, k_pair, unknown}

unfoldable pub bytes_of : Ty → List ℕ
bytes_of truths = 0x30 ∷ []
bytes_of numbers = 0x31 ∷ []
bytes_of (lists t) = 0x32 ∷ bytes_of t
bytes_of (pairs a b) = 0x33 ∷ (bytes_of a ++ bytes_of b)

unfoldable pub flat : List Ty → List ℕ
flat [] = []
flat (t ∷ ts) = bytes_of t ++ flat ts

abbrev pub Short : Ty → Type 0
Short t = length (bytes_of t) ≤ longest_type

-- AND ONLY THAT IS READ

-- what was read for n types from the bytes, of which `room` may be taken
pub data Taken (bs : List ℕ) (room n : ℕ) : Option (List Ty × List ℕ) → Type 0 where
  nothing : Taken bs room n none
  taken : {ts : List Ty} {more : List ℕ} → bs ≡ flat ts ++ more → length ts ≡ n → length (flat ts) ≤ room → Taken bs room n (some (ts, more))

-- a byte and the kind that it names
pub data Names : ℕ → Kind → Type 0 where
  is_truth : Names 0x30 k_truth
  is_number : Names 0x31 k_number
  is_list : Names 0x32 k_list
  is_pair : Names 0x33 k_pair
  is_other : {b : ℕ} → Names b unknown

-- all of them
pub record ReadAs (k : ℕ) (bs : List ℕ) (ts : List Ty) : Type 0 where
  pub bytes : bs ≡ flat ts
  pub many : length ts ≡ k
  pub short : All Short ts

pub data Reads (k : ℕ) (bs : List ℕ) : Option (List Ty) → Type 0 where
  fails : Reads k bs none
  reads : {ts : List Ty} → ReadAs k bs ts → Reads k bs (some ts)

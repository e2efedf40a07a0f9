-- Types where they stand in their bytes: how long one is, and the slots that the check keeps them in.
use Rattle.std.specs.Prelude.{◌≡◌, cond, List, [], ℕ, suc, ◌+◌, ◌*◌, ◌-◌, ◌≤◌, ◌<◌, leb, ltb, length, get_or, take, drop}
use Rattle.std.specs.Prelude.{None, Some}
use Rattle.std.specs.Prelude as Code
use Rattle.std.proofs.Math.Option.{Option, none, some}
use Rattle.typing.specs.Numbers.{longest_type, past_slots}
use Rattle.typing.specs.Types.{Ty, truths}
use Rattle.typing.specs.Fits.{Lent, type_of, section_of}
use Rattle.typing.specs.Check.{k_truth, k_number, k_list, k_pair, unknown, kind_of, read_types, read_all}
use Rattle.typing.specs.Check as Checks
use Rattle.types.specs.declared.lent.Kind.{Kind}
use Rattle.types.specs.declared.lent.Kind.TheVariants.{Truths, Numbers, Lists, Pairs}
use Rattle.typing.specs.Written.{bytes_of, Short}

-- the kind of types that begin with a byte, as the code answers it; the byte of a kind; how many types are owed behind it
unfoldable pub kind_told : Checks.Kind → Code.Option Kind
kind_told k_truth = Some Truths
kind_told k_number = Some Numbers
kind_told k_list = Some Lists
kind_told k_pair = Some Pairs
kind_told unknown = None

abbrev pub kind_named : ℕ → Code.Option Kind
kind_named b = kind_told (kind_of b)

abbrev pub byte_of : Kind → ℕ
byte_of Truths = 0x30
byte_of Numbers = 0x31
byte_of Lists = 0x32
byte_of Pairs = 0x33

abbrev pub owed_behind : Kind → ℕ → ℕ
owed_behind Truths owed = owed - 1
owed_behind Numbers owed = owed - 1
owed_behind Lists owed = owed
owed_behind Pairs owed = owed + 1

-- the length of the type that the bytes begin with, where they begin with one of at most 256 bytes
unfoldable pub behind : Option (List Ty × List ℕ) → Option ℕ
behind none = none
behind (some (ts, more)) = some (length more)

unfoldable pub up_to : ℕ → Option ℕ → Code.Option ℕ
up_to n none = None
up_to n (some m) = Some (n - m)

unfoldable pub type_len : List ℕ → Code.Option ℕ
type_len bs = up_to (length bs) (behind (read_types bs longest_type 1))

-- the bytes in a slot: from its start up to the next one's
unfoldable pub part_at : (types starts : List ℕ) → ℕ → List ℕ
part_at types starts slot =
    let start = get_or starts slot 0 in let end = get_or starts (slot + 1) 0 in
    cond (ltb slot past_slots) (cond (leb start end) (cond (leb end (length types)) (take (end - start) (drop start types)) []) []) []

-- a type in a slot
pub record At (types starts : List ℕ) (slot : ℕ) (t : Ty) : Type 0 where
  pub is : part_at types starts slot ≡ bytes_of t
  pub short : Short t

-- the types of a sheet with so many sections and nodes, each in its slot
pub record Laid (types starts : List ℕ) (sections nodes : ℕ) (ts : Lent) : Type 0 where
  pub few_variables : length ts.plan ≤ 16
  pub few_sections : sections ≤ 8
  pub few_nodes : nodes ≤ 200
  pub plan : (x : ℕ) → x < length ts.plan → At types starts x (get_or ts.plan x truths)
  pub first : (c : ℕ) → c < sections → At types starts (16 + 3 * c) (section_of ts c).first
  pub second : (c : ℕ) → c < sections → At types starts (16 + 3 * c + 1) (section_of ts c).second
  pub result : (c : ℕ) → c < sections → At types starts (16 + 3 * c + 2) (section_of ts c).result
  pub view : At types starts 40 ts.view
  pub node : (n : ℕ) → n < nodes → At types starts (41 + n) (type_of ts n)

-- how many of n slots from `low` on are below one
unfoldable pub clamp : (low n slot : ℕ) → ℕ
clamp low n slot = (slot - low) - ((slot - low) - n)

-- how many types are lent for the slots below one: k for the plan, three for each section, the view's and the nodes'
unfoldable pub lent_below : (k sections nodes slot : ℕ) → ℕ
lent_below k sections nodes slot = clamp 0 k slot + clamp 16 (3 * sections) slot + clamp 40 (suc nodes) slot

-- what reading so many types into their slots gives; f says how many types are lent for the slots below one
pub record Slotted (types starts : List ℕ) (f : ℕ → ℕ) (ts : List Ty) : Type 0 where
  pub read : read_all (f past_slots) types ≡ some ts
  pub at : (i : ℕ) → i < past_slots → f (i + 1) ≡ suc (f i) → At types starts i (get_or ts (f i) truths)

pub data TypesRead (types : List ℕ) (f : ℕ → ℕ) : Code.Option (List ℕ) → Type 0 where
  not_read : read_all (f past_slots) types ≡ none → TypesRead types f None
  is_read : {starts : List ℕ} (ts : List Ty) → Slotted types starts f ts → TypesRead types f (Some starts)

-- What was written, as the arena has it: a slot of 256 bytes for each cell, and the cells of the scope's variables.
use Rattle.std.specs.Prelude.{◌≡◌, List, ℕ, ◌+◌, ◌-◌, ◌≤◌, ◌<◌, length, take, drop, get_or, set, replicate}
use Rattle.std.proofs.Common.{◌∙◌}
use Rattle.std.proofs.Math.Option.{Option, none, some}
use Rattle.std.proofs.Math.Seq.{paste}
use Rattle.value.specs.Value.{Value, encode, size}
use Rattle.value.specs.Laws.{Readable}
use Rattle.rules.specs.Explain.{Cell, Cells}
use Rattle.rules.specs.Numbers.{stack_start, variable_limit, slots_start}
use Rattle.scopes.specs.Scopes.{noted_len, noted_by, slot_of}
use Rattle.walk.specs.Arena.Parts.{part}

-- the bytes of the plan and of the stack below `top` are left alone
pub record Frame (top : ℕ) (b a : List ℕ) : Type 0 where
  pub plan : take slots_start a ≡ take slots_start b
  pub stack : part a stack_start (top - stack_start) ≡ part b stack_start (top - stack_start)
  pub long : length a ≡ length b

-- what the slot of a cell holds that has its length and its writer noted
pub record Holds (a : List ℕ) (start note : ℕ) (w : Cell) : Type 0 where
  pub there : note ≡ 0 → ⊥
  pub long : noted_len note ≡ size w.value
  pub by : noted_by note ≡ w.by
  pub few : w.by < 256
  pub bytes : part a start (noted_len note) ≡ encode w.value
  pub readable : Readable w.value

-- in an arena with the same bytes there
pub holds_as : {b a : List ℕ} {start note : ℕ} {w : Cell} → Holds b start note w → part a start (noted_len note) ≡ part b start (noted_len note)
    → Holds a start note w
holds_as h e = record { there = h.there; long = h.long; by = h.by; few = h.few; bytes = e ∙ h.bytes; readable = h.readable }

-- the slot of a cell holds what was written: 0 is noted where nothing was
pub data Slot (a : List ℕ) (start note : ℕ) : Option Cell → Type 0 where
  blank : note ≡ 0 → Slot a start note none
  full : {w : Cell} → Holds a start note w → Slot a start note (some w)

-- the n cells hold W
pub record CellsHold (a slots : List ℕ) (n : ℕ) (W : Cells) : Type 0 where
  pub count : length W ≡ n
  pub few : n ≤ variable_limit
  pub long : length slots ≡ variable_limit
  pub each : (i : ℕ) → i < n → Slot a (slot_of i) (get_or slots i 0) (get_or W i none)

-- the cell of each variable, of n cells
pub record Named (cells : List ℕ) (n : ℕ) (σ : List ℕ) : Type 0 where
  pub long : length cells ≡ variable_limit
  pub each : (i : ℕ) → i < length σ → get_or cells i 0 ≡ get_or σ i 0
  pub inside : (i : ℕ) → i < length σ → get_or σ i 0 < n

-- the bytes of the view are those of v
pub record Shown (view : List ℕ) (v : Value) : Type 0 where
  pub bytes : view ≡ encode v
  pub readable : Readable v

-- THE CODE'S STEPS

-- a kind byte and two parts of the arena behind it, at the front of 256 bytes
unfoldable pub rebuilt_in : (whole a : List ℕ) (kind f fl r rl : ℕ) → List ℕ
rebuilt_in whole a kind f fl r rl = paste (paste (set whole 0 kind) 1 (drop f a) fl) (1 + fl) (drop r a) rl

abbrev pub rebuilt_bytes : (a : List ℕ) (kind f fl r rl : ℕ) → List ℕ
rebuilt_bytes a kind f fl r rl = rebuilt_in (replicate 256 0) a kind f fl r rl

-- What a success of a whole call shows, and what shows one; its steps and larger allowances.
use Rattle.std.proofs.Math.Path.{◌≡◌}
use Rattle.std.proofs.Math.Option.{none}
use Rattle.std.specs.Prelude.{List, ℕ, ◌≤◌, length, get_or, replicate}
use Rattle.value.specs.Result.{ok}
use Rattle.value.specs.Value.{Value, vfalse, encode, flat}
use Rattle.value.specs.Reading.{read_plan, read_view}
use Rattle.sheet.specs.Sheet.{Sheet, read_sheet}
use Rattle.rules.specs.Numbers.{level_limit, allowance_limit, scratch_size}
use Rattle.rules.specs.Outcome.{done}
use Rattle.rules.specs.Counting.{Env, Cells, get, put}
use Rattle.rules.specs.Answer.{count, new_plan}

-- the sizes that a call needs, and an allowance that it takes
pub record DoorOpens (need output scratch allowance : ℕ) : Type 0 where
  pub output_long : need ≤ output
  pub scratch_long : scratch_size ≤ scratch
  pub some_steps : 1 ≤ allowance
  pub few_steps : allowance ≤ allowance_limit

-- a get that succeeds: what it read, and its walk
pub record Got (sheet plan : List ℕ) (allowance : ℕ) (view : List ℕ) (n : ℕ) : Type 0 where
  pub sh : Sheet
  pub sheet_read : read_sheet sheet ≡ ok sh
  pub μ : Env
  pub plan_read : read_plan sh.k plan ≡ ok μ
  pub v : Value
  pub walk : get level_limit sh sh.root μ ≡ done v n
  pub few : n ≤ allowance
  pub bytes : view ≡ encode v

-- a put that succeeds
pub record PutBack (sheet plan view : List ℕ) (allowance : ℕ) (new : List ℕ) (n : ℕ) : Type 0 where
  pub sh : Sheet
  pub sheet_read : read_sheet sheet ≡ ok sh
  pub μ : Env
  pub plan_read : read_plan sh.k plan ≡ ok μ
  pub vs : List Value
  pub view_read : read_view view ≡ ok vs
  pub X : Cells
  pub walk : put level_limit sh sh.root μ (count 0 (length μ)) (get_or vs 0 vfalse) (replicate (length μ) none) ≡ done X n
  pub few : n ≤ allowance
  pub bytes : new ≡ flat (new_plan X μ)

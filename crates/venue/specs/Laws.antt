-- When the checker says yes (document 02, request 10), of whole calls on bytes; and that it does so for what put gives.
use Rattle.std.specs.Prelude.{◌≡◌, List}
use Prim.Native.Nat.{ℕ, ◌≤◌}
use Rattle.std.proofs.Math.ListN.{get_elem?}
use Rattle.value.specs.Result.{ok}
use Rattle.value.specs.Reading.{read_plan}
use Rattle.sheet.specs.Sheet.{Sheet, read_sheet}
use Rattle.rules.specs.Numbers.{scratch_size, get_output}
use Rattle.rules.specs.Counting.{Env}
use Rattle.rules.specs.Answer.{success, get_answer}
use Rattle.undo.specs.Alike.{Named}

-- a new plan stands: the sheet, both plans and the list are read, it reads out to the list under that allowance, and every variable whose number stands as a
-- variable in no record (10, 1A or 1C) has its old value
pub record Conforms (sheet old view new : List ℕ) (allowance : ℕ) : Type 0 where
  pub sh : Sheet
  pub sheet_read : read_sheet sheet ≡ ok sh
  pub μ : Env
  pub old_read : read_plan sh.k old ≡ ok μ
  pub ν : Env
  pub new_read : read_plan sh.k new ≡ ok ν
  pub same : (x : ℕ) → (Named sh x → ⊥) → get_elem? ν x ≡ get_elem? μ x
  pub list : (output scratch : ℕ) → get_output ≤ output → scratch_size ≤ scratch → (n : ℕ) × (get_answer sheet new allowance output scratch ≡ success view n)

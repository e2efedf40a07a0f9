-- What 81 tells: the node is used twice as a child or a root, and none below it is.
use Rattle.std.specs.Prelude.{◌≡◌, List, ℕ, ◌≤◌, ◌<◌, length}
use Rattle.value.specs.Result.{ok}
use Rattle.sheet.specs.Sheet.{Sheet, read_sheet}
use Rattle.preorder.specs.NumberingLaws.{uses}
use Rattle.preorder.specs.Uses.{times}

pub record UsedTwice (s : List ℕ) (k : ℕ) : Type 0 where
  pub sheet : Sheet
  pub read : read_sheet s ≡ ok sheet
  pub inside : k < length sheet.nodes
  pub used : 2 ≤ times k (uses sheet)
  pub lowest : (j : ℕ) → j < k → times j (uses sheet) ≤ 1

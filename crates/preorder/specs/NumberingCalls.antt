-- A sheet's bytes written anew in the one numbering (request 12): what is written is read out and back as before, and written again it is the same.
use Rattle.std.specs.Prelude.{◌≡◌, List, ℕ}
use Rattle.value.specs.Result.{ok}
use Rattle.sheet.specs.Sheet.{Sheet, read_sheet}
use Rattle.sheet.specs.Rows.{sheet_written}
use Rattle.preorder.specs.Numbering.{numbered}
use Rattle.preorder.specs.NumberingLaws.{Once, uses}

-- what a success tells
pub record Anew (s t : List ℕ) : Type 0 where
  pub sheet : Sheet
  pub read : read_sheet s ≡ ok sheet
  pub once : Once (uses sheet)
  pub written : t ≡ sheet_written (numbered sheet)

-- What numbering answers (document 02, request 12): the definition that `numbering::number` is held to.
use Rattle.std.specs.Prelude.{◌≡◌, cond, List, ℕ, ◌≤◌, ◌<◌, leb, ltb, length}
use borrow.Author.Tests.{le-leb, lt-leb, lt-ltb, le-ltb}
use Rattle.value.specs.Result.{Result, ok, refusal}
use Rattle.sheet.specs.Sheet.{Sheet, read_sheet}
use Rattle.sheet.specs.Rows.{sheet_written}
use Rattle.preorder.specs.Numbering.{numbered}
use Rattle.preorder.specs.Uses.{lowest_twice}

-- the sheet written anew; a refusal's number; or 81, with the lowest node that is used twice
pub data Answer : Type 0 where
  done : List ℕ → Answer
  refused : ℕ → Answer
  twice : ℕ → Answer

-- the sheet's own refusals; then 81; or the sheet in the one numbering
unfoldable pub sheet_answer : Result Sheet → Answer
sheet_answer (refusal c) = refused c
sheet_answer (ok sh) = cond (ltb (lowest_twice sh) (length sh.nodes)) (twice (lowest_twice sh)) (done (sheet_written (numbered sh)))

-- 1 an output under 2,048 bytes, judged first
unfoldable pub number_answer : List ℕ → (output : ℕ) → Answer
number_answer s output = cond (leb 2048 output) (sheet_answer (read_sheet s)) (refused 1)

-- CASE BY CASE

module _ (s : List ℕ) (n : ℕ) where
  pub number_1 : n < 2048 → number_answer s n ≡ refused 1
  unfolding number_answer
  number_1 h = rw (lt-leb 2048 n h)

  module _ (room : 2048 ≤ n) where
    pub number_refused : {c : ℕ} → read_sheet s ≡ refusal c → number_answer s n ≡ refused c
    unfolding number_answer sheet_answer
    number_refused e = rw (le-leb 2048 n room, e)

    module _ {sh : Sheet} (e : read_sheet s ≡ ok sh) where
      pub number_twice : lowest_twice sh < length sh.nodes → number_answer s n ≡ twice (lowest_twice sh)
      unfolding number_answer sheet_answer
      number_twice h = rw (le-leb 2048 n room, e, lt-ltb (lowest_twice sh) (length sh.nodes) h)

      pub number_done : length sh.nodes ≤ lowest_twice sh → number_answer s n ≡ done (sheet_written (numbered sh))
      unfolding number_answer sheet_answer
      number_done h = rw (le-leb 2048 n room, e, le-ltb (lowest_twice sh) (length sh.nodes) h)

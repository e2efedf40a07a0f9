-- A WHOLE CALL, on bytes: what reading a text answers, and what its output holds.
use Rattle.std.specs.Prelude.{cond, List, ◌++◌, ℕ, leb, length, drop}
use Rattle.syntax.specs.Reader.{Said, says, refused, sheet_of}
use Rattle.parsing.specs.declared.Reading.{Reading}
use Rattle.parsing.specs.declared.Reading.TheVariants.{Done, Refused, At}

-- the sheet's bytes, a refusal's number, or one met in the text, with its place and its detail
pub data ReadAnswer : Type 0 where
  sheet : List ℕ → ReadAnswer
  small : ReadAnswer
  met : (number place detail : ℕ) → ReadAnswer

unfoldable pub answer_of : Said → ReadAnswer
answer_of (says b) = sheet b
answer_of (refused n p d) = met n p d

-- of a text, with so many bytes of output
unfoldable pub read_answer : List ℕ → ℕ → ReadAnswer
read_answer t n = cond (leb 2048 n) (answer_of (sheet_of t)) small

-- what is returned
unfoldable pub reply_of : ReadAnswer → Reading
reply_of (sheet b) = Done (length b)
reply_of small = Refused 1
reply_of (met n p d) = At n p d

-- and what the output holds then
unfoldable pub output_of : ReadAnswer → List ℕ → List ℕ
output_of (sheet b) out = b ++ drop (length b) out
output_of small out = out
output_of (met n p d) out = out

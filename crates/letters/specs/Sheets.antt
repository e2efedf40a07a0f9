-- A sheet in the one numbering (letter N of `tools`), and two sheets joined (letter J).
use Rattle.std.specs.Prelude.{false, cond, List, [], ◌∷◌, ℕ, ◌+◌, leb, length, drop}
use Rattle.report.specs.Text.{hex_of, refusal_line, ok_line}
use Rattle.inputs.specs.Format.{two, part}
use Rattle.words.specs.Answers.{node_line}
use Rattle.preorder.specs.NumberAnswer.{Answer, done, refused, twice, number_answer}
use Rattle.join.specs.JoinAnswer.{join_answer}
use Rattle.letters.specs.Making.{made_line}

-- N: a sheet: the same sheet in the one numbering; 81 names the lowest node that is used twice

unfoldable pub numbered_line : Answer → List ℕ
numbered_line (done t) = ok_line (hex_of t ∷ [])
numbered_line (refused c) = refusal_line c
numbered_line (twice n) = node_line 81 n

unfoldable pub number_line : List ℕ → List ℕ
number_line bs = numbered_line (number_answer (drop 1 bs) 2048)

-- J: a sheet behind its length in two bytes, then another: both joined

unfoldable pub join_line : List ℕ → List ℕ
join_line bs =
    let n = two bs 1 in
    cond (leb (3 + n) (length bs)) (made_line false (join_answer (part bs 3 n) (drop (3 + n) bs) 2048)) (refusal_line 60)

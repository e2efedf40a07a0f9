-- A text as the sheet that it says (letter A of `tools`), and a sheet as text (letter U).
use Rattle.std.specs.Prelude.{List, [], ◌∷◌, ℕ, drop}
use Rattle.report.specs.Text.{hex_of, decimal_of, refusal_line, ok_line}
use Rattle.words.specs.Answers.{no_line}
use Rattle.parsing.specs.Answer.{ReadAnswer, sheet, small, met, read_answer}
use Rattle.printing.specs.Answer.{print_answer}
use Rattle.letters.specs.Sheets.{numbered_line}

-- A: a text: the sheet's bytes in hexadecimal; a fault in the text is named by its number, its place and its detail

unfoldable pub fault_line : (number place detail : ℕ) → List ℕ
fault_line n p d = no_line (decimal_of n ∷ decimal_of p ∷ decimal_of d ∷ [])

unfoldable pub said_line : ReadAnswer → List ℕ
said_line (sheet b) = ok_line (hex_of b ∷ [])
said_line small = refusal_line 1
said_line (met n p d) = fault_line n p d

unfoldable pub read_line : List ℕ → List ℕ
read_line bs = said_line (read_answer (drop 1 bs) 2048)

-- U: a sheet: its text in hexadecimal; 81 names the lowest node that is used twice

unfoldable pub print_line : List ℕ → List ℕ
print_line bs = numbered_line (print_answer (drop 1 bs) 16384)

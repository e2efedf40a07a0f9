-- The program `tools` (docs/TOOLS.md): from the bytes of its input to the bytes of the line that it prints. An input is a letter, then fields.
use Rattle.std.specs.Prelude.{◌≡◌, true, false, cond, List, ℕ, leb, eqb, length, get_or, drop}
use Rattle.report.specs.Text.{refusal_line}
use Rattle.inputs.specs.Numbers.{input_limit}
use Rattle.inputs.specs.Format.{fields_of}
use Rattle.letters.specs.Letters.{letter_line}
use Rattle.walking.specs.Endings.{Ending, says, puts, whys, checks, output_after, scratch_after}

-- BY ITS LETTER: a row for each that walks; all others, and what is no letter, have their line from `letters`
unfoldable pub by_letter : List ℕ → Ending
by_letter bs =
    let letter = get_or bs 0 0 in
    cond (eqb letter 0x53) (puts false bs (fields_of bs))
    (cond (eqb letter 0x57) (puts true bs (fields_of bs))
    (cond (eqb letter 0x59) (whys (drop 1 bs))
    (cond (eqb letter 0x43) (checks bs (fields_of bs))
    (says (letter_line bs)))))

-- over 8,192 bytes: 61, whatever they are
unfoldable pub tool_ending : List ℕ → Ending
tool_ending bs = cond (leb (length bs) input_limit) (by_letter bs) (says (refusal_line 61))

-- THE LINE THAT THE PROGRAM PRINTS FOR AN INPUT
unfoldable pub tool_line : List ℕ → List ℕ
tool_line bs = (tool_ending bs).line

-- WHAT THE CODE LEAVES: output and scratch as the call leaves them
pub record BuffersAfter (bs o o' s s' : List ℕ) : Type 0 where
  pub output : o' ≡ output_after (tool_ending bs).call o
  pub scratch : s' ≡ scratch_after (tool_ending bs).call s

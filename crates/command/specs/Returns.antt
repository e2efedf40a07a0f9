-- What shows the line of the code: the letter of an input, and the ending of a whole input.
use Rattle.std.specs.Prelude.{◌≡◌, true, false, List, ℕ, ◌≤◌, length, get_or, drop}
use Rattle.std.proofs.Math.Path.{sym}
use Rattle.std.proofs.Common.{◌∙◌}
use borrow.Author.Tests.{le-leb, ne_eqb}
use Rattle.report.specs.Writing.{Front, wrote_front}
use Rattle.inputs.specs.Numbers.{input_limit}
use Rattle.words.specs.Numbers.{line_limit}
use Rattle.inputs.specs.Format.{fields_of}
use Rattle.letters.specs.Letters.{letter_line}
use Rattle.walking.specs.Endings.{Ending, says, puts, whys, checks, Ended}
use Rattle.walking.specs.PutLaws.{ended_as}
use Rattle.walking.specs.ExplanationLaws.{Explained, whys_output}
use Rattle.walking.specs.CheckLaws.{checks_output}
use Rattle.command.specs.Line.{by_letter, tool_ending, tool_line, BuffersAfter}

-- letter Y
pub ended_why : (bs : List ℕ) {r : ℕ} {t t' o s s' : List ℕ} → Explained (whys bs) r t t' s s' → Ended (whys bs) r t t' o o s s'
ended_why bs {o = o} x = record { text = x.0; output = whys_output bs o; scratch = x.1 }

-- letter C
pub ended_check : (bs : List ℕ) {r : ℕ} {t t' o s s' : List ℕ} → Explained (checks bs (fields_of bs)) r t t' s s'
    → Ended (checks bs (fields_of bs)) r t t' o o s s'
ended_check bs {o = o} x = record { text = x.0; output = checks_output bs (fields_of bs) o; scratch = x.1 }

-- the letter of an input
module _ (bs : List ℕ) where
  module _ (h : length bs ≤ input_limit) {letter : ℕ} (e : letter ≡ get_or bs 0 0) where
    pub letter_s : letter ≡ 0x53 → tool_ending bs ≡ puts false bs (fields_of bs)
    unfolding tool_ending by_letter
    letter_s q = rw (le-leb (length bs) input_limit h, sym e ∙ q)

    pub letter_w : letter ≡ 0x57 → tool_ending bs ≡ puts true bs (fields_of bs)
    unfolding tool_ending by_letter
    letter_w q = rw (le-leb (length bs) input_limit h, sym e ∙ q)

    pub letter_y : letter ≡ 0x59 → tool_ending bs ≡ whys (drop 1 bs)
    unfolding tool_ending by_letter
    letter_y q = rw (le-leb (length bs) input_limit h, sym e ∙ q)

    pub letter_c : letter ≡ 0x43 → tool_ending bs ≡ checks bs (fields_of bs)
    unfolding tool_ending by_letter
    letter_c q = rw (le-leb (length bs) input_limit h, sym e ∙ q)

    pub letter_other : (letter ≡ 0x53 → ⊥) → (letter ≡ 0x57 → ⊥) → (letter ≡ 0x59 → ⊥) → (letter ≡ 0x43 → ⊥) → tool_ending bs ≡ says (letter_line bs)
    unfolding tool_ending by_letter
    letter_other s w y c = rw (
      le-leb (length bs) input_limit h,
      ← e,
      ne_eqb letter 0x53 s,
      ne_eqb letter 0x57 w,
      ne_eqb letter 0x59 y,
      ne_eqb letter 0x43 c,
    )

-- the ending is that of the input, and the line fits
pub printed : (bs : List ℕ) {e : Ending} {r : ℕ} {t t' o o' s s' : List ℕ} → tool_ending bs ≡ e → length e.line ≤ line_limit → length t ≡ line_limit
    → Ended e r t t' o o' s s' → Front (tool_line bs) t t' r × BuffersAfter bs o o' s s'
unfolding tool_line
printed bs q h l w =
    let v = ended_as q w in
    (wrote_front v.text (rw (q, l) h), record { output = v.output; scratch = v.scratch })

-- 8,193 bytes of the input decide the line of `tools`.
use Rattle.std.specs.Prelude.{◌≡◌, List, ℕ, ◌+◌, ◌≤◌, ◌<◌, length, take}
use Rattle.std.proofs.Common.{sym, ap, ◌∙◌, arith, length-take-le, take_all}
use Rattle.std.proofs.Math.Decide.{dec_le}
use Rattle.std.proofs.lemmas.Bool.{lt-leb}
use Rattle.report.specs.Text.{refusal_line}
use Rattle.inputs.specs.Numbers.{input_limit}
use Rattle.walking.specs.Endings.{Ending, says}
use Rattle.command.specs.Line.{tool_ending, tool_line}

pub ending_over : (bs : List ℕ) → input_limit < length bs → tool_ending bs ≡ says (refusal_line 61)
unfolding tool_ending
ending_over bs h = rw (lt-leb (length bs) input_limit h)

pub line_front : (bs : List ℕ) → tool_line (take (input_limit + 1) bs) ≡ tool_line bs
unfolding tool_line
line_front bs = go (dec_le (length bs) (input_limit + 1))
  where
    go : Dec (length bs ≤ input_limit + 1) → tool_line (take (input_limit + 1) bs) ≡ tool_line bs
    go (yes h) = rw (take_all (input_limit + 1) bs h)
    go (no h) =
        let l = length-take-le (input_limit + 1) bs (omega arith) in
        ap (λ (e : Ending). e.line) (ending_over (take (input_limit + 1) bs) (omega arith) ∙ sym (ending_over bs (omega arith)))

-- `line` meets its contract: a case for each letter. Assumes nothing.
use mathlib.Core.Path.{◌≡◌}
use Prim.Native.Nat.{◌≤◌}
use native.Mathlib.Omega.{arith}
use lib.ListN.{length}
use Rattle.report.specs.Writing.{wrote_text}
use Rattle.inputs.specs.Numbers.{input_limit}
use Rattle.words.specs.Numbers.{line_limit}
use Rattle.records.specs.AnewLaws.{bytes_known}
use Rattle.letters.specs.SheetTexts.{read_line}
use Rattle.letters.specs.Letters.{letter_line, letter_l, letter_v, letter_n, letter_j, letter_r, letter_d, letter_e, letter_t, letter_a, letter_u}
use Rattle.letters.specs.Letters.{letter_none, letter_fits}
use Rattle.letters.proofs.line.Goals as goal
use Rattle.letters.proofs.line.Goals.{After-byte_at-letter}

-- the line fits where that of letter A does
fits : (c : After-byte_at-letter) → let bs = c.args.input.now in
    (c.byte_at-letter.result ≡ 0x41 → length (read_line bs) ≤ line_limit) → length bs ≤ input_limit → length (letter_line bs) ≤ line_limit
fits c a h = let bs = c.args.input.now in letter_fits bs c.byte_at-letter.ensures (bytes_known bs c.type_inv.input) a h

pub returns-in-76 : goal.returns-in-76
returns-in-76 c = record {
  wrote = wrote_text c.load_line.ensures (letter_l _ c.byte_at-letter.ensures c.in-76.is);
  input_len_bound = fits (goal.at.returns-in-76 c).After-byte_at-letter
      (λ q. absurd (omega (arith, q, c.in-76.is)));
}

pub returns-in-86 : goal.returns-in-86
returns-in-86 c = record {
  wrote = wrote_text c.value_line.ensures (letter_v _ c.byte_at-letter.ensures c.in-86.is);
  input_len_bound = fits (goal.at.returns-in-86 c).After-byte_at-letter
      (λ q. absurd (omega (arith, q, c.in-86.is)));
}

pub returns-in-78 : goal.returns-in-78
returns-in-78 c = record {
  wrote = wrote_text c.number_line.ensures (letter_n _ c.byte_at-letter.ensures c.in-78.is);
  input_len_bound = fits (goal.at.returns-in-78 c).After-byte_at-letter
      (λ q. absurd (omega (arith, q, c.in-78.is)));
}

pub returns-in-74 : goal.returns-in-74
returns-in-74 c = record {
  wrote = wrote_text c.join_line.ensures (letter_j _ c.byte_at-letter.ensures c.in-74.is);
  input_len_bound = fits (goal.at.returns-in-74 c).After-byte_at-letter
      (λ q. absurd (omega (arith, q, c.in-74.is)));
}

pub returns-in-82 : goal.returns-in-82
returns-in-82 c = record {
  wrote = wrote_text c.growth_line.ensures (letter_r _ c.byte_at-letter.ensures c.in-82.is);
  input_len_bound = fits (goal.at.returns-in-82 c).After-byte_at-letter
      (λ q. absurd (omega (arith, q, c.in-82.is)));
}

pub returns-in-68 : goal.returns-in-68
returns-in-68 c = record {
  wrote = wrote_text c.text_line.ensures (letter_d _ c.byte_at-letter.ensures c.in-68.is);
  input_len_bound = fits (goal.at.returns-in-68 c).After-byte_at-letter
      (λ q. absurd (omega (arith, q, c.in-68.is)));
}

pub returns-in-69 : goal.returns-in-69
returns-in-69 c = record {
  wrote = wrote_text c.parsed_line.ensures (letter_e _ c.byte_at-letter.ensures c.in-69.is);
  input_len_bound = fits (goal.at.returns-in-69 c).After-byte_at-letter
      (λ q. absurd (omega (arith, q, c.in-69.is)));
}

pub returns-in-84 : goal.returns-in-84
returns-in-84 c = record {
  wrote = wrote_text c.types_line.ensures (letter_t _ c.byte_at-letter.ensures c.in-84.is);
  input_len_bound = fits (goal.at.returns-in-84 c).After-byte_at-letter
      (λ q. absurd (omega (arith, q, c.in-84.is)));
}

pub returns-in-65 : goal.returns-in-65
returns-in-65 c = record {
  wrote = wrote_text c.read_line.ensures.wrote (letter_a _ c.byte_at-letter.ensures c.in-65.is);
  input_len_bound = fits (goal.at.returns-in-65 c).After-byte_at-letter
      (λ q. c.read_line.ensures.input_len_bound);
}

pub returns-in-85 : goal.returns-in-85
returns-in-85 c = record {
  wrote = wrote_text c.print_line.ensures (letter_u _ c.byte_at-letter.ensures c.in-85.is);
  input_len_bound = fits (goal.at.returns-in-85 c).After-byte_at-letter
      (λ q. absurd (omega (arith, q, c.in-85.is)));
}

pub returns-in_default : goal.returns-in_default
returns-in_default c =
    let other = c.in_default.in_default-own.rest in
    let tail = other.0.0.0.0.0 in record {
      wrote = wrote_text c.refusal.ensures
          (letter_none _ c.byte_at-letter.ensures tail.0.0.0.0.1 tail.0.0.0.1 tail.0.0.1 tail.0.1 tail.1
          other.0.0.0.0.1 other.0.0.0.1 other.0.0.1 other.0.1 other.1);
      input_len_bound = fits (goal.at.returns-in_default c).After-byte_at-letter (λ q. absurd (other.0.1 q));
    }

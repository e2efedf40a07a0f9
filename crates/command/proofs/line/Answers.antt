-- `line` meets its contract: a case for each letter. Assumes nothing.
use native.Mathlib.Omega.{arith}
use lib.ListN.{drop}
use Rattle.inputs.specs.Format.{fields_of}
use Rattle.letters.specs.LookupLaws.{fits_refusal}
use Rattle.walking.specs.PutLaws.{fits_puts, said}
use Rattle.walking.specs.ExplanationLaws.{whys_fit}
use Rattle.walking.specs.CheckLaws.{checks_fit}
use Rattle.command.specs.LineLaws.{ending_over}
use Rattle.command.specs.Returns.{printed, letter_s, letter_w, letter_y, letter_c, letter_other, ended_why, ended_check}
use Rattle.command.proofs.line.Goals as goal

pub returns-then-input-gt-INPUT : goal.returns-then-input-gt-INPUT
returns-then-input-gt-INPUT c =
    let bs = c.args.input.now in let (p0, p1) = printed bs (ending_over bs c.if-input-gt-INPUT.true) (fits_refusal 61 (omega arith)) (omega arith)
    (said c.refusal.ensures) in record { front = p0; buffers_after = p1 }

pub returns-in-83 : goal.returns-in-83
returns-in-83 c =
    let bs = c.args.input.now in let (p0, p1) = printed bs (letter_s bs c.if-input-gt-INPUT.false c.byte_at-letter.ensures c.in-83.is) (fits_puts _ bs
    (fields_of bs)) (omega arith)
    c.put_line.ensures in record { front = p0; buffers_after = p1 }

pub returns-in-87 : goal.returns-in-87
returns-in-87 c =
    let bs = c.args.input.now in let (p0, p1) = printed bs (letter_w bs c.if-input-gt-INPUT.false c.byte_at-letter.ensures c.in-87.is) (fits_puts _ bs
    (fields_of bs)) (omega arith)
    c.put_line-in-87.ensures in record { front = p0; buffers_after = p1 }

pub returns-in-89 : goal.returns-in-89
returns-in-89 c =
    let bs = c.args.input.now in let (p0, p1) = printed bs (letter_y bs c.if-input-gt-INPUT.false c.byte_at-letter.ensures c.in-89.is) (omega (
      arith,
      whys_fit (drop 1 bs),
    )) (omega arith)
    (ended_why _ (c.why_line.ensures.wrote, c.why_line.ensures.scratch_after)) in record { front = p0; buffers_after = p1 }

pub returns-in-67 : goal.returns-in-67
returns-in-67 c =
    let bs = c.args.input.now in let (p0, p1) = printed bs (letter_c bs c.if-input-gt-INPUT.false c.byte_at-letter.ensures c.in-67.is) (omega (
      arith,
      checks_fit bs (fields_of bs),
    )) (omega arith)
    (ended_check _ (c.check_line.ensures.wrote, c.check_line.ensures.scratch_after)) in record { front = p0; buffers_after = p1 }

pub returns-in_default : goal.returns-in_default
returns-in_default c =
    let bs = c.args.input.now in
    let other = c.in_default.in_default-own.rest in
    let (p0, p1) = printed bs (letter_other bs c.if-input-gt-INPUT.false c.byte_at-letter.ensures other.0.0.0.1 other.0.0.1 other.0.1 other.1)
    (c.line.ensures.input_len_bound c.if-input-gt-INPUT.false) (omega arith) (said c.line.ensures.wrote) in record { front = p0; buffers_after = p1 }

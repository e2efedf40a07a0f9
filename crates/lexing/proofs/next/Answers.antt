-- `next` meets its contract. Assumes nothing.
use mathlib.Core.Path.{sym, ap, ◌∙◌}
use native.Mathlib.Omega.{arith}
use Rattle.lexing.specs.Lexing.{class_named, next_end, next_met, lex_word, lex_digits, lex_hash, named_letter, named_digit, named_sharp}
use Rattle.lexing.proofs.next.Goals as goal

pub returns-then-text-at : goal.returns-then-text-at
returns-then-text-at c = next_end c.skip-at.ensures c.if-text-at.true

pub returns-in-Letter : goal.returns-in-Letter
returns-in-Letter c =
    next_met c.skip-at.ensures
    (lex_word c.args.text.now c.skip-at.result _ (omega arith) (named_letter _ (sym c.in-Letter.ensures)) c.run_end.ensures)

pub returns-in-Digit : goal.returns-in-Digit
returns-in-Digit c =
    next_met c.skip-at.ensures
    (lex_digits c.args.text.now c.skip-at.result _ (omega arith) (named_digit _ (sym c.in-Digit.ensures)) c.run_end-in-Digit.ensures)

pub returns-in-Sharp : goal.returns-in-Sharp
returns-in-Sharp c =
    next_met c.skip-at.ensures
    (lex_hash c.args.text.now c.skip-at.result _ (omega arith) (named_sharp _ (sym c.in-Sharp.ensures)) c.run_end-in-Sharp.ensures)

pub returns-in_default : goal.returns-in_default
returns-in_default c = next_met c.skip-at.ensures c.mark.ensures

pub mark-requires : goal.mark-requires
unfolding class_named
mark-requires c =
    let n = c.in_default in
    let h = c.of.ensures in record {
      inside = c.if-text-at.false;
      black = c.skip-at.ensures.black;
      letterless = λ q. n.not-Letter (h ∙ ap class_named q);
      digitless = λ q. n.not-Digit (h ∙ ap class_named q);
      sharpless = λ q. n.not-Sharp (h ∙ ap class_named q);
    }

use mathlib.Core.Path.{◌∙◌}
use native.Mathlib.Omega.{arith}
use Rattle.parsing.specs.Expect.{letter_yes, letter_no}
use Rattle.parsing.proofs.expect.letter_at.Goals as goal

pub returns-in-Letter : goal.returns-in-Letter
returns-in-Letter c = letter_yes c.args.text.now c.args.at (omega arith) c.in-Letter.ensures

pub returns-in_default : goal.returns-in_default
returns-in_default c = letter_no c.args.text.now c.args.at (omega arith) (λ q. c.in_default.not-Letter (c.of.ensures ∙ q))

use native.Mathlib.Omega.{arith}
use Rattle.lexing.specs.Lexing.{gap_comment}
use Rattle.lexing.proofs.dash_end.Goals as goal

pub returns : goal.returns
returns c = gap_comment c.args.text.now c.args.at (omega arith) c.requires.1 c.if-text-at-ne45.false c.comment_end.ensures

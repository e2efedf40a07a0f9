use mathlib.Core.Path.{sym}
use Rattle.lexing.specs.Lexing.{gap_blank, named_blank}
use Rattle.lexing.proofs.gap_end.Goals as goal

pub returns-in-Blank : goal.returns-in-Blank
returns-in-Blank c = gap_blank c.args.text.now c.args.at c.requires (named_blank _ (sym c.in-Blank.ensures))

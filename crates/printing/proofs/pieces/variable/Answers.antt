-- `variable` meets its contract: its name, or `#` and its number. Assumes nothing.
use mathlib.Core.Path.{sym}
use Rattle.report.specs.Writing.{wrote_then, wrote_text}
use Rattle.printing.specs.Pieces.{variable_in, variable_out}
use Rattle.printing.proofs.pieces.variable.Goals as goal

pub returns-then-x-scope : goal.returns-then-x-scope
returns-then-x-scope c =
    wrote_text c.name.ensures (sym (variable_in c.args.scope _ c.if-x-scope.true))

pub returns : goal.returns
returns c =
    wrote_text (wrote_then c.byte-end.ensures c.decimal.ensures)
    (sym (variable_out c.args.scope _ c.if-x-scope.false))

use Rattle.parsing.specs.Expressions.{begin_mark}
use Rattle.parsing.proofs.expr.begins.Goals as goal

pub returns-in_default : goal.returns-in_default
returns-in_default c =
    let n = rw c.in_default.field-0-is at c.in_default.field-0-test in
    begin_mark c.args.text.now c.args.t c.in_default.is n.0.1 n.1

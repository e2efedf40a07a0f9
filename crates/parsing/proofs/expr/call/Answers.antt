-- `call` meets its contract. Assumes nothing.
use Rattle.parsing.specs.Expressions.{call_told}
use Rattle.parsing.proofs.expr.call.Goals as goal

pub returns : goal.returns
returns c =
    call_told c.args.names.now c.requires.0 c.resolved-w.ensures c.variable-x.ensures c.symbol-comma.ensures c.variable-y.ensures c.symbol-end.ensures
    c.store.ensures c.enter.ensures

-- `var` meets its contract. Assumes nothing.
use Rattle.parsing.specs.Expressions.{var_told}
use Rattle.parsing.proofs.expr.var.Goals as goal

pub returns : goal.returns
returns c =
    var_told c.args.names.now c.requires c.variable-x.ensures c.store.ensures c.enter.ensures

-- `two` meets its contract. Assumes nothing.
use Rattle.parsing.specs.ConstructLaws.{two_told}
use Rattle.parsing.proofs.expr.two.Goals as goal

pub returns : goal.returns
returns c =
    two_told c.args.mark c.bind-x.ensures c.symbol-m.ensures c.bind.ensures

-- `unmet` meets its contract. Assumes nothing.
use borrow.Author.Rules.{rules}
use Rattle.explaining.specs.Explain.{unmet, why_reply}
use Rattle.explaining.proofs.unmet.Goals as goal

pub returns : goal.returns
unfolding unmet why_reply
returns c = search rules

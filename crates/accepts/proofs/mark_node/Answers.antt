-- `mark_node` meets its contract: in each arm the node is the variant that it binds. Assumes nothing.
use mathlib.Core.Path.{◌∙◌}
use Rattle.accepts.specs.Marks.{var_marked, call_marked, each_marked}
use Rattle.accepts.proofs.Tags.{none_named}
use Rattle.accepts.proofs.mark_node.Goals as goal

pub returns-in-Var : goal.returns-in-Var
returns-in-Var c = c.mark.ensures ∙ var_marked _ c.in-Var.is

pub returns-in-Call : goal.returns-in-Call
returns-in-Call c =
    call_marked _ c.in-Call.is c.mark-in-Call.ensures c.mark-in-Call-2.ensures

pub returns-in-Each : goal.returns-in-Each
returns-in-Each c = c.mark-in-Each.ensures ∙ each_marked _ c.in-Each.is

pub returns-in_default : goal.returns-in_default
returns-in_default c = none_named c.args.node c.in_default.not-Var c.in_default.not-Call c.in_default.not-Each _

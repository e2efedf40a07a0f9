-- `plain_node` meets its contract: in each arm the node is of the kind that it binds. Assumes nothing.
use mathlib.Core.Path.{sym, ap, ◌∙◌}
use Rattle.node.specs.Kinds.{children}
use Rattle.syntax.specs.Printer.{no_case, all_plain}
use Rattle.printing.specs.Flat.{flat_in, plain_of, one_is}
use Rattle.printing.proofs.plain.plain_node.Goals as goal

pub returns-in-Var : goal.returns-in-Var
unfolding plain_of no_case children all_plain
returns-in-Var c = sym (ap (plain_of _) c.in-Var.is)

pub returns-in-False : goal.returns-in-False
unfolding plain_of no_case children all_plain
returns-in-False c = sym (ap (plain_of _) c.in-False.is)

pub returns-in-True : goal.returns-in-True
unfolding plain_of no_case children all_plain
returns-in-True c = sym (ap (plain_of _) c.in-True.is)

pub returns-in-Empty : goal.returns-in-Empty
unfolding plain_of no_case children all_plain
returns-in-Empty c = sym (ap (plain_of _) c.in-Empty.is)

pub returns-in-Number : goal.returns-in-Number
unfolding plain_of no_case children all_plain
returns-in-Number c = sym (ap (plain_of _) c.in-Number.is)

pub returns-in-Front : goal.returns-in-Front
unfolding plain_of no_case children all_plain
returns-in-Front c = c.both_plain.ensures ∙ sym (ap (plain_of _) c.in-Front.is)

pub returns-in-Pair : goal.returns-in-Pair
unfolding plain_of no_case children all_plain
returns-in-Pair c = c.both_plain-in-Pair.ensures ∙ sym (ap (plain_of _) c.in-Pair.is)

pub returns-in-ListCase : goal.returns-in-ListCase
unfolding plain_of no_case children all_plain
returns-in-ListCase c = sym (ap (plain_of _) c.in-ListCase.is)

pub returns-in-TruthCase : goal.returns-in-TruthCase
unfolding plain_of no_case children all_plain
returns-in-TruthCase c = sym (ap (plain_of _) c.in-TruthCase.is)

pub returns-in-Split : goal.returns-in-Split
unfolding plain_of no_case children all_plain
returns-in-Split c = c.both_plain-in-Split.ensures ∙ sym (ap (plain_of _) c.in-Split.is)

pub returns-in-Call : goal.returns-in-Call
unfolding plain_of no_case children all_plain
returns-in-Call c = sym (ap (plain_of _) c.in-Call.is)

pub returns-in-Add : goal.returns-in-Add
unfolding plain_of no_case children all_plain
returns-in-Add c =
    c.is_plain.ensures ∙ sym (ap (plain_of _) c.in-Add.is ∙ one_is (flat_in c.args.plain.now) _)

pub returns-in-Each : goal.returns-in-Each
unfolding plain_of no_case children all_plain
returns-in-Each c = c.both_plain-in-Each.ensures ∙ sym (ap (plain_of _) c.in-Each.is)

pub returns-in-Wide : goal.returns-in-Wide
unfolding plain_of no_case children all_plain
returns-in-Wide c = sym (ap (plain_of _) c.in-Wide.is)

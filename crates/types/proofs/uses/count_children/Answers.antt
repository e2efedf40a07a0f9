-- `count_children` meets its contract: in each arm the node is the kind that it binds. Assumes nothing.
use mathlib.Core.List.{append_assoc}
use Rattle.node.specs.Kinds.{children}
use Rattle.types.specs.Uses.{as_node, as_none}
use Rattle.types.proofs.Tags.{childless}
use Rattle.types.proofs.uses.count_children.Goals as goal

pub returns-in-Front : goal.returns-in-Front
unfolding children
returns-in-Front c l k = as_node l c.in-Front.is (c.count_two.ensures l k)

pub returns-in-Pair : goal.returns-in-Pair
unfolding children
returns-in-Pair c l k = as_node l c.in-Pair.is (c.count_two-in-Pair.ensures l k)

pub returns-in-ListCase : goal.returns-in-ListCase
unfolding children
returns-in-ListCase c l k =
    let h = c.count_two-in-ListCase-2.ensures _ (c.count.ensures _ (c.count_two-in-ListCase.ensures l k)) in
    as_node l c.in-ListCase.is (simp append_assoc at h)

pub returns-in-TruthCase : goal.returns-in-TruthCase
unfolding children
returns-in-TruthCase c l k =
    let h = c.count_two-in-TruthCase.ensures _ (c.count-in-TruthCase.ensures l k) in
    as_node l c.in-TruthCase.is (simp append_assoc at h)

pub returns-in-Split : goal.returns-in-Split
unfolding children
returns-in-Split c l k = as_node l c.in-Split.is (c.count_two-in-Split.ensures l k)

pub returns-in-Add : goal.returns-in-Add
unfolding children
returns-in-Add c l k = as_node l c.in-Add.is (c.count-in-Add.ensures l k)

pub returns-in-Each : goal.returns-in-Each
unfolding children
returns-in-Each c l k = as_node l c.in-Each.is (c.count_two-in-Each.ensures l k)

pub returns-in_default : goal.returns-in_default
returns-in_default c l k =
    let d = c.in_default in
    as_none l _ (childless _ d.not-Front d.not-Pair d.not-ListCase d.not-TruthCase d.not-Split d.not-Add d.not-Each) k

-- The printer's functions of nodes, which call each other, meet their contracts. The measure is four times the nodes that are left: what a node names
-- stands behind it, so that fewer nodes are left at each call. A node as the rest of a list, or behind an
-- arrow, stands above the node alone, and a branch above both; a function of one kind of node stands below the node alone, and its
-- defaults below a case.
-- Assumes nothing.
use Prim.Native.Nat.{◌+◌, ◌-◌, ◌*◌}
use Rattle.printing.proofs.nodes.Source.+say.Given as goal

abbrev pub decreases-add : goal.decreases-add
decreases-add l = 4 * (200 - l.n)

abbrev pub decreases-body : goal.decreases-body
decreases-body l = 4 * (200 - l.n) + 2

abbrev pub decreases-branch : goal.decreases-branch
decreases-branch l = 4 * (200 - l.n) + 3

abbrev pub decreases-defaults : goal.decreases-defaults
decreases-defaults l = 4 * (200 - l.n) - 1

abbrev pub decreases-each : goal.decreases-each
decreases-each l = 4 * (200 - l.n)

abbrev pub decreases-front : goal.decreases-front
decreases-front l = 4 * (200 - l.n)

abbrev pub decreases-list_case : goal.decreases-list_case
decreases-list_case l = 4 * (200 - l.n)

abbrev pub decreases-list_rest : goal.decreases-list_rest
decreases-list_rest l = 4 * (200 - l.n) + 2

abbrev pub decreases-pair : goal.decreases-pair
decreases-pair l = 4 * (200 - l.n)

abbrev pub decreases-say : goal.decreases-say
decreases-say l = 4 * (200 - l.n) + 1

abbrev pub decreases-split : goal.decreases-split
decreases-split l = 4 * (200 - l.n)

abbrev pub decreases-truth_case : goal.decreases-truth_case
decreases-truth_case l = 4 * (200 - l.n)

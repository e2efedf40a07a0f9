-- The measure of each function that reads a part of an expression: sixteen for each node that may still come, and a few more, so that a function stands above
-- those that it calls at the same number.
-- Assumes nothing.
use Prim.Native.Nat.{ℕ, ◌+◌, ◌-◌, ◌*◌}
use Rattle.parsing.proofs.expr.+expr.Given as goal

abbrev left : ℕ → ℕ → ℕ
left count more = 16 * (200 - count) + more

abbrev pub decreases-amount : goal.decreases-amount
decreases-amount l = left l.c.count 5

abbrev pub decreases-back : goal.decreases-back
decreases-back l = left l.c.count 8

abbrev pub decreases-branch : goal.decreases-branch
decreases-branch l = left l.c.count 8

abbrev pub decreases-branches : goal.decreases-branches
decreases-branches l = left l.c.count 10

abbrev pub decreases-case_of : goal.decreases-case_of
decreases-case_of l = left l.c.count 5

abbrev pub decreases-default : goal.decreases-default
decreases-default l = left l.c.count 8

abbrev pub decreases-each_of : goal.decreases-each_of
decreases-each_of l = left l.c.count 5

abbrev pub decreases-expr : goal.decreases-expr
decreases-expr l = left l.c.count 7

abbrev pub decreases-front : goal.decreases-front
decreases-front l = left l.c.count 4

abbrev pub decreases-let_in : goal.decreases-let_in
decreases-let_in l = left l.c.count 5

abbrev pub decreases-list : goal.decreases-list
decreases-list l = left l.c.count 5

abbrev pub decreases-list_case : goal.decreases-list_case
decreases-list_case l = left l.c.count 9

abbrev pub decreases-pair : goal.decreases-pair
decreases-pair l = left l.c.count 5

abbrev pub decreases-shaped : goal.decreases-shaped
decreases-shaped l = left l.c.count 6

abbrev pub decreases-truth_case : goal.decreases-truth_case
decreases-truth_case l = left l.c.count 9

-- `first_used_twice` meets its contract: the uses of the roots, then node by node. Assumes nothing.
use Rattle.sheet.specs.Sheet.{Sheet}
use Rattle.sheet.specs.Laws.{Reads}
use Rattle.typing.specs.Check.{used}
use Rattle.types.specs.Uses.{Counted}
use Rattle.types.proofs.uses.first_used_twice.Given as goal

abbrev pub invariant-loop-start : goal.invariant-loop-start
invariant-loop-start l = (sh : Sheet) → Reads l.sheet l.fn.t sh → Counted l.uses (used sh l.start-index)

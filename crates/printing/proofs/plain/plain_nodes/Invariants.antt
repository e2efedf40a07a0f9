-- `plain_nodes` meets its contract: the nodes from n on are marked. Assumes nothing.
use mathlib.Core.Path.{◌≡◌}
use lib.ListN.{length}
use Rattle.sheet.specs.Sheet.{Sheet}
use Rattle.sheet.specs.Laws.{Reads}
use Rattle.printing.specs.Flat.{Flats}
use Rattle.printing.proofs.plain.plain_nodes.Given as goal

abbrev pub invariant-loop-n : goal.invariant-loop-n
invariant-loop-n l = (length l.plain ≡ 200) × ((sh : Sheet) → Reads l.sheet l.fn.t sh → Flats sh l.n l.plain)

-- `numbering::count_all` meets its contract: the first of the nodes are counted. Assumes nothing.
use mathlib.Core.Path.{◌≡◌}
use lib.ListN.{take}
use Rattle.numbering.specs.Counting.{used_all}
use Rattle.numbering.proofs.count_all.Given as goal

abbrev pub invariant-loop-n : goal.invariant-loop-n
invariant-loop-n l = l.uses ≡ used_all l.initial.uses (take l.n-index l.ns)

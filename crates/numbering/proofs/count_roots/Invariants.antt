-- `numbering::count_roots` meets its contract: the main root and i sections' roots are counted. Assumes nothing.
use mathlib.Core.Path.{◌≡◌}
use Rattle.node.specs.Forms.{listing}
use Rattle.sheet.specs.Table.{section_at}
use Rattle.numbering.specs.Counting.{used_all}
use Rattle.numbering.proofs.count_roots.Given as goal

abbrev pub invariant-loop-i : goal.invariant-loop-i
invariant-loop-i l = l.uses ≡ used_all l.initial.uses (listing l.i (section_at l.sheet))

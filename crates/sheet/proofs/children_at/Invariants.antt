-- `sheet::children_at` meets its contract: i bytes of the record are looked at. Assumes nothing.
use mathlib.Core.Path.{◌≡◌}
use Prim.Native.Nat.{◌+◌}
use lib.ListN.{get_or}
use Rattle.node.specs.Decoding.{kind_width}
use Rattle.sheet.proofs.PartsLaws.{Looked}
use Rattle.sheet.proofs.children_at.Given as goal

abbrev pub invariant-loop-i : goal.invariant-loop-i
invariant-loop-i l = (l.kind ≡ get_or l.s (l.at + 0) 0) × (l.width ≡ kind_width (get_or l.s (l.at + 0) 0)) × Looked l.s l.at l.c l.i

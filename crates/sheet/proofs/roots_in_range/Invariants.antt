-- `sheet::roots_in_range` meets its contract. Assumes nothing.
use Rattle.sheet.proofs.Numbers.{Roots}
use Rattle.sheet.proofs.roots_in_range.Given as goal

abbrev pub invariant-loop-i : goal.invariant-loop-i
invariant-loop-i l = Roots l.s l.sections l.nodes l.i

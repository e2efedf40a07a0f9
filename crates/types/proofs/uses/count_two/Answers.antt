-- `count_two` meets its contract. Assumes nothing.
use mathlib.Core.List.{append_assoc}
use Rattle.types.proofs.uses.count_two.Goals as goal

pub returns : goal.returns
returns c l k = let h = c.count-2.ensures _ (c.count.ensures l k) in rw append_assoc at h

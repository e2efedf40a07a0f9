-- `numbering::meet` meets its contract: the nodes seen and those still to be met. Assumes nothing.
use Prim.Native.Nat.{◌-◌}
use Rattle.numbering.specs.Counting.{fine_read}
use Rattle.numbering.specs.Meeting.{Single, Meeting}
use Rattle.numbering.proofs.meet.Given as goal

abbrev pub invariant-loop-top : goal.invariant-loop-top
invariant-loop-top l = (g : Single l.sheet l.t) → Meeting (fine_read g.fine).0 l.todo l.top l.nodes l.count

abbrev pub decreases-loop-top : goal.decreases-loop-top
decreases-loop-top l = 256 - l.count

-- `copy_out` meets its contract. The invariant: both buffers are long enough, and i bytes are copied.
use Prim.Native.Nat.{◌+◌, ◌≤◌}
use lib.ListN.{length}
use Rattle.buffers.specs.Buffers.{Copying}
use Rattle.buffers.proofs.copy_out.Given as goal

abbrev pub invariant-loop-i : goal.invariant-loop-i
invariant-loop-i l = (l.from + l.n ≤ length l.scratch) × (l.to + l.n ≤ length l.initial.out)
    × Copying l.from l.to l.i l.scratch l.initial.out l.out

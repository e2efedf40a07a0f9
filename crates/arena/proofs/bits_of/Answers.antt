use Prim.Native.Nat.{◌<◌, ◌+◌, ◌*◌, ◌-◌, min}
use native.Mathlib.Omega.{arith}
use Rattle.arena.specs.Bits.{BitsFrom, filled_byte, bits_none, bits_more, bits_fit}
use Rattle.arena.proofs.bits_of.Goals as goal
use Rattle.arena.proofs.bits_of.Goals.{After-from}

-- the bits with one cell more, and that they fit
more : (c : After-from) → BitsFrom c.args.slots.now (min c.args.k 16) (c.loop-i.i - 1) (c.from.result + 2 * c.loop-i.bits)
more c = bits_more c.loop-i.invariant c.loop-i-test.true (filled_byte _ c.from.ensures)

fits : (c : After-from) → c.from.result + 2 * c.loop-i.bits < 65536
fits c = bits_fit (omega arith) (more c)

pub loop-i-init : goal.loop-i-init
loop-i-init c = rw c.min-i.ensures (bits_none _ _)

pub overflow_mul-bits : goal.overflow_mul-bits
overflow_mul-bits c = omega (arith, fits c)

pub overflow_add-bits : goal.overflow_add-bits
overflow_add-bits c = omega (arith, fits c)

pub loop-i-preserved : goal.loop-i-preserved
loop-i-preserved c = more c

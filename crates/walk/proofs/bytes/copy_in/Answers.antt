use native.Mathlib.Omega.{arith}
use Rattle.walk.specs.Arena.Parts.{copying_in_none, copying_in_more, copying_in_all}
use Rattle.walk.proofs.bytes.copy_in.Goals as goal

pub loop-i-init : goal.loop-i-init
loop-i-init c = copying_in_none _ _

pub bounds-arena-i : goal.bounds-arena-i
bounds-arena-i c = omega (arith, c.loop-i.invariant.long, c.requires, c.loop-i-test.true)

pub loop-i-preserved : goal.loop-i-preserved
loop-i-preserved c = copying_in_more c.loop-i.invariant (omega (arith, c.loop-i-test.true, c.requires))

pub shape_of-arena : goal.shape_of-arena
shape_of-arena c = c.loop-i.invariant.long

pub returns : goal.returns
returns c = copying_in_all c.loop-i.invariant (omega (arith, c.loop-i-test.false)) c.requires

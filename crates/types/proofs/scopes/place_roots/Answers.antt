use native.Mathlib.Omega.{arith}
use Rattle.types.specs.Placing.{as_scope, put_more, sections_next, sections_done}
use Rattle.types.proofs.scopes.place_roots.Goals as goal

pub loop-c-preserved : goal.loop-c-preserved
loop-c-preserved c = (
  omega (arith, c.loop-c-test.true),
  λ rs w. sections_next w c.loop-c-test.true c.section_root.ensures (c.loop-c.invariant.1 rs w) (as_scope c.place-in-loop-c.ensures c.slots-in-loop-c.ensures),
)

pub returns : goal.returns
returns c rs w = put_more (as_scope c.place.ensures c.slots.ensures) (sections_done w c.loop-c-test.false (c.loop-c.invariant.1 rs w))

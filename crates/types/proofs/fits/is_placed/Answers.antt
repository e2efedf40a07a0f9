use native.Mathlib.Omega.{arith}
use Rattle.types.specs.Rooted.{main_yes, main_no, section_yes, section_no, placed_done}
use Rattle.types.proofs.fits.is_placed.Goals as goal

pub returns-then-not-is_asked : goal.returns-then-not-is_asked
returns-then-not-is_asked c sh ts k = main_no k c.is_asked.ensures (c.if-not-is_asked.true)

pub loop-c-init : goal.loop-c-init
loop-c-init c = (omega arith, λ sh ts k. main_yes k c.is_asked.ensures (c.if-not-is_asked.false))

pub returns-then-not-is_asked-2 : goal.returns-then-not-is_asked-2
returns-then-not-is_asked-2 c sh ts k = section_no k c.loop-c-test.true c.section_root.ensures c.of_section.ensures c.is_asked-in-loop-c.ensures
    (c.if-not-is_asked-2.true)

pub loop-c-preserved : goal.loop-c-preserved
loop-c-preserved c = (
  omega (arith, c.loop-c-test.true),
  λ sh ts k. section_yes k c.loop-c-test.true c.section_root.ensures c.of_section.ensures c.is_asked-in-loop-c.ensures
      (c.loop-c.invariant.1 sh ts k) (c.if-not-is_asked-2.false),
)

pub returns : goal.returns
returns c sh ts k = placed_done k c.loop-c-test.false (c.loop-c.invariant.1 sh ts k)

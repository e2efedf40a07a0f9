use Rattle.sheet.proofs.Numbers.{roots_all, root_out, root_in}
use Rattle.sheet.proofs.roots_in_range.Goals as goal

pub returns-then-nodes-section_root : goal.returns-then-nodes-section_root
returns-then-nodes-section_root c = root_out c.loop-i.invariant c.loop-i-test.true c.section_root.ensures c.if-nodes-section_root.true

pub loop-i-preserved : goal.loop-i-preserved
loop-i-preserved c = root_in c.loop-i.invariant c.loop-i-test.true c.section_root.ensures c.if-nodes-section_root.false

pub returns : goal.returns
returns c = roots_all c.loop-i.invariant c.loop-i-test.false

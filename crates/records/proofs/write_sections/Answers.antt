use native.Mathlib.Omega.{arith}
use Rattle.records.specs.AnewLaws.{rooted_none, rooted_more, rooted_all}
use Rattle.records.proofs.write_sections.Goals as goal

pub loop-i-init : goal.loop-i-init
loop-i-init c = rooted_none c.place-end.ensures

pub loop-i-preserved : goal.loop-i-preserved
loop-i-preserved c = rooted_more c.loop-i.invariant c.section_root.ensures c.entry-n.ensures c.bytes-end.ensures

pub returns : goal.returns
returns c = rooted_all c.loop-i.invariant (omega arith)

use Rattle.sheet.proofs.Numbers.{nodes_all, node_out, node_in}
use Rattle.sheet.proofs.nodes_in_range.Goals as goal

pub returns-then-not-record_in_range : goal.returns-then-not-record_in_range
returns-then-not-record_in_range c = node_out c.loop-i.invariant c.loop-i-test.true (rw c.from.ensures at c.record_in_range.ensures)
    c.if-not-record_in_range.true

pub loop-i-preserved : goal.loop-i-preserved
loop-i-preserved c = node_in c.loop-i.invariant c.loop-i-test.true (rw c.from.ensures at c.record_in_range.ensures)
    c.if-not-record_in_range.false

pub returns : goal.returns
returns c = nodes_all c.loop-i.invariant c.loop-i-test.false

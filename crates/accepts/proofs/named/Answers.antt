use Rattle.accepts.specs.Marks.{marking_more, marking_all}
use borrow.Author.Rules.{rules}
use Rattle.accepts.proofs.named.Goals as goal

pub loop-at-preserved : goal.loop-at-preserved
loop-at-preserved c = marking_more c.loop-at.invariant c.loop-at-test.true c.from.ensures c.node_at.ensures c.mark_node.ensures

pub returns : goal.returns
returns c = marking_all c.loop-at.invariant c.loop-at-test.false (search rules)

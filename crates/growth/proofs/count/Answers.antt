use Rattle.std.proofs.Common.{◌∙◌, ap}
use Rattle.node.specs.Decoding.{node_at}
use Rattle.growth.proofs.Tool.{counts_none, counts_more, counts_all}
use Rattle.growth.proofs.count.Goals as goal

pub loop-i-init : goal.loop-i-init
loop-i-init c = counts_none _ _ _

pub loop-i-preserved : goal.loop-i-preserved
loop-i-preserved c =
    counts_more c.requires c.loop-i.invariant c.loop-i-test.true (c.node_at.ensures ∙ ap (node_at c.args.sheet.now) c.from-at.ensures) c.count_of.ensures

pub returns : goal.returns
returns c = counts_all c.requires c.loop-i.invariant c.loop-i-test.false

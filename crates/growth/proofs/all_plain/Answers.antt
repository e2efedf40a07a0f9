use Rattle.std.proofs.Common.{arith}
use Rattle.growth.proofs.Tool.{early, node_in, late, plains_all, plain_out, plain_in}
use Rattle.growth.proofs.all_plain.Goals as goal

pub returns-then-not-is_plain : goal.returns-then-not-is_plain
returns-then-not-is_plain c =
    let h = c.loop-start-test.true in
    plain_out c.requires c.loop-start.invariant (early c.args.table h) (node_in c.args.table c.args.sheet.now h c.node_at.ensures c.from.ensures)
    c.is_plain.ensures
    (c.if-not-is_plain.true)

pub loop-start-preserved : goal.loop-start-preserved
loop-start-preserved c =
    let h = c.loop-start-test.true in
    plain_in c.requires c.loop-start.invariant (early c.args.table h) (node_in c.args.table c.args.sheet.now h c.node_at.ensures c.from.ensures)
    c.is_plain.ensures
    (c.if-not-is_plain.false)

pub returns : goal.returns
returns c = plains_all c.requires c.loop-start.invariant (late c.args.table c.loop-start-test.false (omega arith))

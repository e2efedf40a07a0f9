-- `name` meets its contract. Assumes nothing.
use Rattle.parsing.specs.Names.{fails}
use Rattle.parsing.specs.Expressions.{name_kind}
use Rattle.parsing.specs.ConstructLaws.{leaf_name, leaf_call, leafy_behind}
use Rattle.parsing.proofs.expr.name.Goals as goal

pub returns-then-not-is : goal.returns-then-not-is
returns-then-not-is c =
    let w = c.requires.0 in
    leaf_name w.clear c.requires.1 c.next-u.ensures (fails c.is.ensures c.if-not-is.true) w.free c.var.ensures

pub call-requires : goal.call-requires
call-requires c =
    let w = c.requires.0 in
    let g = c.requires.1 in
    (leafy_behind c.args.c w c.read.ensures, g.is_next.shape, name_kind c.args.text.now c.args.t g.coded, w.ready.table_few)

pub returns : goal.returns
returns c =
    let w = c.requires.0 in
    leaf_call w.clear c.requires.1 c.next-u.ensures (c.is.ensures.0 c.if-not-is.false) w.free c.read.ensures c.call.ensures

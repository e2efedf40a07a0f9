-- `count_of` meets its contract: in each arm the node is the variant that it binds. Assumes nothing.
use Rattle.growth.proofs.Tool.{var_counted, front_counted, pair_counted, add_counted}
use Rattle.growth.proofs.Tags.{none_counted}
use Rattle.growth.proofs.count_of.Goals as goal

pub returns-in-Var : goal.returns-in-Var
returns-in-Var c = var_counted c.args.variable c.args.counts.now c.in-Var.is c.from.ensures

pub returns-in-Front : goal.returns-in-Front
returns-in-Front c =
    front_counted c.args.variable c.args.counts.now c.count_at.ensures c.count_at-in-Front.ensures c.sum.ensures c.in-Front.is

pub returns-in-Pair : goal.returns-in-Pair
returns-in-Pair c =
    pair_counted c.args.variable c.args.counts.now c.count_at-in-Pair.ensures c.count_at-in-Pair-2.ensures c.sum-in-Pair.ensures c.in-Pair.is

pub returns-in-Add : goal.returns-in-Add
returns-in-Add c =
    add_counted c.args.variable c.args.counts.now c.in-Add.is c.count_at-in-Add.ensures c.sum-in-Add.ensures

pub returns-in_default : goal.returns-in_default
returns-in_default c =
    let d = c.in_default in
    none_counted c.args.node d.not-Var d.not-Front d.not-Pair d.not-Add c.args.variable c.args.counts.now

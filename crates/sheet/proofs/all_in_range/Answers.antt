-- `sheet::all_in_range` meets its contract. Assumes nothing.
use Rattle.sheet.proofs.Numbers.{few_nodes, sheet_judged}
use Rattle.sheet.proofs.all_in_range.Goals as goal

pub nodes_in_range-requires : goal.nodes_in_range-requires
nodes_in_range-requires c = few_nodes c.args.s.now c.requires

pub returns : goal.returns
returns c = sheet_judged c.args.s.now c.requires
    c.roots_in_range.ensures c.nodes_in_range.ensures

-- `fits_list_case` meets its contract. Assumes nothing.
use Rattle.types.specs.Decided.{ranged_as, in_node, list_types, same_types, fits_list}
use Rattle.types.proofs.fits.fits_list_case.Goals as goal

pub returns : goal.returns
returns c stand q sections nodes ts Γ k =
    let n = c.in-ListCase.is in
    let g = ranged_as k n in
    let subject = in_node k.laid g.0.inside c.of_node-s.ensures in
    let own = in_node k.laid k.own c.of_node-t.ensures in
    fits_list ts _ Γ n (list_types subject (in_node k.laid g.1.1.1.1.1.0.inside c.of_node.ensures) c.is_list_of.ensures)
    (same_types (in_node k.laid g.1.1.1.1.1.1.0.inside c.of_node-2.ensures) subject c.is_same.ensures)
    (same_types (in_node k.laid g.1.0.inside c.of_node-3.ensures) own c.is_same-2.ensures)
    (same_types (in_node k.laid g.1.1.1.0.inside c.of_node-4.ensures) own c.is_same-3.ensures)

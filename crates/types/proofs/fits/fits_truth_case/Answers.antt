-- `fits_truth_case` meets its contract. Assumes nothing.
use Rattle.types.specs.Decided.{ranged_as, in_node, kind_is, same_types, fits_truth}
use Rattle.types.proofs.fits.fits_truth_case.Goals as goal

pub returns : goal.returns
returns c stand q sections nodes ts Γ k =
    let n = c.in-TruthCase.is in
    let g = ranged_as k n in
    let own = in_node k.laid k.own c.of_node-t.ensures in
    fits_truth ts _ Γ n (kind_is _ (in_node k.laid g.0.inside c.of_node.ensures) c.is_of.ensures)
    (same_types (in_node k.laid g.1.0.inside c.of_node-2.ensures) own c.is_same.ensures)
    (same_types (in_node k.laid g.1.1.1.0.inside c.of_node-3.ensures) own c.is_same-2.ensures)

-- `fits_each` meets its contract. Assumes nothing.
use Rattle.types.specs.Decided.{ranged_as, in_node, in_first, in_second, in_result, same_types, list_types, fits_each}
use Rattle.types.proofs.fits.fits_each.Goals as goal

pub returns : goal.returns
returns c q sections nodes ts Γ k =
    let n = c.in-Each.is in
    let g = ranged_as k n in
    let first = in_first k.laid g.1.0 c.of_section-first.ensures in
    fits_each ts _ Γ n (list_types (in_node k.laid g.0.inside c.of_node.ensures) first c.is_list_of.ensures)
    (same_types (in_node k.laid g.1.1.1.0.inside c.of_node-2.ensures) first c.is_same.ensures)
    (c.is_typed.ensures Γ _ k.scoped (in_second k.laid g.1.0 c.of_section.ensures))
    (list_types (in_node k.laid k.own c.of_node-3.ensures) (in_result k.laid g.1.0 c.of_section-2.ensures)
    c.is_list_of-2.ensures)

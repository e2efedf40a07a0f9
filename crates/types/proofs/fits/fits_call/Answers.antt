-- `fits_call` meets its contract. Assumes nothing.
use Rattle.types.specs.Decided.{ranged_as, in_node, in_first, in_second, in_result, same_types, fits_call}
use Rattle.types.proofs.fits.fits_call.Goals as goal

pub returns : goal.returns
returns c q sections nodes ts Γ k =
    let n = c.in-Call.is in
    let g = (ranged_as k n).0 in
    fits_call ts _ Γ n (c.is_typed.ensures Γ _ k.scoped (in_first k.laid g c.of_section.ensures))
    (c.is_typed-2.ensures Γ _ k.scoped (in_second k.laid g c.of_section-2.ensures))
    (same_types (in_node k.laid k.own c.of_node.ensures) (in_result k.laid g c.of_section-3.ensures)
    c.is_same.ensures)

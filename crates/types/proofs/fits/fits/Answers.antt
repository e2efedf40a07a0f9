-- `fits` meets its contract: in each arm the node is the kind that it binds. Assumes nothing.
use mathlib.Core.Path.{ap}
use Rattle.node.specs.Kinds.{row}
use Rattle.types.specs.Decided.{ranged_as, in_node, kind_is, same_types, list_types, pair_types}
use Rattle.types.specs.Decided.{fits_var, fits_false, fits_true, fits_empty, fits_number, fits_wide, fits_front, fits_pair, fits_split, fits_add}
use Rattle.types.proofs.fits.fits.Goals as goal

pub returns-in-Var : goal.returns-in-Var
returns-in-Var c sections nodes ts Γ k = fits_var ts _ Γ c.in-Var.is (c.is_typed.ensures Γ _ k.scoped (in_node k.laid k.own c.of_node-t.ensures))

pub returns-in-False : goal.returns-in-False
returns-in-False c sections nodes ts Γ k = fits_false ts _ Γ c.in-False.is (kind_is _ (in_node k.laid k.own c.of_node-t.ensures) c.is_of.ensures)

pub returns-in-True : goal.returns-in-True
returns-in-True c sections nodes ts Γ k = fits_true ts _ Γ c.in-True.is (kind_is _ (in_node k.laid k.own c.of_node-t.ensures) c.is_of-in-True.ensures)

pub returns-in-Empty : goal.returns-in-Empty
returns-in-Empty c sections nodes ts Γ k = fits_empty ts _ Γ c.in-Empty.is (kind_is _ (in_node k.laid k.own c.of_node-t.ensures) c.is_of-in-Empty.ensures)

pub returns-in-Number : goal.returns-in-Number
returns-in-Number c sections nodes ts Γ k = fits_number ts _ Γ c.in-Number.is (kind_is _ (in_node k.laid k.own c.of_node-t.ensures) c.is_of-in-Number.ensures)

pub returns-in-Front : goal.returns-in-Front
returns-in-Front c sections nodes ts Γ k =
    let n = c.in-Front.is in let g = ranged_as k n in
    let own = in_node k.laid k.own c.of_node-t.ensures in
    fits_front ts _ Γ n (list_types own (in_node k.laid g.0.inside c.of_node.ensures) c.is_list_of.ensures)
    (same_types (in_node k.laid g.1.0.inside c.of_node-in-Front.ensures) own c.is_same.ensures)

pub returns-in-Pair : goal.returns-in-Pair
returns-in-Pair c sections nodes ts Γ k =
    let n = c.in-Pair.is in let g = ranged_as k n in
    fits_pair ts _ Γ n (pair_types (in_node k.laid k.own c.of_node-t.ensures)
    (in_node k.laid g.0.inside c.of_node-in-Pair.ensures) (in_node k.laid g.1.0.inside c.of_node-in-Pair-2.ensures)
    c.is_pair_of.ensures)

pub returns-in-ListCase : goal.returns-in-ListCase
returns-in-ListCase c = c.fits_list_case.ensures _ (ap (λ n. (row n).kind) c.in-ListCase.is)

pub returns-in-TruthCase : goal.returns-in-TruthCase
returns-in-TruthCase c = c.fits_truth_case.ensures _ (ap (λ n. (row n).kind) c.in-TruthCase.is)

pub returns-in-Split : goal.returns-in-Split
returns-in-Split c sections nodes ts Γ k =
    let n = c.in-Split.is in let g = ranged_as k n in
    fits_split ts _ Γ n (kind_is _ (in_node k.laid g.0.inside c.of_node-in-Split.ensures) c.is_of-in-Split.ensures)
    (same_types (in_node k.laid g.1.0.inside c.of_node-in-Split-2.ensures) (in_node k.laid k.own c.of_node-t.ensures)
    c.is_same-in-Split.ensures)

pub returns-in-Call : goal.returns-in-Call
returns-in-Call c = c.fits_call.ensures (ap (λ n. (row n).kind) c.in-Call.is)

pub returns-in-Add : goal.returns-in-Add
returns-in-Add c sections nodes ts Γ k =
    let n = c.in-Add.is in let g = ranged_as k n in
    fits_add ts _ Γ n (kind_is _ (in_node k.laid k.own c.of_node-t.ensures) c.is_of-in-Add.ensures)
    (kind_is _ (in_node k.laid g.0.inside c.of_node-in-Add.ensures) c.is_of-in-Add-2.ensures)

pub returns-in-Each : goal.returns-in-Each
returns-in-Each c = c.fits_each.ensures (ap (λ n. (row n).kind) c.in-Each.is)

pub returns-in-Wide : goal.returns-in-Wide
returns-in-Wide c sections nodes ts Γ k = fits_wide ts _ Γ c.in-Wide.is (kind_is _ (in_node k.laid k.own c.of_node-t.ensures) c.is_of-in-Wide.ensures)

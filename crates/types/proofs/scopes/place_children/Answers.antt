-- `place_children` meets its contract: in each arm the node is the kind that it binds. Assumes nothing.
use Rattle.types.specs.Scopes.{child_scopes}
use Rattle.types.specs.Placing.{put_1, put_more, as_scope, as_kind, childless_scopes}
use Rattle.types.proofs.Tags.{childless}
use Rattle.types.proofs.scopes.place_children.Goals as goal

pub widened-requires : goal.widened-requires
widened-requires c = c.requires.0

pub returns-in-Front : goal.returns-in-Front
unfolding child_scopes
returns-in-Front c = as_kind _ _ c.in-Front.is c.place_two.ensures

pub returns-in-Pair : goal.returns-in-Pair
unfolding child_scopes
returns-in-Pair c = as_kind _ _ c.in-Pair.is c.place_two-in-Pair.ensures

pub returns-in-TruthCase : goal.returns-in-TruthCase
unfolding child_scopes
returns-in-TruthCase c = as_kind _ _ c.in-TruthCase.is (put_more c.place.ensures c.place_two-in-TruthCase.ensures)

pub returns-in-Split : goal.returns-in-Split
unfolding child_scopes
returns-in-Split c = as_kind _ _ c.in-Split.is (put_more c.place-in-Split.ensures (put_1 (as_scope c.place-in-Split-2.ensures c.widened.ensures)))

pub returns-in-Add : goal.returns-in-Add
unfolding child_scopes
returns-in-Add c = as_kind _ _ c.in-Add.is (put_1 c.place-in-Add.ensures)

pub returns-in-Each : goal.returns-in-Each
unfolding child_scopes
returns-in-Each c = as_kind _ _ c.in-Each.is (put_more c.place-in-Each.ensures (put_1 (as_scope c.place-in-Each-2.ensures c.slots.ensures)))

pub returns-in_default : goal.returns-in_default
returns-in_default c =
    let d = c.in_default in
    childless_scopes _ _ _ _ (childless _ d.not-Front d.not-Pair d.not-ListCase d.not-TruthCase d.not-Split d.not-Add d.not-Each)

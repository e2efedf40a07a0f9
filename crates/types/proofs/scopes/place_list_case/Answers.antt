-- `place_list_case` meets its contract. Assumes nothing.
use Rattle.types.specs.Scopes.{child_scopes}
use Rattle.types.specs.Placing.{put_more, put_two, as_scope, as_scopes, as_kind}
use Rattle.types.proofs.scopes.place_list_case.Goals as goal

pub widened-requires : goal.widened-requires
widened-requires c = c.requires.0

pub returns : goal.returns
unfolding child_scopes
returns c q =
    as_kind _ _ c.in-ListCase.is (put_two c.place_two.ensures
    (put_more (as_scope c.place.ensures c.widened.ensures) (as_scopes c.place_two-2.ensures c.view_of.ensures)))

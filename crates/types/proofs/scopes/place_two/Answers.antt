-- `place_two` meets its contract. Assumes nothing.
use Rattle.types.specs.Placing.{put_1, put_more}
use Rattle.types.proofs.scopes.place_two.Goals as goal

pub returns : goal.returns
returns c = put_more c.place.ensures (put_1 c.place-2.ensures)

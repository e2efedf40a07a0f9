-- `lens_get` meets its contract: get's answer, packed, and what get promises of it. Assumes nothing.
use Rattle.calls.specs.Small.{small_get}
use Rattle.lens.specs.Packing.{pack_answered, packed_back}
use Rattle.lens.proofs.answers.lens_get.Goals as goal

pub pack-requires : goal.pack-requires
pack-requires c = small_get _ _ _ _ _ c.get.ensures.answered

pub returns : goal.returns
returns c = record {
  packed = pack_answered c.get.ensures.answered c.pack.ensures;
  acceptable = rw (packed_back _ (small_get _ _ _ _ _ c.get.ensures.answered) c.pack.ensures) c.get.ensures.acceptable;
}

-- `lens_put` meets its contract: put's answer, packed, and what put promises of it. Assumes nothing.
use Rattle.calls.specs.Small.{small_put}
use Rattle.lens.specs.Packing.{pack_answered, packed_back}
use Rattle.lens.proofs.answers.lens_put.Goals as goal

pub pack-requires : goal.pack-requires
pack-requires c = small_put _ _ _ _ _ _ c.in-Err.ensures.put_answered.call

pub pack-requires-in-Ok : goal.pack-requires-in-Ok
pack-requires-in-Ok c = small_put _ _ _ _ _ _ c.in-Ok.ensures.put_answered.call

pub returns-in-Err : goal.returns-in-Err
returns-in-Err c =
    let p = c.in-Err.ensures in
    let a = p.put_answered.call in record {
      packed = pack_answered a c.pack.ensures;
      consistent = rw (packed_back _ (small_put _ _ _ _ _ _ a) c.pack.ensures) p.consistent;
    }

pub returns-in-Ok : goal.returns-in-Ok
returns-in-Ok c =
    let p = c.in-Ok.ensures in
    let a = p.put_answered.call in record {
      packed = pack_answered a c.pack-in-Ok.ensures;
      consistent = rw (packed_back _ (small_put _ _ _ _ _ _ a) c.pack-in-Ok.ensures) p.consistent;
    }

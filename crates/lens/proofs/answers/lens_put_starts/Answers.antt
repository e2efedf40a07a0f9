-- `lens_put_starts` meets its contract: put's answer, packed with its count, its starts handed out, and what put promises of it. Assumes nothing.
use Rattle.calls.specs.Small.{small_put}
use Rattle.calls.specs.StartsLaws.{put_few}
use Rattle.lens.specs.HandedOut.{counted_put, counted_back}
use Rattle.lens.proofs.answers.lens_put_starts.Goals as goal

pub hand_put-requires : goal.hand_put-requires
hand_put-requires c = let a = c.put.ensures.put_answered in (small_put _ _ _ _ _ _ a.call, put_few a)

pub returns : goal.returns
returns c =
    let p = c.put.ensures in
    let h = c.hand_put.ensures in record {
      packed_put = counted_put _ _ _ _ _ _ p.put_answered h.packed h.starts;
      consistent = rw (counted_back _ _ _ _ _ _ p.put_answered h.packed) p.consistent;
    }

use Rattle.accepts.specs.Kept.{none_kept, both_within, same_kept, named_kept, not_kept, all_kept}
use Rattle.accepts.proofs.is_kept.Goals as goal
use Rattle.accepts.proofs.is_kept.Goals.{else-not-marks-x-via-then-not-marks-x+else-not-is_same, else-not-marks-x-via-else-not-marks-x}

pub loop-x-init : goal.loop-x-init
loop-x-init c = none_kept c.requires

pub is_same-requires : goal.is_same-requires
is_same-requires c = both_within c.loop-x.invariant c.loop-x-test.true

pub returns-then-not-is_same : goal.returns-then-not-is_same
returns-then-not-is_same c =
    not_kept c.loop-x.invariant c.loop-x-test.true c.is_same.ensures c.named-marks.result c.named-marks.ensures c.if-not-marks-x.true c.if-not-is_same.true

pub loop-x-preserved : goal.loop-x-preserved
loop-x-preserved c =
    let i = c.loop-x.invariant in
    elim c.else-not-marks-x.branch [
      | else-not-marks-x-via-then-not-marks-x+else-not-is_same w ↦ same_kept i c.loop-x-test.true w.is_same.ensures w.if-not-is_same.false
      | else-not-marks-x-via-else-not-marks-x w ↦ named_kept i c.loop-x-test.true c.named-marks.result c.named-marks.ensures w.if-not-marks-x.false
    ]

pub returns : goal.returns
returns c = all_kept c.loop-x.invariant c.loop-x-test.false

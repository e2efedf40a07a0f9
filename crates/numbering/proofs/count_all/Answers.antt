use mathlib.Core.Path.{refl, ap, ◌∙◌}
use native.Mathlib.Omega.{arith}
use lib.ListN.{get_or}
use Rattle.numbering.specs.Counting.{used, used_all, used_next}
use Rattle.numbering.proofs.count_all.Goals as goal

pub loop-n-init : goal.loop-n-init
unfolding used_all
loop-n-init c = refl

pub loop-n-preserved : goal.loop-n-preserved
loop-n-preserved c =
    rw c.from.ensures at c.count_use.ensures ∙ ap (λ u. used u (get_or c.args.ns.now c.loop-n.n-index 0)) c.loop-n.invariant
    ∙ used_next c.args.uses.now c.args.ns.now c.loop-n.n-index (omega arith)

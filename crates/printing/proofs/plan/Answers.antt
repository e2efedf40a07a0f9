use native.Mathlib.Omega.{arith}
use Rattle.printing.specs.Whole.{plan_first, plan_more, plan_all}
use Rattle.printing.proofs.plan.Goals as goal

pub loop-i-init : goal.loop-i-init
loop-i-init c = (omega arith, λ b w. plan_first w)

pub loop-i-preserved : goal.loop-i-preserved
loop-i-preserved c = (
  omega arith,
  λ b w. plan_more c.loop-i.i (omega arith) (c.loop-i.invariant.1 b w) c.bytes-end-in-loop-i.ensures c.name-end.ensures,
)

pub returns : goal.returns
returns c =
    let i = c.loop-i.invariant in
    plan_all {i = c.loop-i.i} {k = c.args.k} (i.1 _ c.bytes-end.ensures) i.0 (omega arith)

use mathlib.Core.Path.{refl}
use native.Mathlib.Omega.{arith}
use Rattle.inputs.specs.Starts.{numbers_at, filled_more, filled_all}
use Rattle.inputs.proofs.fields.starts_in.Goals as goal

pub loop-i-init : goal.loop-i-init
unfolding numbers_at
loop-i-init c = refl

pub loop-i-preserved : goal.loop-i-preserved
loop-i-preserved c =
    let bs = c.args.input.now in
    filled_more bs c.loop-i.invariant (omega (arith, c.kept-n.ensures)) c.number_at.ensures.0

pub returns : goal.returns
returns c =
    let bs = c.args.input.now in
    rw c.byte_at-count.ensures (filled_all bs c.loop-i.invariant (omega (arith, c.kept-n.ensures, c.byte_at-count.ensures)))

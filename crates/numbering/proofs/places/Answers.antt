use native.Mathlib.Omega.{arith}
use Prim.Native.Nat.{◌<◌}
use Rattle.std.proofs.Common.{length-take-le, get_or-take}
use Rattle.numbering.specs.Places.{placing_more, placing_all}
use Rattle.numbering.proofs.places.Goals as goal

pub loop-i-preserved : goal.loop-i-preserved
loop-i-preserved c =
    let l = length-take-le c.args.l.count c.args.l.nodes (omega arith) in
    let k : c.loop-i.i < c.args.l.count = omega arith in
    rw (c.from.ensures, get_or-take c.args.l.count c.args.l.nodes c.loop-i.i 0 k) (placing_more c.loop-i.invariant k)

pub returns : goal.returns
returns c =
    let l = length-take-le c.args.l.count c.args.l.nodes (omega arith) in
    placing_all c.loop-i.invariant (omega arith)

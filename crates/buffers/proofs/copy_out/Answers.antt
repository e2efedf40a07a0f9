use mathlib.Core.Path.{◌≡◌, sym, ◌∙◌}
use mathlib.Core.Bool.{true}
use Prim.Native.Nat.{◌+◌}
use native.Mathlib.Omega.{arith}
use lib.Dec.{leb}
use lib.ListN.{length}
use Rattle.buffers.specs.Buffers.{copied_room, copied_short, copied_full, copying_more, copying_all}
use Rattle.buffers.proofs.copy_out.Goals as goal
use Rattle.buffers.proofs.copy_out.Goals.{Else-not-has}

-- WHAT IS KNOWN THERE
source : (c : Else-not-has) → leb (c.args.from + c.args.n) (length c.args.scratch.now) ≡ true
source c = sym c.has.ensures ∙ c.if-not-has.false

pub returns-then-not-has : goal.returns-then-not-has
returns-then-not-has c = copied_short _ _ _ _ _ (sym c.has.ensures ∙ c.if-not-has.true)

pub returns-then-not-has-2 : goal.returns-then-not-has-2
returns-then-not-has-2 c = copied_full _ _ _ _ _ (source (goal.at.returns-then-not-has-2 c).Else-not-has) (sym c.has-2.ensures ∙ c.if-not-has-2.true)

pub loop-i-preserved : goal.loop-i-preserved
loop-i-preserved c =
    let v = c.loop-i.invariant in
    (v.0, v.1, copying_more v.2 (omega (arith, v.0)) (omega (arith, v.1)))

pub returns : goal.returns
returns c =
    let v = c.loop-i.invariant in
    copying_all {n = c.args.n} v.2 (omega arith) ∙ sym (copied_room _ _ _ _ _ v.0 v.1)

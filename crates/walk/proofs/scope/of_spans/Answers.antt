use mathlib.Core.Path.{refl}
use native.Mathlib.Omega.{arith}
use Rattle.walk.specs.Scope.{spanning_none, spanning_more}
use borrow.Author.Rules.{rules}
use Rattle.walk.proofs.scope.of_spans.Goals as goal

pub loop-i-init : goal.loop-i-init
loop-i-init c = (search rules, spanning_none, spanning_none)

pub loop-i-preserved : goal.loop-i-preserved
loop-i-preserved c =
    let h = c.loop-i-test.true in
    let v = c.loop-i.invariant in
    (omega arith, spanning_more (omega arith) v.1 refl, spanning_more (omega arith) v.2 (λ x y. let z = c.stored.ensures (x, y) in omega arith))

pub returns : goal.returns
returns c =
    let n = c.loop-i-test.false in
    let v = c.loop-i.invariant in
    record {
      count = refl;
      starts_long = v.1.long;
      lens_long = v.2.long;
      start = λ i h. v.1.each i (omega arith);
      len = λ i h. v.2.each i (omega arith);
    }

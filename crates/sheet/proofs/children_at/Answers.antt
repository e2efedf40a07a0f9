use mathlib.Core.Path.{ap, ◌∙◌}
use native.Mathlib.Omega.{arith}
use Rattle.node.specs.Decoding.{kind_width}
use Rattle.sheet.proofs.PartsLaws.{kind_narrow, looked_none, looked_more, looked_all}
use Rattle.sheet.proofs.children_at.Goals as goal

pub loop-i-init : goal.loop-i-init
loop-i-init c = let k = c.byte_of-kind.ensures in (k, c.record_width-width.ensures ∙ ap kind_width k, looked_none)

pub overflow_cast-i-end : goal.overflow_cast-i-end
overflow_cast-i-end c = omega (arith, c.record_width-width.ensures, kind_narrow c.byte_of-kind.result)

pub loop-i-preserved : goal.loop-i-preserved
loop-i-preserved c =
    let v = c.loop-i.invariant in
    (v.0, v.1, looked_more v.2 (omega (arith, c.loop-i-test.true)) v.0 c.part.ensures c.byte_of.ensures c.with_node-c.ensures)

pub returns : goal.returns
returns c = let v = c.loop-i.invariant in looked_all v.2 (omega (arith, c.loop-i-test.false))

-- `node::record_in_range` meets its contract: no number is out of range where no record stands. Assumes nothing.
use mathlib.Core.Path.{ap, ◌∙◌}
use native.Mathlib.Omega.{arith}
use Rattle.node.specs.Kinds.{node_in_range}
use Rattle.node.specs.Decoding.{node_at, node_of}
use Rattle.node.specs.Places.{take_rest, node_past, node_cut}
use Rattle.node.proofs.record_in_range.Goals as goal

pub returns-then-s-at : goal.returns-then-s-at
unfolding node_in_range
returns-then-s-at c = rw (node_past _ _ c.if-s-at.true)

pub returns-then-s-at-2 : goal.returns-then-s-at-2
unfolding node_in_range
returns-then-s-at-2 c =
    rw (node_cut c.args.s.now c.args.at c.if-s-at.false (omega (arith, c.record_width.ensures)))

pub returns : goal.returns
unfolding node_at
returns c =
    c.body_in_range.ensures ∙ ap (λ l. node_in_range c.args.nodes c.args.sections c.args.own (node_of l)) (take_rest c.args.s.now c.args.at)

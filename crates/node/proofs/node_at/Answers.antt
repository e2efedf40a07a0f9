-- `node::node_at` meets its contract. Assumes nothing.
use mathlib.Core.Path.{sym, ap, ◌∙◌}
use native.Mathlib.Omega.{arith}
use Rattle.node.specs.Decoding.{node_at, node_of}
use Rattle.node.specs.Places.{take_rest, node_past, node_cut}
use Rattle.node.proofs.node_at.Goals as goal

pub returns-then-s-at : goal.returns-then-s-at
returns-then-s-at c = sym (node_past _ _ c.if-s-at.true)

pub returns-then-s-at-2 : goal.returns-then-s-at-2
returns-then-s-at-2 c = sym (node_cut _ _ c.if-s-at.false (omega (arith, c.record_width.ensures)))

pub returns : goal.returns
unfolding node_at
returns c =
    c.decode.ensures ∙ ap node_of (take_rest c.args.s.now c.args.at)

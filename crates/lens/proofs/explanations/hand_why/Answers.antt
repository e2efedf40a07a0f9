-- `hand_why` meets its contract: no node, or those of the chain, as far as there is room. Assumes nothing.
use mathlib.Core.Path.{refl, ◌∙◌}
use native.Mathlib.Omega.{arith}
use Rattle.std.specs.Prelude.{None}
use Rattle.explaining.specs.Explain.{unmet, why_reply}
use Rattle.packing.specs.HandedOut.{handed_front}
use Rattle.lens.specs.Explanations.{nodes_none}
use Rattle.lens.proofs.explanations.hand_why.Goals as goal

pub returns-in-None : goal.returns-in-None
unfolding why_reply unmet
returns-in-None c = rw c.in-None.is (c.pack_why.ensures, nodes_none (why_reply None) refl _)

pub returns-in-Some : goal.returns-in-Some
unfolding why_reply
returns-in-Some c =
    rw c.in-Some.is (rw c.number.ensures at c.pack_why-in-Some.ensures, rw c.from.ensures at c.hand.ensures ∙ handed_front _ _ _ (omega arith))

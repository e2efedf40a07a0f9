-- `refused` meets its contract: no node, or the chain copied out of scratch. Assumes nothing.
use mathlib.Core.Path.{◌∙◌}
use Rattle.explaining.specs.Explain.{why_reply}
use Rattle.explaining.specs.Explain.Calls.{met_none, met_some}
use Rattle.explaining.proofs.refused.Goals as goal

pub returns-then-depth-eq0 : goal.returns-then-depth-eq0
returns-then-depth-eq0 c = c.unmet.ensures ∙ met_none _ _ _ _ c.if-depth-eq0.true

pub returns : goal.returns
unfolding why_reply
returns c =
    met_some _ _ _ _ c.if-depth-eq0.false c.requires.0 c.requires.1 (rw c.from.ensures at c.copy_out.ensures)

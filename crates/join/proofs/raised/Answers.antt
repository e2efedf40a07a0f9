-- `join::raised` meets its contract. Assumes nothing.
use Rattle.join.specs.JoinWritten.{anew_of}
use Rattle.join.proofs.raised.Goals as goal

pub returns : goal.returns
unfolding anew_of
returns c = rw (c.shifted-order.ensures, c.shifted-nodes.ensures, c.shifted-sections.ensures)

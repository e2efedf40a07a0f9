-- `given` meets its contract: the bytes are copied out, then scratch is cleared. Assumes nothing.
use mathlib.Core.Path.{refl, ◌∙◌}
use native.Mathlib.Omega.{arith}
use Rattle.buffers.specs.Buffers.{cleared_whole, copied_room}
use Rattle.calls.proofs.given.Goals as goal

pub returns : goal.returns
returns c = (
  refl,
  c.copy_out.ensures ∙ copied_room _ _ _ _ _ c.requires.len_in_bounds.0 (omega (arith, c.requires.len_in_bounds.1)),
  cleared_whole _ c.clear.ensures c.requires.in_bounds,
)

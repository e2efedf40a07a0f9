-- `rebuild` meets its contract: two copies behind the kind byte.
-- Assumes nothing.
use mathlib.Core.Path.{ap, ◌∙◌}
use mathlib.Core.List.{List}
use Prim.Native.Nat.{ℕ, ◌+◌}
use native.Mathlib.Omega.{arith}
use lib.ListN.{drop, length-set}
use lib.Seq.{paste}
use Rattle.walk.specs.Arena.Cells.{rebuilt_in}
use Rattle.walk.proofs.bytes.rebuild.Goals as goal

pub fill-requires-2 : goal.fill-requires-2
fill-requires-2 c = (
  c.fill.ensures.1 ∙ length-set c.args.whole.now 0 c.args.kind
      ∙ c.requires.0,
  omega (arith, c.requires),
  omega (arith, c.requires),
)

pub returns : goal.returns
unfolding rebuilt_in
returns c = (
  c.fill-2.ensures.0
      ∙ ap (λ (d : List ℕ). paste d (1 + c.args.flen)
      (drop c.args.second c.args.arena.now)
      c.args.slen) c.fill.ensures.0,
  c.fill-2.ensures.1 ∙ c.fill.ensures.1
      ∙ length-set c.args.whole.now 0 c.args.kind
      ∙ c.requires.0,
)

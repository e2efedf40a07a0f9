-- `get_wide` meets its contract.
-- Assumes nothing.
use mathlib.Core.Path.{ap, ◌∙◌}
use mathlib.Core.List.{List}
use Prim.Native.Nat.{ℕ}
use native.Mathlib.Omega.{arith}
use lib.ListN.{length}
use lib.Seq.{paste}
use Rattle.value.specs.Value.{encode}
use Rattle.walk.specs.Arena.CellLaws.{filled}
use Rattle.node.specs.Wide.{wide_bytes}
use Rattle.walk.proofs.getter.get_wide.Goals as goal

pub returns : goal.returns
unfolding encode
returns c =
    let w = c.wide_bytes-number.ensures in (
      c.store.ensures.inside (omega (arith, ap length w, c.requires.0))
          ∙ ap (λ (x : List ℕ). paste c.args.arena.now c.args.top x (length x)) w,
      c.done.ensures,
    )

pub shape_of-arena : goal.shape_of-arena
unfolding encode
shape_of-arena c =
    let f = filled c.args.arena.now (wide_bytes c.args.sheet.now c.args.place) c.args.top (omega (arith, c.requires.0)) in
    ap length (returns c).0 ∙ f.below.long

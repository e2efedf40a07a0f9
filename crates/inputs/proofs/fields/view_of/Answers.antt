-- `view_of` meets its contract: one rest of another. Assumes nothing.
use Prim.Native.Nat.{◌+◌}
use mathlib.Core.Path.{◌∙◌}
use lib.Seq.{drop-drop}
use Rattle.inputs.proofs.fields.view_of.Goals as goal

pub returns : goal.returns
returns c =
    let bs = c.args.input.now in
    c.rest_from-3.ensures
    ∙ rw (c.rest_from-2.ensures, c.rest_from.ensures, drop-drop c.args.fields.sheet 8 bs) (drop-drop c.args.fields.plan (8 + c.args.fields.sheet) bs)

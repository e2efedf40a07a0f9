-- `node::record_width` meets its contract: its array is the widths of the table of forms, and no other byte has a form.
use mathlib.Core.Path.{◌≡◌, sym, ap, ◌∙◌}
use mathlib.Core.Logic.{inl, inr}
use Prim.Native.Nat.{◌+◌, ◌-◌}
use native.Mathlib.Omega.{arith}
use Rattle.node.specs.Kinds.{body_width}
use Rattle.node.specs.Decoding.{kind_width, form_width}
use Rattle.node.specs.Forms.{no_form, kind_width_lem}
use Rattle.node.proofs.record_width.Goals as goal

pub returns-then-kind-lt16 : goal.returns-then-kind-lt16
unfolding kind_width form_width
returns-then-kind-lt16 c = ap form_width (sym (no_form c.args.kind (inl c.if-kind-lt16.true)))

pub returns-then-k-ge14 : goal.returns-then-k-ge14
unfolding kind_width form_width
returns-then-k-ge14 c = ap form_width (sym (no_form c.args.kind (inr (omega (arith, c.from-k.ensures)))))

pub returns : goal.returns
unfolding form_width body_width
returns c =
    let e : 16 + (c.from-k.result - 16) ≡ c.args.kind = omega (arith, c.from-k.ensures) in
    c.from.ensures ∙ sym (kind_width_lem (c.from-k.result - 16)) ∙ ap kind_width e

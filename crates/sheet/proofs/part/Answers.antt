-- `sheet::part` meets its contract: its arrays are the parts of the table of forms, and no other byte has a part. Assumes nothing.
use mathlib.Core.Path.{◌≡◌, sym, ap, ◌∙◌}
use mathlib.Core.Logic.{inl, inr}
use Prim.Native.Nat.{ℕ, ◌+◌, ◌-◌}
use native.Mathlib.Omega.{arith}
use Rattle.node.specs.Forms.{no_form}
use Rattle.sheet.specs.Parts.{part_at}
use Rattle.sheet.proofs.PartsLaws.{part_at_lem, part_unknown, part_past}
use Rattle.sheet.proofs.part.Goals as goal

pub returns-then-kind-lt16 : goal.returns-then-kind-lt16
returns-then-kind-lt16 c = sym (part_unknown _ _ (no_form _ (inl c.if-kind-lt16.true)))

pub returns-then-kind-ge30 : goal.returns-then-kind-ge30
returns-then-kind-ge30 c = sym (part_unknown _ _ (no_form _ (inr c.if-kind-ge30.true)))

pub returns-then-i-ge8 : goal.returns-then-i-ge8
returns-then-i-ge8 c = sym (part_past _ _ c.if-i-ge8.true)

pub returns : goal.returns
returns c =
    let w = c.from.result in
    let e : 16 + (w - 16) ≡ c.args.kind = omega (arith, c.from.ensures) in
    rw c.from-2.ensures (sym (part_at_lem (w - 16) c.args.i (omega (arith, c.from.ensures)) (omega arith)) ∙ ap (λ (k : ℕ). part_at k c.args.i) e)

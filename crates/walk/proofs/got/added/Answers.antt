-- `added` meets its contract.
-- Assumes nothing.
use mathlib.Core.Path.{◌≡◌, refl, sym, ◌∙◌}
use native.Mathlib.Omega.{arith}
use Prim.Native.Nat.{◌+◌, ◌/◌, ◌%◌}
use lib.ListN.{length-set}
use Rattle.walk.specs.Get.Add.{passed_on, other, over, sums}
use Rattle.walk.proofs.got.added.Goals as goal

pub returns-then-is_refused : goal.returns-then-is_refused
returns-then-is_refused c = passed_on (sym c.is_refused.ensures ∙ c.if-is_refused.true) refl refl

pub shape_at-requires : goal.shape_at-requires
shape_at-requires c = (c.requires (sym c.is_refused.ensures ∙ c.if-is_refused.false)).inside

pub returns-in_default : goal.returns-in_default
returns-in_default c =
    other (sym c.is_refused.ensures ∙ c.if-is_refused.false)
    (λ m e. c.in_default.not-Number m (c.shape_at.ensures ∙ sym e)) c.refused.ensures refl

pub returns-then-n-amount : goal.returns-then-n-amount
returns-then-n-amount c =
    over (sym c.is_refused.ensures ∙ c.if-is_refused.false)
    (sym c.in-Number.is ∙ c.shape_at.ensures) (omega (arith, c.if-n-amount.true))
    c.refused-then-n-amount.ensures refl

pub overflow_add-arena : goal.overflow_add-arena
overflow_add-arena c =
    let m = c.requires (sym c.is_refused.ensures ∙ c.if-is_refused.false) in
    record { fits = omega (arith, m.there) }

pub bounds-arena-top : goal.bounds-arena-top
bounds-arena-top c =
    let m = c.requires (sym c.is_refused.ensures ∙ c.if-is_refused.false) in
    let s = m.small _ (sym c.in-Number.is ∙ c.shape_at.ensures) in
    omega (arith, m.inside, m.there, s.1)

pub overflow_add-arena-2 : goal.overflow_add-arena-2
overflow_add-arena-2 c =
    let m = c.requires (sym c.is_refused.ensures ∙ c.if-is_refused.false) in
    record { fits = omega (arith, m.there) }

pub bounds-arena-top-2 : goal.bounds-arena-top-2
bounds-arena-top-2 c =
    let m = c.requires (sym c.is_refused.ensures ∙ c.if-is_refused.false) in
    let s = m.small _ (sym c.in-Number.is ∙ c.shape_at.ensures) in
    simp length-set (omega (arith, m.inside, m.there, s.1))

pub returns : goal.returns
returns c =
    let e = sym c.is_refused.ensures ∙ c.if-is_refused.false in
    let q = sym c.in-Number.is ∙ c.shape_at.ensures in
    let s = (c.requires e).small _ q in
    let z : (c.in-Number.n + c.args.amount) / 256 % 256 ≡ (c.in-Number.n + c.args.amount) / 256 = omega arith in
    sums e q (omega (arith, s.0, c.if-n-amount.false)) refl (rw (c.to_be_bytes.ensures, z))

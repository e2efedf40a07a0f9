-- `joined` meets its contract.
-- Assumes nothing.
use mathlib.Core.Path.{refl, sym, ◌∙◌}
use native.Mathlib.Omega.{arith}
use Rattle.outcome.specs.Outcome.{len_small, steps_small}
use Rattle.walk.specs.Get.Two.{passed_on, unfit, long, fits}
use Rattle.walk.proofs.got.joined.Goals as goal

pub returns-then-is_refused : goal.returns-then-is_refused
returns-then-is_refused c = passed_on (sym c.is_refused.ensures ∙ c.if-is_refused.true) refl

pub overflow_add-mid : goal.overflow_add-mid
overflow_add-mid c =
    let m = c.requires (sym c.is_refused.ensures ∙ c.if-is_refused.false) in
    record { fits = omega (arith, m.few) }

pub overflow_add-mid-2 : goal.overflow_add-mid-2
overflow_add-mid-2 c =
    let m = c.requires (sym c.is_refused.ensures ∙ c.if-is_refused.false) in
    let z = len_small c.args.first in
    record { fits = omega (arith, m.few, c.len-f.ensures) }

pub bounds-arena-mid : goal.bounds-arena-mid
bounds-arena-mid c =
    let m = c.requires (sym c.is_refused.ensures ∙ c.if-is_refused.false) in
    omega (arith, m.inside, c.len-f.ensures)

pub returns-then-unfit : goal.returns-then-unfit
returns-then-unfit c =
    unfit (sym c.is_refused.ensures ∙ c.if-is_refused.false)
    (rw (← c.len-f.ensures) (sym c.unfit.ensures ∙ c.if-unfit.true)) c.refused.ensures

pub overflow_add-len : goal.overflow_add-len
overflow_add-len c =
    let z = len_small c.args.first in
    record { fits = omega (arith, c.len-f.ensures) }

pub overflow_add-len-2 : goal.overflow_add-len-2
overflow_add-len-2 c =
    let z = len_small c.args.first in
    let y = len_small c.args.second in
    record { fits = omega (arith, c.len-f.ensures, c.len.ensures) }

pub returns-then-len-gt256 : goal.returns-then-len-gt256
returns-then-len-gt256 c =
    let f = c.len-f.ensures in
    long (sym c.is_refused.ensures ∙ c.if-is_refused.false)
    (rw (← f) (sym c.unfit.ensures ∙ c.if-unfit.false))
    (omega (arith, f, c.len.ensures, c.if-len-gt256.true)) c.refused-then-len-gt256.ensures

pub overflow_add-steps : goal.overflow_add-steps
overflow_add-steps c =
    let z = steps_small c.args.first in
    let y = steps_small c.args.second in
    record { fits = omega (arith, c.steps.ensures, c.steps-2.ensures) }

pub returns : goal.returns
returns c =
    let f = c.len-f.ensures in
    let s = c.len.ensures in
    fits (sym c.is_refused.ensures ∙ c.if-is_refused.false)
    (rw (← f) (sym c.unfit.ensures ∙ c.if-unfit.false))
    (omega (arith, f, s, c.if-len-gt256.false))
    (rw (← f, ← s, ← c.steps.ensures, ← c.steps-2.ensures) c.done.ensures)

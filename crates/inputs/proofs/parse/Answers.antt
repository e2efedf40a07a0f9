-- `parse` meets its contract: each return is a case of the definition. Assumes nothing.
use native.Mathlib.Omega.{arith}
use mathlib.Core.Path.{sym, ◌∙◌}
use Rattle.inputs.specs.Format.{whole_inside, job_cut, job_get, job_more, job_put, job_other}
use Rattle.inputs.proofs.parse.Goals as goal

pub returns-in_err-fields : goal.returns-in_err-fields
returns-in_err-fields c = c.from_residual.ensures ∙ job_cut _ c.take_fields.ensures c.in_err-fields.was

pub overflow_add-fields : goal.overflow_add-fields
overflow_add-fields c = omega (arith, whole_inside _ c.take_fields.ensures c.in_ok-fields.was)

pub overflow_add-fields-in-71 : goal.overflow_add-fields-in-71
overflow_add-fields-in-71 c = omega (arith, whole_inside _ c.take_fields.ensures c.in_ok-fields.was)

pub returns-then-input-fields : goal.returns-then-input-fields
returns-then-input-fields c =
    job_get _ c.take_fields.ensures c.in_ok-fields.was (sym c.byte_at.ensures ∙ c.in-71.is) c.if-input-fields.true

pub returns-else-input-fields : goal.returns-else-input-fields
returns-else-input-fields c =
    job_more _ c.take_fields.ensures c.in_ok-fields.was (sym c.byte_at.ensures ∙ c.in-71.is) c.if-input-fields.false

pub returns-in-80 : goal.returns-in-80
returns-in-80 c =
    job_put _ c.take_fields.ensures c.in_ok-fields.was (λ e. omega (arith, c.byte_at.ensures, c.in-80.is)) (sym c.byte_at.ensures ∙ c.in-80.is)

pub returns-in_default : goal.returns-in_default
returns-in_default c =
    job_other _ c.take_fields.ensures c.in_ok-fields.was (λ e. omega (arith, c.byte_at.ensures)) (λ e. omega (arith, c.byte_at.ensures))

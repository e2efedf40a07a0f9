-- `why_line` meets its contract: a get, a put, what is no job. Assumes nothing.
use mathlib.Core.Path.{refl, ap, ◌∙◌}
use Rattle.std.specs.Prelude.{Some}
use native.Mathlib.Omega.{arith}
use Rattle.walking.specs.ExplanationLaws.{explained_none, explained_get, explained_put}
use Rattle.walking.proofs.explanations.why_line.Goals as goal

pub returns-in-Get : goal.returns-in-Get
returns-in-Get c = let (p0, p1) = explained_get c.rest_from-job.ensures c.parse.ensures c.told_line.ensures c.sheet_of.ensures c.plan_of.ensures
    (omega (arith, c.why_get-arg-1.given)) (c.in-Some.is ∙ ap Some c.in-Get.is) c.why_get-why.ensures in record { wrote = p0; scratch_after = p1 }

pub returns-in-Put : goal.returns-in-Put
returns-in-Put c = let (p0, p1) = explained_put c.rest_from-job.ensures c.parse.ensures c.told_line-in-Put.ensures c.sheet_of-in-Put.ensures
    c.plan_of-in-Put.ensures
    (omega (arith, c.why_put-arg-1.given)) (c.in-Some.is ∙ ap Some c.in-Put.is) c.view_of.ensures c.why_put-why.ensures
    in record { wrote = p0; scratch_after = p1 }

pub returns-in_default : goal.returns-in_default
returns-in_default c = let (p0, p1) = explained_none c.rest_from-job.ensures c.parse.ensures c.in_default.is refl c.refusal.ensures in record {
  wrote = p0;
  scratch_after = p1;
}

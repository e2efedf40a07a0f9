-- `check_line` meets its contract: a field is cut, or the verdict. Assumes nothing.
use native.Mathlib.Omega.{arith}
use Rattle.walking.specs.CheckLaws.{check_cut, check_short, check_whole}
use Rattle.walking.proofs.checks.check_line.Goals as goal

pub returns-in_default : goal.returns-in_default
returns-in_default c = let (p0, p1) = check_cut _ c.take_fields.ensures c.in_default.is c.refusal.ensures in record { wrote = p0; scratch_after = p1 }

pub returns-then-rest-list : goal.returns-then-rest-list
returns-then-rest-list c = let (p0, p1) = check_short _ c.take_fields.ensures c.in-Some.is c.view_of-rest.ensures c.number_at-list.ensures.0
    c.if-rest-list.true c.refusal-then-rest-list.ensures in record { wrote = p0; scratch_after = p1 }

pub returns : goal.returns
returns c = let (p0, p1) = check_whole _ c.take_fields.ensures c.in-Some.is c.view_of-rest.ensures c.number_at-list.ensures.0
    c.if-rest-list.false c.sheet_of.ensures c.plan_of.ensures c.part_at.ensures c.rest_from.ensures
    (omega (arith, c.accepts-arg-1.given)) c.accepts-verdict.ensures c.verdict_line.ensures in record { wrote = p0; scratch_after = p1 }

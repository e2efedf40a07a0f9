-- `line` meets its contract: a case for each case of the definition. Assumes nothing.
use native.Mathlib.Omega.{arith}
use Rattle.std.specs.Prelude.{Some}
use Rattle.std.proofs.Common.{ap, ◌∙◌}
use Rattle.job.specs.LineLaws.{prints_over, prints_none, prints_get, prints_put}
use Rattle.job.proofs.line.Goals as goal

pub returns-then-input-gt-INPUT : goal.returns-then-input-gt-INPUT
returns-then-input-gt-INPUT c = let (p0, p1) = prints_over c.args.input.now (omega arith) (omega arith) c.refusal.ensures in record {
  front = p0;
  buffers_after = p1;
}

pub returns-in-Get : goal.returns-in-Get
returns-in-Get c = let (p0, p1) = prints_get c.args.input.now c.if-input-gt-INPUT.false c.parse.ensures c.sheet_of.ensures
    c.plan_of.ensures (c.in-Some.is ∙ ap Some c.in-Get.is) c.get_line.ensures in record { front = p0; buffers_after = p1 }

pub returns-in-Put : goal.returns-in-Put
returns-in-Put c = let (p0, p1) = prints_put c.args.input.now c.if-input-gt-INPUT.false c.parse.ensures c.sheet_of-in-Put.ensures
    c.plan_of-in-Put.ensures (c.in-Some.is ∙ ap Some c.in-Put.is) c.view_of.ensures c.put_line.ensures in record { front = p0; buffers_after = p1 }

pub returns-in_default : goal.returns-in_default
returns-in_default c = let (p0, p1) = prints_none c.args.input.now c.if-input-gt-INPUT.false c.parse.ensures (omega arith) c.in_default.is
    c.refusal-in_default.ensures in record { front = p0; buffers_after = p1 }

-- `take_fields` meets its contract: each return is a case of the definition. Assumes nothing.
use native.Mathlib.Omega.{arith}
use Rattle.inputs.specs.Format.{fields_cut, fields_cut_plan, fields_whole}
use Rattle.inputs.proofs.fields.take_fields.Goals as goal

pub returns-then-input-sheet : goal.returns-then-input-sheet
returns-then-input-sheet c = fields_cut _ c.number_at-sheet.ensures.0 c.if-input-sheet.true

pub returns-then-input-sheet-2 : goal.returns-then-input-sheet-2
returns-then-input-sheet-2 c =
    fields_cut_plan _ c.number_at-sheet.ensures.0 (omega arith) c.number_at-plan.ensures.0 c.if-input-sheet-2.true

pub returns : goal.returns
returns c =
    fields_whole _ c.number_at-sheet.ensures.0 (omega arith) c.number_at-plan.ensures.0 (omega arith)
    (omega (arith, c.from_be_bytes-allowance.ensures))

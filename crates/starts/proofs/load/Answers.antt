-- `load` meets its contract: a sheet refused, a plan refused, or both read. Assumes nothing.
use native.Mathlib.Omega.{arith}
use Rattle.value.proofs.Numbered.{passed_on}
use Rattle.starts.proofs.StartsLaws.{load_no_sheet, few, load_no_plan, load_read}
use Rattle.starts.proofs.load.Goals as goal

pub returns-in_err-table : goal.returns-in_err-table
returns-in_err-table c = rw (passed_on c.from_residual.result c.from_residual.ensures.1) (load_no_sheet _ _ c.in_err-table.ensures)

pub returns-in_err-spans : goal.returns-in_err-spans
returns-in_err-spans c =
    rw (passed_on c.from_residual-in_err-spans.result c.from_residual-in_err-spans.ensures.1)
    (load_no_plan _ c.in_ok-table.ensures _ c.in_err-spans.ensures)

pub overflow_cast-count : goal.overflow_cast-count
overflow_cast-count c = omega (arith, few _ c.in_ok-table.ensures)

pub returns : goal.returns
returns c = load_read _ c.in_ok-table.ensures _ c.in_ok-spans.ensures

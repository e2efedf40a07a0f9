-- `lens_check_types` meets its contract: the verdict, packed. Assumes nothing.
use mathlib.Core.Path.{sym}
use native.Mathlib.Omega.{arith}
use Rattle.types.specs.Checked.{told_inside}
use Rattle.lens.specs.Tools.{check-passes, check_refused, check_at}
use Rattle.lens.proofs.checks.lens_check_types.Goals as goal

pub overflow_cast-node : goal.overflow_cast-node
overflow_cast-node c = omega (arith, told_inside _ _ (sym (rw c.in-Some.is at c.in-Err.ensures)))

pub returns-in-Ok : goal.returns-in-Ok
returns-in-Ok c = check-passes c.in-Ok.ensures c.pack_told.ensures

pub returns-in-None : goal.returns-in-None
returns-in-None c = check_refused (rw c.in-None.is at c.in-Err.ensures) (rw c.number.ensures at c.pack_told-in-None.ensures)

pub returns-in-Some : goal.returns-in-Some
returns-in-Some c = check_at (rw c.in-Some.is at c.in-Err.ensures) (rw c.number-in-Some.ensures at c.pack_told-in-Some.ensures)

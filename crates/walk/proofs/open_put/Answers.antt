-- `open_put` meets its contract.
use Rattle.value.proofs.Numbered.{passed_on}
use Rattle.value.proofs.SpansLaws.{view_refusal}
use Rattle.walk.specs.Call.{plan_values}
use Rattle.walk.specs.Call.Put.{viewed, barred, at_view}
use Rattle.walk.proofs.open_put.Goals as goal

pub returns-in_err-opened : goal.returns-in_err-opened
returns-in_err-opened c = rw (passed_on c.from_residual.result c.from_residual.ensures.1) (barred c.in_err-opened.ensures)

pub returns-in_err-read_view : goal.returns-in_err-read_view
returns-in_err-read_view c =
    let o = c.in_ok-opened.ensures in
    rw (passed_on c.from_residual-in_err-read_view.result c.from_residual-in_err-read_view.ensures.1)
    (at_view o.lent o.read.read (plan_values o).1 (view_refusal _ c.in_err-read_view.ensures))

pub returns : goal.returns
returns c = (c.in_ok-opened.ensures, viewed _ c.in_ok-read_view.ensures)

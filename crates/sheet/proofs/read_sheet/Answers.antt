-- `sheet::read_sheet` meets its contract. Assumes nothing.
use Rattle.value.proofs.Numbered.{passed_on}
use Rattle.sheet.proofs.Numbers.{read_refused, read_in, read_out}
use Rattle.sheet.proofs.read_sheet.Goals as goal

pub returns-in_err-t : goal.returns-in_err-t
returns-in_err-t c = rw (passed_on c.from_residual.result c.from_residual.ensures.1) (read_refused c.args.s.now c.in_err-t.ensures)

pub returns-then-not-all_in_range : goal.returns-then-not-all_in_range
returns-then-not-all_in_range c = read_out c.args.s.now c.in_ok-t.ensures c.all_in_range.ensures c.if-not-all_in_range.true

pub returns : goal.returns
returns c = read_in c.args.s.now c.in_ok-t.ensures c.all_in_range.ensures c.if-not-all_in_range.false

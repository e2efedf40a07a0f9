-- `pack` meets its contract: the parts fit their bits. Assumes nothing.
use mathlib.Core.Path.{ap}
use Rattle.calls.specs.Reply.{told}
use Rattle.lens.specs.Packing.{reply_refused, reply_done}
use Rattle.lens.proofs.answers.pack.Goals as goal

pub returns-in-Err : goal.returns-in-Err
returns-in-Err c = reply_refused (ap told c.in-Err.is) (rw c.number.ensures at c.pack.ensures)

pub returns-in-Ok : goal.returns-in-Ok
returns-in-Ok c = reply_done (ap told c.in-Ok.is) c.pack-in-Ok.ensures

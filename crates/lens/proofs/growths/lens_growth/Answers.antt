-- `lens_growth` meets its contract: what is reported, packed. Assumes nothing.
use Rattle.lens.specs.Tools.{growth_times, growth_refused}
use Rattle.lens.proofs.growths.lens_growth.Goals as goal

pub returns-in-Ok : goal.returns-in-Ok
returns-in-Ok c = growth_times c.in-Ok.ensures c.pack_told.ensures

pub returns-in-Err : goal.returns-in-Err
returns-in-Err c = growth_refused c.in-Err.ensures (rw c.number.ensures at c.pack_told-in-Err.ensures)

-- `lens_find` meets its contract: too many starts, or what was found, handed out. Assumes nothing.
use mathlib.Core.Path.{sym}
use Rattle.starts.specs.declared.Starts.{Starts}
use Rattle.starts.proofs.Lookup.{too_many, find_24}
use Rattle.packing.specs.HandedOut.{found_none}
use Rattle.lens.proofs.lookups.lens_find.Goals as goal

pub returns-then-count-gt16 : goal.returns-then-count-gt16
returns-then-count-gt16 c =
    let s : Starts = record { count = c.args.count; at = c.args.starts.now } in
    rw (c.number.ensures, ← find_24 s c.args.len c.args.variable (sym (too_many s c.args.len c.if-count-gt16.true))) (found_none _ _ _)

-- `is_placed` meets its contract: the main root, then section by section. Assumes nothing.
use Prim.Native.Nat.{◌≤◌}
use Rattle.sheet.specs.Sheet.{Sheet}
use Rattle.typing.specs.Fits.{Lent}
use Rattle.types.specs.Rooted.{Rooted, PlacedTo}
use Rattle.types.proofs.fits.is_placed.Given as goal

abbrev pub invariant-loop-c : goal.invariant-loop-c
invariant-loop-c l = (l.c ≤ l.sections) × ((sh : Sheet) (ts : Lent) → Rooted l.sheet l.lent.types.now l.lent.starts.now l.root l.sections l.i sh ts
    → PlacedTo sh ts l.i l.c)

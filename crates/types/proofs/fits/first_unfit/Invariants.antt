-- `first_unfit` meets its contract: node after node, in file order. Assumes nothing.
use Rattle.types.specs.Unfit.{Ready, Walking}
use Rattle.types.proofs.fits.first_unfit.Given as goal

abbrev pub invariant-loop-i : goal.invariant-loop-i
invariant-loop-i l = (g : Ready l.sheet l.t l.lent.types.now l.lent.starts.now) → Walking l.lent.types.now l.lent.starts.now g.sh g.ts l.stand l.i

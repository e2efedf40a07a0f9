-- `is_asked` meets its contract. Assumes nothing.
use borrow.Author.Tests.{eq-eqb, ne_eqb}
use Rattle.types.specs.Rooted.{asked}
use Rattle.types.proofs.fits.is_asked.Goals as goal

pub returns-then-root-i : goal.returns-then-root-i
unfolding asked
returns-then-root-i c = rw (ne_eqb _ _ c.if-root-i.true)

pub returns : goal.returns
unfolding asked
returns c = rw (eq-eqb _ _ c.if-root-i.false) c.is_same.ensures

-- `by_number` meets its contract. Assumes nothing.
use Rattle.parsing.specs.Expect.{no_number, by_number_told}
use Rattle.parsing.proofs.expect.by_number.Goals as goal

pub returns-then-t-lt2 : goal.returns-then-t-lt2
returns-then-t-lt2 c = rw c.fault.ensures (no_number c.requires.0 c.requires.1 c.args.c c.if-t-lt2.true)

pub returns : goal.returns
returns c = by_number_told c.requires.0 c.requires.1 c.if-t-lt2.false c.number.ensures

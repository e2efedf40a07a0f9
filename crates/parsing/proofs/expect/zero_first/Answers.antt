-- `zero_first` meets its contract. Assumes nothing.
use Rattle.parsing.specs.Expect.{zero_short, zero_long}
use Rattle.parsing.proofs.expect.zero_first.Goals as goal

pub returns-then-end-from-lt2 : goal.returns-then-end-from-lt2
returns-then-end-from-lt2 c = zero_short c.args.text.now c.args.from c.args.end c.requires.0 c.requires.1 c.if-end-from-lt2.true

pub returns : goal.returns
returns c = zero_long c.args.text.now c.args.from c.args.end c.requires.0 c.requires.1 c.if-end-from-lt2.false

-- `exact` meets its contract. Assumes nothing.
use Rattle.json_codec.specs.Reader.{exact_ended, exact_other, exact_there}
use Rattle.json_codec.proofs.exact.Goals as goal

pub returns-then-s-at : goal.returns-then-s-at
returns-then-s-at c = exact_ended c.args.c c.requires c.if-s-at.true

pub returns-then-s-at-2 : goal.returns-then-s-at-2
returns-then-s-at-2 c = exact_other c.args.c c.requires c.if-s-at.false c.if-s-at-2.true

pub returns : goal.returns
returns c = exact_there c.args.c c.requires c.if-s-at.false c.if-s-at-2.false

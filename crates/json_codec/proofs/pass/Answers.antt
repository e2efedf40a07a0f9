-- `pass` meets its contract. Assumes nothing.
use Rattle.json_codec.specs.Reader.{token_ended, token_other, token_there}
use Rattle.json_codec.proofs.pass.Goals as goal

pub returns-then-s-i : goal.returns-then-s-i
returns-then-s-i c =
    token_ended c.requires.0 c.requires.1 c.skip-i.ensures c.if-s-i.true

pub returns-then-s-i-2 : goal.returns-then-s-i-2
returns-then-s-i-2 c =
    token_other c.requires.0 c.requires.1 c.skip-i.ensures c.if-s-i.false c.if-s-i-2.true

pub returns : goal.returns
returns c =
    token_there c.requires.0 c.requires.1 c.skip-i.ensures c.if-s-i.false c.if-s-i-2.false

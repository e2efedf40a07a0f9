-- `spell` meets its contract: the text begins with the bytes there, or is refused. Assumes nothing.
use Rattle.json_codec.specs.Reader.{spelled, not_spelled}
use Rattle.json_codec.proofs.spell.Goals as goal

pub returns-then-starts_with : goal.returns-then-starts_with
returns-then-starts_with c =
    spelled c.args.bytes.now c.requires c.starts_with.ensures.value (c.starts_with.ensures.bound c.if-starts_with.true)
    c.if-starts_with.true

pub returns : goal.returns
returns c = not_spelled c.args.bytes.now c.requires c.starts_with.ensures.value c.if-starts_with.false

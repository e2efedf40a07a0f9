-- `skip` meets its contract: the byte at the place is none, or those behind it are passed. Assumes nothing.
use Rattle.std.proofs.Common.{sym, ◌∙◌}
use Rattle.json_codec.specs.Reader.{skips_on}
use Rattle.json_codec.proofs.skip.Goals as goal

pub returns : goal.returns
returns c = skips_on c.if-s-at.false (sym c.is_white.ensures ∙ c.if-not-is_white.false) c.past_white.ensures

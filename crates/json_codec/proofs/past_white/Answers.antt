-- `past_white` meets its contract: the first byte that is no white space, or the end. Assumes nothing.
use Rattle.std.proofs.Common.{sym, ◌∙◌}
use Rattle.json_codec.specs.Reader.{skips_to, skips_all}
use Rattle.json_codec.proofs.past_white.Goals as goal

pub returns-in-Some : goal.returns-in-Some
returns-in-Some c = skips_to c.requires (sym c.first_black.ensures ∙ c.in-Some.is)

pub returns-in-None : goal.returns-in-None
returns-in-None c = skips_all c.requires (sym c.first_black.ensures ∙ c.in-None.is)

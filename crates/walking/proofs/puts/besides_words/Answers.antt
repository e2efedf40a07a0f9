-- `besides_words` meets its contract: the bits, or the starts. Assumes nothing.
use mathlib.Core.Path.{ap}
use Rattle.report.specs.Text.{words}
use Rattle.report.specs.Writing.{wrote_text}
use Rattle.walking.specs.PutLaws.{besides_bits, besides_starts}
use Rattle.walking.proofs.puts.besides_words.Goals as goal

pub returns-then-bits : goal.returns-then-bits
returns-then-bits c = wrote_text c.bits_word.ensures (ap words (besides_bits c.if-bits.true _ _))

pub returns : goal.returns
returns c =
    wrote_text c.start_words.ensures (ap words (besides_starts c.if-bits.false _ _ c.requires))

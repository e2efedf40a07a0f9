-- `start_words` meets its contract: as many of the numbers as there are. Assumes nothing.
use native.Mathlib.Omega.{arith}
use Rattle.words.proofs.Starts.{firsts-take}
use Rattle.words.proofs.start_words.Goals as goal

pub returns : goal.returns
returns c =
    rw (← c.kept.ensures, ← firsts-take c.kept.result c.args.starts.at (omega (arith, c.kept.ensures))) c.number_words.ensures

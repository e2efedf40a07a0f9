-- `told_line` meets its contract: a success, or why the job is refused. Assumes nothing.
use Rattle.words.specs.Answers.{told_line}
use Rattle.explaining.specs.Explain.{unmet, why_reply}
use Rattle.walking.proofs.explanations.told_line.Goals as goal

pub returns-in-None : goal.returns-in-None
unfolding told_line unmet why_reply
returns-in-None c = rw c.in-None.is c.told_line.ensures

pub returns-in-Some : goal.returns-in-Some
unfolding why_reply
returns-in-Some c = rw (c.in-Some.is) (rw (c.number.ensures, c.part_at-nodes.ensures, c.from.ensures) at c.told_line-in-Some.ensures)

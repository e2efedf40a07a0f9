-- `door` meets its contract: refused for the output, or else what the walk's door says. Assumes nothing.
use native.Mathlib.Omega.{arith}
use Rattle.rules.proofs.Laws.Answers.{door-output}
use Rattle.arena.specs.Door.{shut_is}
use Rattle.calls.specs.CallLaws.{judges_past}
use Rattle.calls.proofs.door.Goals as goal

pub returns-then-output-need : goal.returns-then-output-need
returns-then-output-need c = shut_is _ _ _ _ (door-output _ _ _ _ _ (omega arith))

pub returns : goal.returns
returns c = judges_past (omega arith) _ _ _ c.door.ensures

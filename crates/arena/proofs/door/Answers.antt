-- `door` meets its contract: a return for each refusal, and one where it opens. Assumes nothing.
use mathlib.Core.Path.{sym}
use native.Mathlib.Omega.{arith}
use Rattle.rules.proofs.Laws.Answers.{door-scratch, door_none, door_over}
use Rattle.arena.specs.Door.{shut_is, shut_open}
use Rattle.arena.proofs.door.Goals as goal

pub returns-then-scratch-lt-SCRATCH : goal.returns-then-scratch-lt-SCRATCH
returns-then-scratch-lt-SCRATCH c = shut_is _ _ _ _ (door-scratch _ _ _ _ _ (omega arith) (omega arith))

pub returns-then-allowance-eq0 : goal.returns-then-allowance-eq0
returns-then-allowance-eq0 c = shut_is _ _ _ _ (door_none _ _ _ _ _ (omega arith) (omega arith) (omega arith))

pub returns-then-allowance-gt-ALLOWANCE : goal.returns-then-allowance-gt-ALLOWANCE
returns-then-allowance-gt-ALLOWANCE c = shut_is _ _ _ _ (door_over _ _ _ _ _ (omega arith) (omega arith) (omega arith))

pub returns : goal.returns
returns c = sym (shut_open (record { output_long = omega arith; scratch_long = omega arith; some_steps = omega arith; few_steps = omega arith }))

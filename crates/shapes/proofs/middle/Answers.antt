-- `shapes::middle` meets its contract: the reader gives the first part's length. Assumes nothing.
use native.Mathlib.Omega.{arith}
use mathlib.Core.Path.{ap}
use Rattle.shapes.specs.Parts.{behind, middle_of}
use Rattle.shapes.proofs.Answers.{shape_none, middle_behind, middle_none, whole_short}
use Rattle.shapes.proofs.middle.Goals as goal

pub returns-then-v-eq0 : goal.returns-then-v-eq0
unfolding middle_of
returns-then-v-eq0 c = ap middle_of (shape_none c.args.v.now c.if-v-eq0.true)

pub overflow_add-result : goal.overflow_add-result
overflow_add-result c = omega (arith, whole_short _ c.in-Ok.ensures)

pub returns-in-Ok : goal.returns-in-Ok
unfolding middle_of behind
returns-in-Ok c = middle_behind c.args.v.now c.if-v-eq0.false c.in-3.is c.in-Ok.ensures

pub returns-in-Err : goal.returns-in-Err
unfolding middle_of behind
returns-in-Err c = middle_behind c.args.v.now c.if-v-eq0.false c.in-3.is c.in-Err.ensures

pub returns-in_default : goal.returns-in_default
returns-in_default c = middle_none c.args.v.now c.in_default.in_default-own.rest.1

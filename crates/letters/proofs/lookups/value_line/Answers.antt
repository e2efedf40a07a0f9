-- `value_line` meets its contract: each return is a case of the definition. Assumes nothing.
use mathlib.Core.Path.{◌≡◌, ◌∙◌}
use native.Mathlib.Omega.{arith}
use lib.ListN.{length}
use Rattle.starts.specs.Starts.{find_of}
use Rattle.report.specs.Writing.{wrote_text}
use Rattle.letters.specs.Lookups.{found_line, value_line}
use Rattle.letters.specs.LookupLaws.{value_cut, value_whole, found_refused, found_part}
use Rattle.letters.proofs.lookups.value_line.Goals as goal
use Rattle.letters.proofs.lookups.value_line.Goals.{After-find}

-- the line is that of what was found
line-is : (c : After-find) → let plan = c.rest_from-plan.result.now in
    found_line (find_of c.starts_in-starts.result (length plan) c.from-variable.result) plan ≡ value_line c.args.input.now
line-is c =
    value_whole _ c.byte_at-count.ensures (omega arith) (rw c.from.ensures at c.rest_from-plan.ensures) c.starts_in-starts.ensures
    (c.from-variable.ensures ∙ c.byte_at.ensures)

pub returns-then-input-behind : goal.returns-then-input-behind
returns-then-input-behind c =
    wrote_text c.refusal.ensures (value_cut _ c.byte_at-count.ensures (omega arith))

pub returns-in-Ok : goal.returns-in-Ok
returns-in-Ok c =
    wrote_text c.line.ensures
    (found_part c.rest_from-plan.result.now c.in-Ok.ensures c.part-bytes.ensures ∙ line-is (goal.at.returns-in-Ok c).After-find)

pub returns-in-Err : goal.returns-in-Err
returns-in-Err c =
    wrote_text c.refused.ensures (found_refused c.rest_from-plan.result.now c.in-Err.ensures ∙ line-is (goal.at.returns-in-Err c).After-find)

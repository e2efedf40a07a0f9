-- `pack_numbered` meets its contract, case by case. Assumes nothing.
use mathlib.Core.Path.{ap, ◌∙◌}
use Rattle.std.specs.Prelude.{◌≡◌, ℕ, Result, Err}
use Rattle.numbering.specs.declared.Fault.{Fault}
use Rattle.numbering.specs.Replies.{told}
use Rattle.telling.specs.Tools.{numbered_done, numbered_refused, numbered_twice}
use Rattle.telling.proofs.pack_numbered.Goals as goal

-- what is told of a fault
of_fault : {q : Result ℕ Fault} {f g : Fault} → q ≡ Err f → f ≡ g → told q ≡ told (Err g)
of_fault e f = ap told (e ∙ ap Err f)

pub returns-in-Ok : goal.returns-in-Ok
returns-in-Ok c = rw c.in-Ok.is (numbered_done _ c.low.ensures c.pack_told.ensures)

pub returns-in-Err-Refused : goal.returns-in-Err-Refused
returns-in-Err-Refused c =
    rw (of_fault c.in-Err-Refused.is (rw c.in-Err-Refused.is at c.in-Err-Refused.field-0-is))
    (numbered_refused _ (rw c.number.ensures at c.pack_told-in-Err-Refused.ensures))

pub returns-in-Err-Twice : goal.returns-in-Err-Twice
returns-in-Err-Twice c =
    rw (of_fault c.in-Err-Twice.is (rw c.in-Err-Twice.is at c.in-Err-Twice.field-0-is))
    (numbered_twice _ c.low-in-Err-Twice.ensures (rw c.number-in-Err-Twice.ensures at c.pack_told-in-Err-Twice.ensures))

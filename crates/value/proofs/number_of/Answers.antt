-- `value::number_of` meets its contract: each byte of the number is judged in turn, and its size at the last.
use native.Mathlib.Omega.{arith}
use Rattle.value.proofs.Reader.{number_ended, number_full, number_low, number_whole}
use Rattle.value.proofs.number_of.Goals as goal
use Rattle.value.proofs.number_of.Goals.{else-this-eq5-via-then-this-eq5+else-number-eq0, else-this-eq5-via-else-this-eq5}

pub returns-then-s-room : goal.returns-then-s-room
returns-then-s-room g c = number_ended c.requires (omega arith) (omega arith)

pub returns-then-room : goal.returns-then-room
returns-then-room g c = number_full c.requires (omega arith) (omega (arith, c.else-s.either))

pub returns-then-number-eq0 : goal.returns-then-number-eq0
returns-then-number-eq0 g c =
    number_low c.requires (omega (arith, c.else-s.either, c.if-room.false)) c.if-room.false c.if-this-eq5.true
    (omega (arith, c.number.ensures, c.if-number-eq0.true))

pub returns : goal.returns
returns g c =
    elim c.else-this-eq5.branch [
      | else-this-eq5-via-then-this-eq5+else-number-eq0 w ↦
          number_whole c.requires (omega (arith, c.else-s.either, c.if-room.false)) c.if-room.false (λ e z. omega (arith, w.number.ensures, w.if-number-eq0))
      | else-this-eq5-via-else-this-eq5 w ↦
          number_whole c.requires (omega (arith, c.else-s.either, c.if-room.false)) c.if-room.false (λ e z. w.if-this-eq5.false e)
    ]

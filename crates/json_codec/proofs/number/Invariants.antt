-- `number` meets its contract: the digits so far are counted, and the buffer is as it was. Assumes nothing.
use Rattle.json_codec.specs.Reader.{Counted}
use Rattle.json_codec.proofs.number.Given as goal

abbrev pub invariant-loop-i : goal.invariant-loop-i
invariant-loop-i l = Counted l.s l.at l.first l.initial.out l.out l.i l.n

-- `records::shifted` meets its contract: i numbers are set, and zeros stand behind them. Assumes nothing.
use Rattle.records.specs.AnewLaws.{Shifted}
use Rattle.records.proofs.shifted.Given as goal

abbrev pub invariant-loop-i : goal.invariant-loop-i
invariant-loop-i l = Shifted l.by l.i l.numbers

-- `starts_in` meets its contract: i of the numbers are read. Assumes nothing.
use Rattle.inputs.specs.Starts.{Filled}
use Rattle.inputs.proofs.fields.starts_in.Given as goal

abbrev pub invariant-loop-i : goal.invariant-loop-i
invariant-loop-i l = Filled l.input l.at l.i

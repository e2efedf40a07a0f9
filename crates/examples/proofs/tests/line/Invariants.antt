-- What is said so far lies within the text.
use Rattle.std.proofs.Common.{◌≤◌, length}
use Rattle.examples.proofs.tests.line.Given as goal

abbrev pub invariant-loop-test : goal.invariant-loop-test
invariant-loop-test l = l.end ≤ length l.text

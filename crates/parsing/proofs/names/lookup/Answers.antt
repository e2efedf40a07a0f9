use mathlib.Core.Path.{sym, ◌∙◌}
use Rattle.parsing.specs.Names.{above_found}
use Rattle.parsing.proofs.names.lookup.Goals as goal

pub returns-then-is_same : goal.returns-then-is_same
returns-then-is_same c = above_found c.loop-i.invariant c.loop-i-test.true (sym c.is_same.ensures ∙ c.if-is_same.true)

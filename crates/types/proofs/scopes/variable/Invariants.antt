-- `variable` meets its contract: it climbs from scope to scope, and they have fewer variables. Assumes nothing.
use Rattle.typing.specs.Fits.{Scope}
use Rattle.types.specs.Scopes.{StandsIn, Climbed}
use Rattle.types.proofs.scopes.variable.Given as goal

abbrev pub invariant-loop-view : goal.invariant-loop-view
invariant-loop-view l = (Γ : Scope) → StandsIn l.lent.types.now l.lent.starts.now l.stand l.n Γ
    → Climbed l.lent.types.now l.lent.starts.now l.stand l.view l.x Γ

abbrev pub decreases-loop-view : goal.decreases-loop-view
decreases-loop-view l = l.view.width

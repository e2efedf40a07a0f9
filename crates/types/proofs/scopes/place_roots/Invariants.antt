-- `place_roots` meets its contract: the main root, then section by section. Assumes nothing.
use mathlib.Core.List.{List}
use Prim.Native.Nat.{ℕ, ◌≤◌}
use Rattle.types.specs.Uses.{Roots}
use Rattle.types.specs.Scopes.{place_all, section_scopes}
use Rattle.types.specs.Placing.{Sections}
use Rattle.types.proofs.scopes.place_roots.Given as goal

abbrev pub invariant-loop-c : goal.invariant-loop-c
invariant-loop-c l = (l.c ≤ l.sections) × ((rs : List ℕ) → Roots l.sheet l.sections rs → Sections l.stand l.c rs (place_all l.initial.stand
    (section_scopes 0 rs)))

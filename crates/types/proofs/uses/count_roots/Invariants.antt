-- `count_roots` meets its contract: the main root, then section by section. Assumes nothing.
use mathlib.Core.List.{List, [], ◌∷◌}
use Prim.Native.Nat.{ℕ}
use lib.ListN.{take}
use Rattle.types.specs.Uses.{Counted, Roots}
use Rattle.types.proofs.uses.count_roots.Given as goal

abbrev pub invariant-loop-c : goal.invariant-loop-c
invariant-loop-c l = (rs : List ℕ) → Roots l.sheet l.sections rs → Counted l.initial.uses (l.root ∷ []) → Counted l.uses (l.root ∷ take l.c rs)

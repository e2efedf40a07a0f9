-- `of_spans` meets its contract. The invariant: i starts and i lengths are copied.
-- Assumes nothing.
use mathlib.Core.Path.{◌≡◌}
use Prim.Native.Nat.{ℕ, ◌+◌, ◌≤◌}
use lib.ListN.{get_or}
use Rattle.walk.specs.Scope.{Spanning}
use Rattle.walk.proofs.scope.of_spans.Given as goal

abbrev pub invariant-loop-i : goal.invariant-loop-i
invariant-loop-i l = (l.i ≤ l.k) × Spanning l.i (λ (j x : ℕ). x ≡ get_or l.spans.starts j 0) l.starts
    × Spanning l.i (λ (j x : ℕ). 1 ≤ get_or l.spans.lens j 0 → get_or l.spans.lens j 0 ≤ 256 → x + 1 ≡ get_or l.spans.lens j 0) l.lens

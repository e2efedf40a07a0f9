-- `plan` meets its contract: the names before the i-th are written. Assumes nothing.
use mathlib.Core.List.{List}
use Prim.Native.Nat.{ℕ, ◌≤◌, pred}
use Rattle.report.specs.Writing.{Wrote}
use Rattle.tokens.specs.Quoted.{bytes}
use Rattle.printing.specs.Whole.{Planned}
use Rattle.printing.proofs.plan.Given as goal

abbrev pub invariant-loop-i : goal.invariant-loop-i
invariant-loop-i l = (pred l.i ≤ pred l.fn.k)
    × ((b : List ℕ) → Wrote (bytes "plan a") l.fn.at b l.initial.out l.initial.end → Planned (pred l.i) l.fn.at b l.out l.end)

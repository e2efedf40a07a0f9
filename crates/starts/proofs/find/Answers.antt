-- `find` meets its contract: starts that are not proper, a variable's number that is too large, the last value, or another. Assumes nothing.
use mathlib.Core.Bool.{true}
use mathlib.Core.Path.{◌≡◌, sym, ◌∙◌}
use Prim.Native.Nat.{◌≤◌, ◌<◌}
use native.Mathlib.Omega.{arith}
use Rattle.starts.specs.Starts.{proper}
use Rattle.starts.proofs.Lookup.{proper_is, find_24, find_23, find_at, last_end, next_end}
use Rattle.starts.proofs.find.Goals as goal
use Rattle.starts.proofs.find.Goals.{Else-count-variable, Else-not-is_proper}

-- WHAT IS KNOWN THERE
are-proper : (c : Else-not-is_proper) → proper c.args.starts c.args.len ≡ true
are-proper c = sym c.is_proper.ensures ∙ c.if-not-is_proper.false

few : (c : Else-count-variable) → proper c.args.starts c.args.len ≡ true → (c.args.variable < c.args.starts.count) × (c.args.starts.count ≤ 16)
few c p = (omega (arith, c.if-count-variable.false, c.from-count.ensures), (proper_is c.args.starts c.args.len p).few)

pub returns-then-not-is_proper : goal.returns-then-not-is_proper
returns-then-not-is_proper c = find_24 _ _ _ (sym c.is_proper.ensures ∙ c.if-not-is_proper.true)

pub returns-then-count-variable : goal.returns-then-count-variable
returns-then-count-variable c =
    find_23 _ _ _ (are-proper (goal.at.returns-then-count-variable c).Else-not-is_proper) (omega (arith, c.if-count-variable.true, c.from-count.ensures))

pub bounds-starts-variable : goal.bounds-starts-variable
bounds-starts-variable c =
    let h = few c (are-proper (goal.at.bounds-starts-variable c).Else-not-is_proper) in
    omega (arith, h.0, h.1)

pub returns-then-variable-count : goal.returns-then-variable-count
returns-then-variable-count c =
    let p = are-proper (goal.at.returns-then-variable-count c).Else-not-is_proper in
    let h = (few (goal.at.returns-then-variable-count c).Else-count-variable p).0 in
    find_at _ _ _ p h c.from-start.ensures (last_end _ _ _ p h (omega (arith, c.if-variable-count.true, c.from-count.ensures)))

pub bounds-starts-variable-2 : goal.bounds-starts-variable-2
bounds-starts-variable-2 c =
    let h = few (goal.at.bounds-starts-variable-2 c).Else-count-variable (are-proper (goal.at.bounds-starts-variable-2 c).Else-not-is_proper) in
    omega (arith, h.0, h.1, c.if-variable-count.false, c.from-count.ensures)

pub returns : goal.returns
returns c =
    let p = are-proper (goal.at.returns c).Else-not-is_proper in
    let h = (few (goal.at.returns c).Else-count-variable p).0 in
    find_at _ _ _ p h c.from-start.ensures (c.from-end.ensures ∙ next_end _ _ _ p h (λ e. c.if-variable-count.false (e ∙ sym c.from-count.ensures)))

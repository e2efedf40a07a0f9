-- `defaults` meets its contract.
-- Assumes nothing.
use mathlib.Core.Path.{◌≡◌, sym, ap, ap₂, ◌∙◌}
use mathlib.Core.Bool.{false}
use Prim.Native.Nat.{ℕ, ◌+◌}
use native.Mathlib.Omega.{arith}
use lib.ListN.{length}
use Rattle.outcome.specs.Outcome.{is_refusal}
use Rattle.walk.specs.declared.at.At.{At as Where}
use Rattle.walk.specs.Put.Switch.{Sees, Defaults, view_some, view_short, stored, seen, both_asked, both_as, defaults_as, copied_as, view_refused}
use Rattle.walk.specs.Put.Switch.{down_fits, view_done}
use Rattle.walk.proofs.putter.defaults.Goals as goal
use Rattle.walk.proofs.putter.defaults.Goals.{After-store, After-two_defaults-got, Else-is_refused}

-- WHAT IS KNOWN THERE
view-stands : (c : After-store) → c.store.new.arena ≡ stored c.requires
view-stands c = c.store.ensures.inside (omega (arith, c.requires.long, c.requires.room, view_short c.requires))

-- WHAT IS KNOWN THERE
view-stands-at-After-two_defaults-got : (c : After-two_defaults-got) → c.store.new.arena ≡ stored c.requires
view-stands-at-After-two_defaults-got c = c.store.ensures.inside (omega (arith, c.requires.long, c.requires.room, view_short c.requires))

told : (c : After-two_defaults-got) → let at = c.args.at in let top = at.top + length c.args.view.now in
    Defaults c.args.sheet.now c.args.place (Sees (stored c.requires) (seen c.requires) top) (stored c.requires) c.two_defaults-got.new.arena top at.levels
    at.left
    c.two_defaults-got.result
told c = defaults_as (view-stands-at-After-two_defaults-got c) c.single-seen.ensures c.raised-to.ensures c.two_defaults-got.ensures

done : (c : Else-is_refused) → is_refusal c.two_defaults-got.result ≡ false
done c = sym c.is_refused.ensures ∙ c.if-is_refused.false

pub single-seen-requires : goal.single-seen-requires
single-seen-requires c = (omega (arith, c.requires.room), view_some c.requires, view_short c.requires)

pub raised-to-requires : goal.raised-to-requires
raised-to-requires c = omega (arith, c.requires.room, view_short c.requires)

pub two_defaults-got-requires : goal.two_defaults-got-requires
two_defaults-got-requires c =
    both_as (view-stands (goal.at.two_defaults-got-requires c).After-store) c.single-seen.ensures c.raised-to.ensures (both_asked c.requires)

pub returns-then-is_refused : goal.returns-then-is_refused
returns-then-is_refused c =
    view_refused c.requires (told (goal.at.returns-then-is_refused c).After-two_defaults-got) (sym c.is_refused.ensures ∙ c.if-is_refused.true)

pub shape_of-arena-then-is_refused : goal.shape_of-arena-then-is_refused
shape_of-arena-then-is_refused c = (returns-then-is_refused c).kept.long

pub overflow_add-both : goal.overflow_add-both
overflow_add-both c =
    let z = (told (goal.at.overflow_add-both c).After-two_defaults-got).sizes (done (goal.at.overflow_add-both c).Else-is_refused) in
    record { fits = omega (arith, c.start.ensures, c.len.ensures, z.0, z.1) }

pub copy-requires : goal.copy-requires
copy-requires c =
    let z = down_fits c.requires (told (goal.at.copy-requires c).After-two_defaults-got) (done (goal.at.copy-requires c).Else-is_refused) in
    let t = ap (λ (x : Where). x.top) c.raised-to.ensures in
    let s = c.start.ensures in
    let n = c.len.ensures in
    (omega (arith, z.0, t, s, n), omega (arith, z.1, s, n))

pub returns : goal.returns
returns c =
    let t = ap (λ (x : Where). x.top) c.raised-to.ensures in
    view_done c.requires (told (goal.at.returns c).After-two_defaults-got) (done (goal.at.returns c).Else-is_refused)
    (copied_as t (ap₂ (λ (a b : ℕ). a + b) c.start.ensures c.len.ensures) c.copy.ensures)

pub shape_of-arena : goal.shape_of-arena
shape_of-arena c = (returns c).kept.long

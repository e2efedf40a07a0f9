-- `two_defaults` meets its contract.
-- Assumes nothing.
use mathlib.Core.Path.{◌≡◌, refl, sym, ap, ◌∙◌}
use native.Mathlib.Omega.{arith}
use Prim.Native.Nat.{ℕ, ◌+◌, ◌-◌}
use mathlib.Core.Bool.{false}
use lib.ListN.{get_or}
use Rattle.outcome.specs.Outcome.{is_refusal, start_of, len_of, steps_of, steps_small}
use Rattle.decisions.specs.Decisions.{unfit_rest}
use Rattle.walk.specs.declared.at.At.{At as Where}
use Rattle.walk.specs.Moves.{top_after, top_above}
use Rattle.walk.specs.Get.{ready_as, shows_as}
use Rattle.walk.specs.Get.Requires.{sized_as}
use Rattle.walk.specs.Get.Top.{AtTop, movable, at_top, brought_as}
use Rattle.walk.specs.Put.Switch.{default_here, rest_here, default_asks₁, defaults_refused₁, default_asks₂, defaults_refused₂, default_inside}
use Rattle.walk.specs.Put.Switch.{defaults_43, defaults_done}
use Rattle.walk.proofs.putter.two_defaults.Goals as goal
use Rattle.walk.proofs.putter.two_defaults.Goals.{After-behind-two, After-bring-a, After-bring-b, After-get_node-arg-1, After-get_node-arg-2-1}
use Rattle.walk.proofs.putter.two_defaults.Goals.{Else-is_refused, Else-is_refused-2}

-- WHAT IS KNOWN THERE
value : (c : After-bring-a)
    → AtTop (default_here c.requires) c.bring-a.new.arena c.bring-a.result (get_or c.args.sheet.now (c.args.place + 6) 0)
value c =
    at_top (default_asks₁ c.requires)
    (shows_as {at = c.args.at} refl refl c.number_of-first.ensures c.get_node-got.ensures.get_shows)
    c.get_node-got.ensures.sized c.bring-a.ensures

-- WHAT IS KNOWN THERE
value-at-After-bring-b : (c : After-bring-b)
    → AtTop (default_here c.requires) c.bring-a.new.arena c.bring-a.result (get_or c.args.sheet.now (c.args.place + 6) 0)
value-at-After-bring-b c =
    at_top (default_asks₁ c.requires)
    (shows_as {at = c.args.at} refl refl c.number_of-first.ensures c.get_node-got.ensures.get_shows)
    c.get_node-got.ensures.sized c.bring-a.ensures

-- WHAT IS KNOWN THERE
value-at-After-behind-two : (c : After-behind-two)
    → AtTop (default_here c.requires) c.bring-a.new.arena c.bring-a.result (get_or c.args.sheet.now (c.args.place + 6) 0)
value-at-After-behind-two c =
    at_top (default_asks₁ c.requires)
    (shows_as {at = c.args.at} refl refl c.number_of-first.ensures c.get_node-got.ensures.get_shows)
    c.get_node-got.ensures.sized c.bring-a.ensures

done : (c : Else-is_refused) → is_refusal c.bring-a.result ≡ false
done c = sym c.is_refused.ensures ∙ c.if-is_refused.false

done-at-After-bring-b : (c : After-bring-b) → is_refusal c.bring-a.result ≡ false
done-at-After-bring-b c = sym c.is_refused.ensures ∙ c.if-is_refused.false

done-at-After-behind-two : (c : After-behind-two) → is_refusal c.bring-a.result ≡ false
done-at-After-behind-two c = sym c.is_refused.ensures ∙ c.if-is_refused.false

done₂ : (c : Else-is_refused-2) → is_refusal c.bring-b.result ≡ false
done₂ c = sym c.is_refused-2.ensures ∙ c.if-is_refused-2.false

-- where the second is got
past : (c : After-behind-two) → let at = c.args.at in
    c.behind-two.result ≡ record {
      levels = at.levels;
      left = at.left - steps_of c.bring-a.result;
      top = at.top + len_of c.bring-a.result;
      cells = at.cells;
    }
past c =
    let p = (value-at-After-behind-two c).there (done-at-After-behind-two c) in
    let a = c.bring-a.result in
    let at = c.args.at in
    let e : top_after at.top (start_of a) (len_of a) ≡ at.top + len_of a = top_above at.top (start_of a) (len_of a) (omega (arith, p))
    ∙ ap (λ (i : ℕ). i + len_of a) p in
    c.behind-two.ensures ∙ ap (λ (i : ℕ). record { levels = at.levels; left = at.left - steps_of a; top = i; cells = at.cells }) e

-- where the second is got
past-at-After-bring-b : (c : After-bring-b) → let at = c.args.at in
    c.behind-two.result ≡ record {
      levels = at.levels;
      left = at.left - steps_of c.bring-a.result;
      top = at.top + len_of c.bring-a.result;
      cells = at.cells;
    }
past-at-After-bring-b c =
    let p = (value-at-After-bring-b c).there (done-at-After-bring-b c) in
    let a = c.bring-a.result in
    let at = c.args.at in
    let e : top_after at.top (start_of a) (len_of a) ≡ at.top + len_of a = top_above at.top (start_of a) (len_of a) (omega (arith, p))
    ∙ ap (λ (i : ℕ). i + len_of a) p in
    c.behind-two.ensures ∙ ap (λ (i : ℕ). record { levels = at.levels; left = at.left - steps_of a; top = i; cells = at.cells }) e

second : (c : After-bring-b) → AtTop (rest_here c.requires c.bring-a.new.arena c.bring-a.result) c.bring-b.new.arena c.bring-b.result
    (get_or c.args.sheet.now (c.args.place + 7) 0)
second c =
    let p = past-at-After-bring-b c in
    at_top (default_asks₂ c.requires (value-at-After-bring-b c) (done-at-After-bring-b c))
    (shows_as p refl c.number_of-rest.ensures c.get_node-got-2.ensures.get_shows)
    (sized_as p c.get_node-got-2.ensures.sized) (brought_as p c.bring-b.ensures)

-- the second's kind byte
head : (c : After-bring-b) → unfit_rest 3 (get_or c.bring-b.new.arena (c.args.at.top + len_of c.bring-a.result) 0) ≡ unfit_rest 3
    (get_or c.bring-b.new.arena c.behind-two.result.top 0)
head c = ap (λ (x : Where). unfit_rest 3 (get_or c.bring-b.new.arena x.top 0)) (sym (past-at-After-bring-b c))

pub get_node-got-requires : goal.get_node-got-requires
get_node-got-requires c = ready_as {at = c.args.at} refl refl c.number_of-first.ensures
    (default_asks₁ c.requires)

pub bring-a-requires : goal.bring-a-requires
bring-a-requires c =
    movable (get_node-got-requires (goal.at.bring-a-requires c).After-get_node-arg-1) c.get_node-got.ensures.get_shows c.get_node-got.ensures.sized

pub returns-then-is_refused : goal.returns-then-is_refused
returns-then-is_refused c = defaults_refused₁ c.requires (value (goal.at.returns-then-is_refused c).After-bring-a) (sym c.is_refused.ensures ∙
    c.if-is_refused.true)

pub behind-two-requires : goal.behind-two-requires
behind-two-requires c = let s = ((value (goal.at.behind-two-requires c).After-bring-a).sized.at (done c)).steps in omega arith

pub get_node-got-requires-2 : goal.get_node-got-requires-2
get_node-got-requires-2 c =
    ready_as (past (goal.at.get_node-got-requires-2 c).After-behind-two) refl c.number_of-rest.ensures (default_asks₂ c.requires
    (value (goal.at.get_node-got-requires-2 c).After-bring-a) (done (goal.at.get_node-got-requires-2 c).Else-is_refused))

pub bring-b-requires : goal.bring-b-requires
bring-b-requires c =
    movable (get_node-got-requires-2 (goal.at.bring-b-requires c).After-get_node-arg-2-1) c.get_node-got-2.ensures.get_shows c.get_node-got-2.ensures.sized

pub returns-then-is_refused-2 : goal.returns-then-is_refused-2
returns-then-is_refused-2 c =
    defaults_refused₂ c.requires (value (goal.at.returns-then-is_refused-2 c).After-bring-a) (done (goal.at.returns-then-is_refused-2 c).Else-is_refused)
    (second (goal.at.returns-then-is_refused-2 c).After-bring-b) (sym c.is_refused-2.ensures ∙ c.if-is_refused-2.true)

pub bounds-arena-mid : goal.bounds-arena-mid
bounds-arena-mid c =
    let z = ap (λ (x : Where). x.top) (past (goal.at.bounds-arena-mid c).After-behind-two) in
    omega (
      arith,
      default_inside c.requires (value (goal.at.bounds-arena-mid c).After-bring-a) (done (goal.at.bounds-arena-mid c).Else-is_refused)
          (second (goal.at.bounds-arena-mid c).After-bring-b) (done₂ (goal.at.bounds-arena-mid c).Else-is_refused-2),
    )

pub returns-then-unfit : goal.returns-then-unfit
returns-then-unfit c =
    defaults_43 c.requires (value (goal.at.returns-then-unfit c).After-bring-a) (done (goal.at.returns-then-unfit c).Else-is_refused)
    (second (goal.at.returns-then-unfit c).After-bring-b) (done₂ (goal.at.returns-then-unfit c).Else-is_refused-2)
    (head (goal.at.returns-then-unfit c).After-bring-b ∙ sym c.unfit.ensures ∙ c.if-unfit.true) c.refused.ensures

pub shape_of-arena-then-unfit : goal.shape_of-arena-then-unfit
shape_of-arena-then-unfit c = (returns-then-unfit c).kept.long

pub overflow_add-steps : goal.overflow_add-steps
overflow_add-steps c =
    let x = steps_small c.bring-a.result in
    let y = steps_small c.bring-b.result in
    record { fits = omega (arith, c.steps.ensures, c.steps-2.ensures) }

pub returns : goal.returns
returns c =
    defaults_done c.requires (value (goal.at.returns c).After-bring-a) (done (goal.at.returns c).Else-is_refused) (second (goal.at.returns c).After-bring-b)
    (done₂ (goal.at.returns c).Else-is_refused-2)
    (head (goal.at.returns c).After-bring-b ∙ sym c.unfit.ensures ∙ c.if-unfit.false)
    (rw (
      c.len.ensures,
      c.len-2.ensures,
      c.steps.ensures,
      c.steps-2.ensures,
    ) at c.done.ensures)

pub shape_of-arena : goal.shape_of-arena
shape_of-arena c = (returns c).kept.long

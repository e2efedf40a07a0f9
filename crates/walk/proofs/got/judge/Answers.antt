-- `judge` meets its contract.
-- Assumes nothing.
use mathlib.Core.Bool.{false}
use mathlib.Core.Path.{◌≡◌, refl, sym, ◌∙◌}
use native.Mathlib.Omega.{arith}
use Rattle.outcome.specs.Outcome.{is_refusal, len_of, start_of, len_small, start_small}
use Rattle.walk.specs.Get.Branch.{says_part, passed_on, fails, stays, moves}
use Rattle.walk.proofs.got.judge.Goals as goal
use Rattle.walk.proofs.got.judge.Goals.{After-says, Else-is_refused}

-- what is known there: no refusal, and where the value stands
there : (c : Else-is_refused) → is_refusal c.args.got ≡ false
there c = sym c.is_refused.ensures ∙ c.if-is_refused.false

start : (c : After-says) → c.start-start.result ≡ start_of c.args.got
start c = c.start-start.ensures

len : (c : After-says) → c.len-len.result ≡ len_of c.args.got
len c = c.len-len.ensures

pub returns-then-is_refused : goal.returns-then-is_refused
returns-then-is_refused c = passed_on (sym c.is_refused.ensures ∙ c.if-is_refused.true) refl refl

pub overflow_add-end : goal.overflow_add-end
overflow_add-end c =
    let z = start_small c.args.got in
    let y = len_small c.args.got in
    record { fits = omega (arith, c.start-start.ensures, c.len-len.ensures) }

pub says-requires : goal.says-requires
says-requires c =
    let m = c.requires (there (goal.at.says-requires c).Else-is_refused) in
    (omega arith, omega (arith, m.inside, c.start-start.ensures, c.len-len.ensures))

pub returns-then-not-says : goal.returns-then-not-says
returns-then-not-says c =
    fails (there (goal.at.returns-then-not-says c).Else-is_refused) (says_part _ _ _ (start (goal.at.returns-then-not-says c).After-says)
    (len (goal.at.returns-then-not-says c).After-says) c.says.ensures (c.if-not-says.true)) c.refused.ensures refl

pub returns-then-start-top : goal.returns-then-start-top
returns-then-start-top c =
    stays (there (goal.at.returns-then-start-top c).Else-is_refused) (says_part _ _ _ (start (goal.at.returns-then-start-top c).After-says)
    (len (goal.at.returns-then-start-top c).After-says) c.says.ensures (c.if-not-says.false))
    (omega (arith, start (goal.at.returns-then-start-top c).After-says, c.if-start-top.true)) refl refl

pub copy-requires : goal.copy-requires
copy-requires c =
    let m = c.requires (there (goal.at.copy-requires c).Else-is_refused) in (
      omega (arith, m.inside, start (goal.at.copy-requires c).After-says, len (goal.at.copy-requires c).After-says),
      omega (
        arith,
        m.inside,
        start (goal.at.copy-requires c).After-says,
        len (goal.at.copy-requires c).After-says,
        c.if-start-top.false,
      ),
    )

pub returns : goal.returns
returns c =
    moves (there (goal.at.returns c).Else-is_refused) (says_part _ _ _ (start (goal.at.returns c).After-says) (len (goal.at.returns c).After-says)
    c.says.ensures (c.if-not-says.false))
    (omega (arith, start (goal.at.returns c).After-says, c.if-start-top.false)) (rw (← len (goal.at.returns c).After-says, ← c.steps.ensures) c.done.ensures)
    (rw (← start (goal.at.returns c).After-says, ← len (goal.at.returns c).After-says) c.copy.ensures)

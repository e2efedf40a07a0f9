-- `behind` meets its contract.
-- Assumes nothing.
use mathlib.Core.Path.{◌∙◌}
use native.Mathlib.Omega.{arith}
use Rattle.outcome.specs.Outcome.{len_of, start_of, len_small, start_small}
use Rattle.walk.specs.Moves.{top_below, top_above}
use Rattle.walk.proofs.at.At.behind.Goals as goal

pub overflow_add-end : goal.overflow_add-end
overflow_add-end c =
    let z = start_small c.args.got in
    let y = len_small c.args.got in
    record { fits = omega (arith, c.start.ensures, c.len.ensures) }

pub returns-then-end-self : goal.returns-then-end-self
returns-then-end-self c =
    let e = c.start.ensures in
    let f = c.len.ensures in
    c.after.ensures ∙ rw (top_below c.args.self.top (start_of c.args.got) (len_of c.args.got) (omega (arith, e, f, c.if-end-self.true)))

pub returns : goal.returns
returns c =
    let e = c.start.ensures in
    let f = c.len.ensures in
    rw (c.steps.ensures, top_above c.args.self.top (start_of c.args.got) (len_of c.args.got) (omega (arith, e, f, c.if-end-self.false)), e, f)

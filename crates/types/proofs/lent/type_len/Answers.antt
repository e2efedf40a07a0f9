use mathlib.Core.Path.{sym, ◌∙◌}
use Prim.Native.Nat.{◌+◌}
use native.Mathlib.Omega.{arith}
use Rattle.types.specs.SlotsLaws.{Owing, owing_one, owing_kind, owed_few, len_done, len_unknown, len_end}
use Rattle.types.proofs.lent.type_len.Goals as goal
use Rattle.types.proofs.lent.type_len.Goals.{After-owed_behind-owed}

-- WHAT IS KNOWN THERE: a byte more is read
next : (c : After-owed_behind-owed) → Owing c.args.s.now (c.loop-at.at + 1) c.owed_behind-owed.result
next c =
    let w = c.loop-at.invariant in
    rw c.owed_behind-owed.ensures
    (owing_kind _ w.0 w.1 c.min.ensures c.loop-at-test.true _ (sym c.kind_of.ensures ∙ c.in_ok-kind_of.was))

pub loop-at-init : goal.loop-at-init
loop-at-init c = (owing_one _, omega arith)

pub returns-in_err-kind_of : goal.returns-in_err-kind_of
returns-in_err-kind_of c =
    let w = c.loop-at.invariant in
    c.from_residual.ensures ∙ len_unknown _ w.0 w.1 c.min.ensures c.loop-at-test.true (sym c.kind_of.ensures ∙ c.in_err-kind_of.was)

pub owed_behind-owed-requires : goal.owed_behind-owed-requires
owed_behind-owed-requires c = let w = c.loop-at.invariant in (w.1, owed_few _ w.0 w.1 c.min.ensures c.loop-at-test.true)

pub returns-then-owed-eq0 : goal.returns-then-owed-eq0
returns-then-owed-eq0 c = len_done _ (next (goal.at.returns-then-owed-eq0 c).After-owed_behind-owed) c.if-owed-eq0.true

pub loop-at-preserved : goal.loop-at-preserved
loop-at-preserved c = (next (goal.at.loop-at-preserved c).After-owed_behind-owed, omega (arith, c.if-owed-eq0.false))

pub returns : goal.returns
returns c = let w = c.loop-at.invariant in len_end _ w.0 w.1 c.min.ensures c.loop-at-test.false

use mathlib.Core.Path.{◌∙◌}
use native.Mathlib.Omega.{arith}
use Rattle.parsing.specs.Names.{fails}
use Rattle.parsing.specs.Whole.{plan_on, plan_full, plan_fault, plan_last, plan_more}
use Rattle.parsing.proofs.whole.+plan.Goals as goal

pub returns-then-c-ne0 : goal.returns-then-c-ne0
returns-then-c-ne0 t c =
    plan_on c.args.text.now c.args.names.now c.args.i c.args.c c.if-c-ne0.true

pub full-requires : goal.full-requires
full-requires t c =
    c.if-c-ne0.false

pub returns-then-i-eq16 : goal.returns-then-i-eq16
returns-then-i-eq16 t c =
    plan_full c.args.names.now c.if-i-eq16.true c.if-c-ne0.false c.full.ensures

pub bind-b-requires : goal.bind-b-requires
bind-b-requires t c =
    let l = c.requires.1 in let h = c.requires.0 in omega arith

pub returns-then-b-ne0 : goal.returns-then-b-ne0
returns-then-b-ne0 t c =
    let h = c.requires.0 in let q = c.if-i-eq16.false in plan_fault (omega arith) c.if-c-ne0.false c.bind-b.ensures c.if-b-ne0.true

pub overflow_add-i : goal.overflow_add-i
overflow_add-i t c =
    let h = c.requires.0 in omega arith

pub returns-then-not-is : goal.returns-then-not-is
returns-then-not-is t c =
    let h = c.requires.0 in
    let q = c.if-i-eq16.false in
    rw c.read.ensures (plan_last (omega arith) c.if-c-ne0.false c.bind-b.ensures c.if-b-ne0.false c.next-t.ensures (fails c.is.ensures c.if-not-is.true))

pub overflow_add-i-2 : goal.overflow_add-i-2
overflow_add-i-2 t c =
    let h = c.requires.0 in omega arith

pub plan-requires : goal.plan-requires
plan-requires t c =
    let h = c.requires.0 in
    let q = c.if-i-eq16.false in
    (omega (arith, c.decreases), (omega arith, c.bind-b.ensures.long ∙ c.requires.1))

pub returns : goal.returns
returns t c =
    let h = c.requires.0 in
    let q = c.if-i-eq16.false in
    plan_more (omega arith) c.if-c-ne0.false c.bind-b.ensures c.if-b-ne0.false c.next-t.ensures (c.is.ensures.0 c.if-not-is.false) c.read-2.ensures
    c.plan.ensures

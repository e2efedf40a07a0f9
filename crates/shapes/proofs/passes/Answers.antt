-- `shapes::passes` meets its contract: each test is its place in the list of `passes_bytes`.
use native.Mathlib.Omega.{arith}
use mathlib.Core.Path.{refl, sym, ◌∙◌}
use Prim.Native.Nat.{zero-le}
use Rattle.shapes.specs.Parts.{by_kinds, passes_bytes}
use Rattle.shapes.proofs.Answers.{answered, kind_is, beyond, no_test}
use Rattle.shapes.proofs.passes.Goals as goal

pub returns-in-0 : goal.returns-in-0
unfolding passes_bytes by_kinds
returns-in-0 c =
    let both = answered c.args.test c.args.v.now c.in-0.is refl in
    record { value = both.0; enough = both.1 }

pub returns-in-1 : goal.returns-in-1
unfolding passes_bytes by_kinds
returns-in-1 c =
    let both = answered c.args.test c.args.v.now c.in-1.is (c.eq.ensures ∙ kind_is c.kind_at.result 2 (omega arith) c.kind_at.ensures) in
    record { value = both.0; enough = both.1 }

pub returns-in-2 : goal.returns-in-2
unfolding passes_bytes by_kinds
returns-in-2 c =
    let both = answered c.args.test c.args.v.now c.in-2.is (c.eq-in-2.ensures ∙ kind_is c.kind_at-in-2.result 3 (omega arith) c.kind_at-in-2.ensures) in
    record { value = both.0; enough = both.1 }

pub returns-in-3 : goal.returns-in-3
unfolding passes_bytes by_kinds
returns-in-3 c =
    let both = answered c.args.test c.args.v.now c.in-3.is (c.eq-in-3.ensures ∙ kind_is c.kind_at-in-3.result 0 (omega arith) c.kind_at-in-3.ensures) in
    record { value = both.0; enough = both.1 }

pub returns-in-4 : goal.returns-in-4
unfolding passes_bytes by_kinds
returns-in-4 c =
    let both = answered c.args.test c.args.v.now c.in-4.is (c.eq-in-4.ensures ∙ kind_is c.kind_at-in-4.result 1 (omega arith) c.kind_at-in-4.ensures) in
    record { value = both.0; enough = both.1 }

pub returns-in-5 : goal.returns-in-5
unfolding passes_bytes by_kinds
returns-in-5 c =
    let both = answered c.args.test c.args.v.now c.in-5.is (c.eq-in-5.ensures ∙ kind_is c.rest_kind.result 2 (omega arith) c.rest_kind.ensures) in
    record { value = both.0; enough = both.1 }

pub returns-in-6 : goal.returns-in-6
unfolding passes_bytes by_kinds
returns-in-6 c =
    let both = answered c.args.test c.args.v.now c.in-6.is (c.eq-in-6.ensures ∙ kind_is c.rest_kind-in-6.result 3 (omega arith) c.rest_kind-in-6.ensures) in
    record { value = both.0; enough = both.1 }

pub returns-in_default : goal.returns-in_default
returns-in_default c =
    let m = c.in_default.in_default-own.rest in let both = answered c.args.test c.args.v.now refl (sym (no_test c.args.test c.args.v.now
    (beyond (beyond (beyond (beyond (beyond (beyond (beyond (zero-le) m.0.0.0.0.0.0.1) m.0.0.0.0.0.1) m.0.0.0.0.1) m.0.0.0.1)
    m.0.0.1) m.0.1) m.1))) in record { value = both.0; enough = both.1 }

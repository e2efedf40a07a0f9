-- `shapes::shape_of` meets its contract: the kind byte picks the case of `shape_of`, and `middle` gives where a second part starts.
use Prim.Native.Nat.{◌≤◌, zero-le}
use native.Mathlib.Omega.{arith}
use mathlib.Core.Path.{refl, sym, ap, ◌∙◌}
use lib.ListN.{get_or, drop}
use Rattle.value.specs.Reading.{kind_of}
use Rattle.value.proofs.Reader.{unknown_kind}
use Rattle.shapes.specs.Parts.{shape_as}
use Rattle.shapes.proofs.Answers.{shape_none, shape_at, front_found, front_lost, pair_found, pair_lost, number_short, number_there, beyond}
use Rattle.shapes.specs.declared.Shape.TheVariants.{Number}
use Rattle.shapes.proofs.shape_of.Goals as goal

pub returns-then-v-eq0 : goal.returns-then-v-eq0
returns-then-v-eq0 c = shape_none c.args.v.now c.if-v-eq0.true

pub returns-then-v-lt3 : goal.returns-then-v-lt3
unfolding kind_of shape_as
returns-then-v-lt3 c = sym (shape_at c.args.v.now c.if-v-eq0.false c.in-4.is
    ∙ number_short c.args.v.now c.if-v-lt3.true)

pub returns-in-0 : goal.returns-in-0
unfolding kind_of shape_as
returns-in-0 c = sym (shape_at c.args.v.now c.if-v-eq0.false c.in-0.is)

pub returns-in-1 : goal.returns-in-1
unfolding kind_of shape_as
returns-in-1 c = sym (shape_at c.args.v.now c.if-v-eq0.false c.in-1.is)

pub returns-in-2 : goal.returns-in-2
unfolding kind_of shape_as
returns-in-2 c = sym (shape_at c.args.v.now c.if-v-eq0.false c.in-2.is)

pub returns-else-v-lt3 : goal.returns-else-v-lt3
unfolding kind_of shape_as
returns-else-v-lt3 c = ap Number c.number.ensures
    ∙ sym (shape_at c.args.v.now
    c.if-v-eq0.false c.in-4.is
    ∙ number_there c.args.v.now (omega arith))

pub returns-in-6 : goal.returns-in-6
unfolding kind_of shape_as
returns-in-6 c = sym (shape_at c.args.v.now c.if-v-eq0.false c.in-6.is)

pub returns-in-Some : goal.returns-in-Some
returns-in-Some c = front_found c.args.v.now c.if-v-eq0.false c.in-3.is c.in-Some.ensures

pub returns-in-None : goal.returns-in-None
returns-in-None c = front_lost c.args.v.now c.if-v-eq0.false c.in-3.is c.in-None.ensures

pub returns-in-Some-middle : goal.returns-in-Some-middle
returns-in-Some-middle c = pair_found c.args.v.now c.if-v-eq0.false c.in-5.is c.in-Some-middle.ensures

pub returns-in-None-middle : goal.returns-in-None-middle
returns-in-None-middle c = pair_lost c.args.v.now c.if-v-eq0.false c.in-5.is c.in-None-middle.ensures

pub returns-in_default : goal.returns-in_default
unfolding kind_of shape_as
returns-in_default c =
    let v = c.args.v.now in
    let r = c.in_default.in_default-own.rest in
    let r₆ = r.0 in
    let r₅ = r₆.0 in
    let r₄ = r₅.0 in
    let r₃ = r₄.0 in
    let r₂ = r₃.0 in
    let more : 4 ≤ get_or v 0 0 = beyond (beyond (beyond (beyond zero-le r₂.0.1) r₂.1) r₃.1) r₄.1 in
    let many : 7 ≤ get_or v 0 0 = beyond (beyond (beyond more r₅.1) r₆.1) r.1 in
    sym (shape_at v c.if-v-eq0.false refl ∙ ap (shape_as (drop 1 v)) (unknown_kind (get_or v 0 0) many))

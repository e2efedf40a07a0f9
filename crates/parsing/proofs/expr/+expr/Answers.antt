use Rattle.parsing.specs.Cursor.{entered}
use mathlib.Core.Path.{refl, ap, ◌∙◌, sym, ◌≡◌}
use native.Mathlib.Omega.{arith}
use Rattle.parsing.specs.ConstructLaws.{amount_fault, amount_constant, amount_large, amount_added, inner_ready, count-entered}
use Rattle.parsing.specs.ConstructLaws.{count-behind, parsed_on, back_bar, back_full, back_comma, back_none, back_end_full, back_end, ready_inner}
use Rattle.parsing.specs.ConstructLaws.{branch_parsed, branches_on, branches_truth, branches_none, branches_lists, code-behind, case_parsed}
use Rattle.parsing.specs.ConstructLaws.{parsed_at, default_parsed, each_parsed, goes_at, expr_none, expr_full, expr_shaped, front_parsed, let_parsed}
use Rattle.parsing.specs.ConstructLaws.{parsed_in, wider_top, list_empty, list_front, lists_parsed, cased_ready, pair_parsed, shaped_let, shaped_case}
use Rattle.parsing.specs.ConstructLaws.{shaped_each, shaped_pair, shaped_list, leaf_false, leaf_true, leaf_hash, truth_parsed}
use Rattle.parsing.specs.Names.{fails}
use Rattle.parsing.specs.Expressions.{number_kind}
use borrow.Author.Rules.{rules}
use lib.ListN.{length-set, length}
use Prim.Native.Nat.{ℕ, ◌+◌, ◌≤◌, ◌<◌}
use Rattle.parsing.proofs.expr.+expr.Goals as goal
use Rattle.parsing.proofs.expr.+expr.Goals.{list_case-After-again-member}
use Rattle.parsing.proofs.expr.+expr.Goals.{list_case-After-again-rest}
use Rattle.parsing.proofs.expr.+expr.Goals.{list_case-After-symbol-close}
use Rattle.parsing.proofs.expr.+expr.Goals.{list_case-After-symbol-none}
use Rattle.parsing.proofs.expr.+expr.Goals.{list_case-After-wider}
use Rattle.parsing.proofs.expr.+expr.Goals.{list_case-Start}

-- AMOUNT
pub amount-number-v-requires : goal.amount-number-v-requires
amount-number-v-requires t c =
    let b = c.requires.1 in
    let g = b.is_next.shape in
    let k = number_kind c.args.text.now c.args.t b.coded in
    record { order = (g.a_number k).0; inside = g.inside; all = (g.a_number k).1; large = omega arith }

pub amount-returns-then-v-ne0 : goal.amount-returns-then-v-ne0
amount-returns-then-v-ne0 t c =
    let w = c.requires.0 in
    amount_fault c.args.table.now c.args.sc c.requires.1 w.clear c.number-v.ensures w.ready.few
    c.if-v-ne0.true

pub amount-constant-requires : goal.amount-constant-requires
amount-constant-requires t c =
    let w = c.requires.0 in
    let i = c.number-v.ensures.same in
    let f = w.free in
    (omega arith, w.ready.slots_long)

pub amount-returns-then-not-is : goal.amount-returns-then-not-is
amount-returns-then-not-is t c =
    let w = c.requires.0 in
    amount_constant c.args.table.now c.args.sc c.requires.1 w.clear c.number-v.ensures c.if-v-ne0.false
    c.next-plus.ensures
    w.free (fails c.is.ensures c.if-not-is.true) c.constant.ensures.value c.constant.ensures.constant c.constant.ensures.kept

pub amount-returns-then-v-gt65535 : goal.amount-returns-then-v-gt65535
amount-returns-then-v-gt65535 t c =
    let w = c.requires.0 in
    rw c.fault.ensures (amount_large c.args.table.now c.args.sc c.requires.1 w.clear
    c.number-v.ensures c.if-v-ne0.false c.next-plus.ensures
    w.ready.few (c.is.ensures.0 c.if-not-is.false) c.if-v-gt65535.true)

pub amount-enter-inner-requires : goal.amount-enter-inner-requires
amount-enter-inner-requires t c =
    let i = count-behind c.args.c c.read.ensures in
    let f = c.requires.0.free in
    omega arith

pub amount-expr-a-requires : goal.amount-expr-a-requires
amount-expr-a-requires t c =
    let i = count-behind c.args.c c.read.ensures in
    let j = count-entered c.read.result c.enter-inner.ensures in
    let f = c.requires.0.free in
    (omega (arith, c.decreases), inner_ready c.requires.0 refl refl (omega arith) (omega arith) (omega arith))

pub amount-overflow_add-first : goal.amount-overflow_add-first
amount-overflow_add-first t c =
    let f = c.requires.0.free in omega arith

pub amount-overflow_cast-first : goal.amount-overflow_cast-first
amount-overflow_cast-first t c =
    let f = c.requires.0.free in omega arith

pub amount-overflow_cast-high : goal.amount-overflow_cast-high
amount-overflow_cast-high t c =
    let h = c.if-v-gt65535.false in omega arith

pub amount-store-requires : goal.amount-store-requires
amount-store-requires t c =
    let w = c.requires.0 in
    let l = w.ready.slots_long in
    let f = w.free in
    let i = c.expr-a.ensures.kept.long in
    (refl, omega arith)

pub amount-returns : goal.amount-returns
amount-returns t c =
    let w = c.requires.0 in
    amount_added c.args.table.now c.args.sc c.requires.1 w.clear c.number-v.ensures c.if-v-ne0.false
    c.next-plus.ensures
    w.free w.ready.slots_long (c.is.ensures.0 c.if-not-is.false) c.if-v-gt65535.false (c.enter-inner.ensures ∙ ap entered c.read.ensures) c.expr-a.ensures
    c.store.ensures

-- BACK
pub back-returns-then-c-ne0 : goal.back-returns-then-c-ne0
back-returns-then-c-ne0 t c =
    parsed_on c.requires.few c.if-c-ne0.true

pub back-expr-b-requires : goal.back-expr-b-requires
back-expr-b-requires t c =
    let i = count-behind c.args.c c.read.ensures in
    let w = c.requires in
    let f = w.few in
    let l = w.low in (
      omega (arith, c.decreases),
      record
          { table_few = w.table_few; names_long = w.names_long; slots_long = w.slots_long; few = omega arith; low = omega arith },
    )

pub back-returns-then-is : goal.back-returns-then-is
back-returns-then-is t c =
    back_bar c.next-t.ensures c.if-c-ne0.false (c.is.ensures.0 c.if-is.true) c.read.ensures c.expr-b.ensures c.symbol.ensures

pub back-returns-then-c-eq200 : goal.back-returns-then-c-eq200
back-returns-then-c-eq200 t c =
    rw c.fault.ensures (back_full c.next-t.ensures c.if-c-ne0.false (c.is-2.ensures.0 c.if-is-2.true) c.if-c-eq200.true)

pub back-front-requires : goal.back-front-requires
back-front-requires t c =
    let i = count-behind c.args.c c.read-then-is-2.ensures in
    let w = c.requires in
    let f = w.few in
    let q = c.if-c-eq200.false in
    (omega (arith, c.decreases), ready_inner c.args.c w (omega arith) c.read-then-is-2.ensures)

pub back-returns-then-is-2 : goal.back-returns-then-is-2
back-returns-then-is-2 t c =
    let f = c.requires.few in
    let q = c.if-c-eq200.false in
    back_comma c.next-t.ensures c.if-c-ne0.false (c.is-2.ensures.0 c.if-is-2.true) (omega arith) c.read-then-is-2.ensures c.front.ensures

pub back-returns-then-not-is : goal.back-returns-then-not-is
back-returns-then-not-is t c =
    rw c.fault-then-not-is.ensures
    (back_none c.next-t.ensures c.if-c-ne0.false c.requires.few (fails c.is.ensures c.if-is.false) (fails c.is-2.ensures c.if-is-2.false)
    (fails c.is-3.ensures c.if-not-is.true))

pub back-returns-then-c-eq200-2 : goal.back-returns-then-c-eq200-2
back-returns-then-c-eq200-2 t c =
    rw c.fault-then-c-eq200-2.ensures (back_end_full c.next-t.ensures c.if-c-ne0.false (c.is-3.ensures.0 c.if-not-is.false) c.if-c-eq200-2.true)

pub back-bare-requires : goal.back-bare-requires
back-bare-requires t c =
    let i = count-behind c.args.c c.read-2.ensures in
    let f = c.requires.few in
    let h = c.if-c-eq200-2.false in
    (omega arith, c.requires.slots_long)

pub back-returns : goal.back-returns
back-returns t c =
    let f = c.requires.few in
    let h = c.if-c-eq200-2.false in
    back_end c.next-t.ensures c.if-c-ne0.false c.requires.slots_long (c.is-3.ensures.0 c.if-not-is.false) (omega arith) c.read-2.ensures
    c.bare.ensures.slots_after
    c.bare.ensures.value

-- BRANCH
pub branch-expr-requires : goal.branch-expr-requires
branch-expr-requires t c =
    let w = c.requires in
    let i = c.symbol-arrow.ensures.same in (
      omega (arith, c.decreases),
      record {
        table_few = w.table_few;
        names_long = w.names_long;
        slots_long = w.slots_long;
        few = let f = w.few in omega arith;
        low = let l = w.low in
            omega arith;
      },
    )

pub branch-returns : goal.branch-returns
branch-returns t c =
    branch_parsed c.symbol-arrow.ensures c.expr.ensures

-- BRANCHES
pub branches-returns-then-c-ne0 : goal.branches-returns-then-c-ne0
branches-returns-then-c-ne0 t c =
    branches_on c.requires.few c.if-c-ne0.true

pub branches-truth_case-requires : goal.branches-truth_case-requires
branches-truth_case-requires t c =
    let w = c.requires in
    let i = count-behind c.args.c c.read.ensures in
    let f = w.few in
    let a = w.after in (
      omega (arith, c.decreases),
      (
        record
            { table_few = w.table_few; names_long = w.names_long; slots_long = w.slots_long; few = omega arith; after = omega arith; low = w.low },
        code-behind c.args.c c.read.ensures,
      ),
    )

pub branches-returns-then-is_word : goal.branches-returns-then-is_word
branches-returns-then-is_word t c =
    branches_truth c.next-t.ensures c.if-c-ne0.false c.read.ensures (sym c.is_word.ensures ∙ c.if-is_word.true) c.truth_case.ensures

pub branches-returns-then-not-is : goal.branches-returns-then-not-is
branches-returns-then-not-is t c =
    rw c.fault.ensures
    (branches_none c.next-t.ensures c.if-c-ne0.false c.requires.few (sym c.is_word.ensures ∙ c.if-is_word.false) (fails c.is.ensures c.if-not-is.true))

pub branches-list_case-requires : goal.branches-list_case-requires
branches-list_case-requires t c =
    let w = c.requires in
    let i = count-behind c.args.c c.read-2.ensures in
    let f = w.few in
    let a = w.after in (
      omega (arith, c.decreases),
      (
        record
            { table_few = w.table_few; names_long = w.names_long; slots_long = w.slots_long; few = omega arith; after = omega arith; low = w.low },
        code-behind c.args.c c.read-2.ensures,
      ),
    )

pub branches-returns : goal.branches-returns
branches-returns t c =
    branches_lists c.next-t.ensures c.if-c-ne0.false c.read-2.ensures (sym c.is_word.ensures ∙ c.if-is_word.false) (c.is.ensures.0 c.if-not-is.false)
    c.list_case.ensures

-- CASE_OF
pub case_of-enter-requires : goal.case_of-enter-requires
case_of-enter-requires t c =
    c.requires.free

pub case_of-expr-s-requires : goal.case_of-expr-s-requires
case_of-expr-s-requires t c =
    let i = count-entered c.args.c c.enter.ensures in
    let f = c.requires.free in
    (omega (arith, c.decreases), inner_ready c.requires refl refl (omega arith) (omega arith) (omega arith))

pub case_of-branches-requires : goal.case_of-branches-requires
case_of-branches-requires t c =
    let i = count-entered c.args.c c.enter.ensures in
    let f = c.requires.free in
    let p = c.expr-s.ensures in
    let w = c.requires.ready in
    let j₁ = p.later in
    let j₂ = p.few in
    let j₃ = c.keyword-of.ensures.same in (
      omega (arith, c.decreases),
      record {
        table_few = w.table_few;
        names_long = p.below.long ∙ w.names_long;
        slots_long = p.kept.long
            ∙ w.slots_long;
        few = omega arith;
        after = omega arith;
        low = w.low;
      },
    )

pub case_of-returns : goal.case_of-returns
case_of-returns t c =
    case_parsed c.requires (parsed_at c.enter.ensures c.expr-s.ensures) c.keyword-of.ensures c.branches.ensures

-- DEFAULT
pub default-bounds-names-top : goal.default-bounds-names-top
default-bounds-names-top t c =
    let w = c.requires in let n = w.names_long in let l = w.low in let f = w.few in omega arith

pub default-expr-requires : goal.default-expr-requires
default-expr-requires t c =
    let w = c.requires in
    let i = c.symbol-equals.ensures.same in (
      omega (arith, c.decreases),
      record {
        table_few = w.table_few;
        names_long = search rules;
        slots_long = w.slots_long;
        few = let f = w.few in omega arith;
        low = let l = w.low in
            omega arith;
      },
    )

pub default-returns : goal.default-returns
default-returns t c =
    let w = c.requires in
    let n = w.names_long in
    let l = w.low in
    let f = w.few in
    default_parsed (omega arith) c.symbol-equals.ensures refl c.expr.ensures

-- EACH_OF
pub each_of-enter-requires : goal.each_of-enter-requires
each_of-enter-requires t c =
    c.requires.free

pub each_of-callee-called-requires : goal.each_of-callee-called-requires
each_of-callee-called-requires t c =
    c.requires.ready.table_few

pub each_of-expr-a-requires : goal.each_of-expr-a-requires
each_of-expr-a-requires t c =
    let i = count-entered c.args.c c.enter.ensures in
    let f = c.requires.free in
    let j₁ = c.callee-called.ensures.same in
    let j₂ = c.symbol-open.ensures.same in
    (omega (arith, c.decreases), inner_ready c.requires refl refl (omega arith) (omega arith) (omega arith))

pub each_of-variable-x-requires : goal.each_of-variable-x-requires
each_of-variable-x-requires t c =
    let l = c.requires.ready.low in
    let f = c.requires.free in
    let m = c.requires.ready.names_long in
    let k = c.expr-a.ensures.below.long in omega arith

pub each_of-overflow_add-none : goal.each_of-overflow_add-none
each_of-overflow_add-none t c =
    let l = c.requires.ready.low in let f = c.requires.free in omega arith

pub each_of-expr-d-requires : goal.each_of-expr-d-requires
each_of-expr-d-requires t c =
    let i = count-entered c.args.c c.enter.ensures in
    let f = c.requires.free in
    let j₁ = c.callee-called.ensures.same in
    let j₂ = c.symbol-open.ensures.same in
    let p = c.expr-a.ensures in
    let j₃ = p.later in
    let j₄ = p.few in
    let j₅ = c.symbol-comma.ensures.same in
    let j₆ = c.variable-x.ensures.same in
    let j₇ = c.symbol-close.ensures.same in
    let j₈ = c.keyword-word.ensures.same in
    (omega (arith, c.decreases), inner_ready c.requires p.below.long p.kept.long (omega arith) (omega arith) (omega arith))

pub each_of-overflow_add-first : goal.each_of-overflow_add-first
each_of-overflow_add-first t c =
    let f = c.requires.free in omega arith

pub each_of-overflow_cast-first : goal.each_of-overflow_cast-first
each_of-overflow_cast-first t c =
    let f = c.requires.free in omega arith

pub each_of-overflow_cast-second : goal.each_of-overflow_cast-second
each_of-overflow_cast-second t c =
    omega (arith, c.keyword-word.ensures.same, c.symbol-close.ensures.same, c.variable-x.ensures.same, c.symbol-comma.ensures.same, c.expr-a.ensures.few)

pub each_of-store-requires : goal.each_of-store-requires
each_of-store-requires t c =
    let l = c.requires.ready.slots_long in
    let f = c.requires.free in
    let i = c.expr-a.ensures.kept.long in
    let j = c.expr-d.ensures.kept.long in
    (refl, omega arith)

pub each_of-returns : goal.each_of-returns
each_of-returns t c =
    each_parsed c.requires (goes_at c.enter.ensures c.callee-called.ensures) c.symbol-open.ensures c.expr-a.ensures c.symbol-comma.ensures
    c.variable-x.ensures
    c.symbol-close.ensures c.keyword-word.ensures c.expr-d.ensures c.store.ensures

-- EXPR
pub expr-returns-then-c-ne0 : goal.expr-returns-then-c-ne0
expr-returns-then-c-ne0 t c =
    parsed_on c.requires.few c.if-c-ne0.true

pub expr-begins-requires : goal.expr-begins-requires
expr-begins-requires t c =
    c.next-t.ensures.shape

pub expr-returns-in_default : goal.expr-returns-in_default
expr-returns-in_default t c =
    rw c.fault.ensures (expr_none c.next-t.ensures c.if-c-ne0.false c.requires.few (sym c.in_default.is ∙ c.begins.ensures))

pub expr-returns-then-c-eq200 : goal.expr-returns-then-c-eq200
expr-returns-then-c-eq200 t c =
    rw c.fault-then-c-eq200.ensures (expr_full (record {
      is_next = c.next-t.ensures;
      coded = c.in-Some.ensures;
    }) c.if-c-ne0.false c.if-c-eq200.true)

pub expr-shaped-requires : goal.expr-shaped-requires
expr-shaped-requires t c =
    let f = c.requires.few in
    let q = c.if-c-eq200.false in (
      omega (arith, c.decreases),
      (
        record { ready = c.requires; free = omega arith; clear = c.if-c-ne0.false },
        record { is_next = c.next-t.ensures; coded = c.in-Some.ensures },
      ),
    )

pub expr-returns : goal.expr-returns
expr-returns t c =
    let f = c.requires.few in
    let q = c.if-c-eq200.false in
    expr_shaped (record { is_next = c.next-t.ensures; coded = c.in-Some.ensures }) c.if-c-ne0.false (omega arith) c.shaped.ensures

-- FRONT
pub front-enter-requires : goal.front-enter-requires
front-enter-requires t c =
    c.requires.free

pub front-expr-a-requires : goal.front-expr-a-requires
front-expr-a-requires t c =
    let i = count-entered c.args.c c.enter.ensures in
    let f = c.requires.free in
    (omega (arith, c.decreases), inner_ready c.requires refl refl (omega arith) (omega arith) (omega arith))

pub front-back-b-requires : goal.front-back-b-requires
front-back-b-requires t c =
    let i = count-entered c.args.c c.enter.ensures in
    let f = c.requires.free in
    let p = c.expr-a.ensures in
    let j = p.later in
    (omega (arith, c.decreases), inner_ready c.requires p.below.long p.kept.long (omega arith) p.few (omega arith))

pub front-overflow_add-first : goal.front-overflow_add-first
front-overflow_add-first t c =
    let f = c.requires.free in omega arith

pub front-overflow_cast-first : goal.front-overflow_cast-first
front-overflow_cast-first t c =
    let f = c.requires.free in omega arith

pub front-overflow_cast-second : goal.front-overflow_cast-second
front-overflow_cast-second t c =
    let k = c.expr-a.ensures.few in omega arith

pub front-store-requires : goal.front-store-requires
front-store-requires t c =
    let l = c.requires.ready.slots_long in
    let f = c.requires.free in
    let i = c.expr-a.ensures.kept.long in
    let j = c.back-b.ensures.kept.long in
    (refl, omega arith)

pub front-returns : goal.front-returns
front-returns t c =
    front_parsed c.requires (parsed_at c.enter.ensures c.expr-a.ensures) c.back-b.ensures c.store.ensures

-- LET_IN
pub let_in-overflow_add-top : goal.let_in-overflow_add-top
let_in-overflow_add-top t c =
    let l = c.requires.ready.low in let f = c.requires.free in omega arith

pub let_in-enter-requires : goal.let_in-enter-requires
let_in-enter-requires t c =
    c.requires.free

pub let_in-two-bound-requires : goal.let_in-two-bound-requires
let_in-two-bound-requires t c =
    let l = c.requires.ready.low in
    let f = c.requires.free in
    let m = c.requires.ready.names_long in
    (omega arith, refl)

pub let_in-offset_bounds-names-top : goal.let_in-offset_bounds-names-top
let_in-offset_bounds-names-top t c =
    let l = c.requires.ready.low in let f = c.requires.free in omega arith

pub let_in-bounds-names-top : goal.let_in-bounds-names-top
let_in-bounds-names-top t c =
    let l = c.requires.ready.low in
    let f = c.requires.free in
    let m = c.requires.ready.names_long in
    let k = c.two-bound.ensures.below.long in omega arith

pub let_in-overflow_add-y : goal.let_in-overflow_add-y
let_in-overflow_add-y t c =
    let l = c.requires.ready.low in let f = c.requires.free in omega arith

pub let_in-offset_bounds-names-top-2 : goal.let_in-offset_bounds-names-top-2
let_in-offset_bounds-names-top-2 t c =
    let l = c.requires.ready.low in let f = c.requires.free in omega arith

pub let_in-bounds-names-top-2 : goal.let_in-bounds-names-top-2
let_in-bounds-names-top-2 t c =
    let l = c.requires.ready.low in
    let f = c.requires.free in
    let m = c.requires.ready.names_long in
    let k = c.two-bound.ensures.below.long in omega arith

pub let_in-expr-a-requires : goal.let_in-expr-a-requires
let_in-expr-a-requires t c =
    let i = count-entered c.args.c c.enter.ensures in
    let f = c.requires.free in
    let j₁ = c.symbol-open.ensures.same in
    let j₂ = c.two-bound.ensures.same_count in
    let j₃ = c.symbol-close.ensures.same in
    let j₄ = c.symbol-equals.ensures.same in
    (omega (arith, c.decreases), inner_ready c.requires c.two-bound.ensures.below.long refl (omega arith) (omega arith) (omega arith))

pub let_in-offset_bounds-names-top-3 : goal.let_in-offset_bounds-names-top-3
let_in-offset_bounds-names-top-3 t c =
    let l = c.requires.ready.low in let f = c.requires.free in omega arith

pub let_in-bounds-names-top-3 : goal.let_in-bounds-names-top-3
let_in-bounds-names-top-3 t c =
    let l = c.requires.ready.low in
    let f = c.requires.free in
    let m = c.requires.ready.names_long in
    let k = c.two-bound.ensures.below.long in let k₂ = c.expr-a.ensures.below.long in omega arith

pub let_in-overflow_add-names : goal.let_in-overflow_add-names
let_in-overflow_add-names t c =
    let l = c.requires.ready.low in let f = c.requires.free in omega arith

pub let_in-offset_bounds-names-top-4 : goal.let_in-offset_bounds-names-top-4
let_in-offset_bounds-names-top-4 t c =
    let l = c.requires.ready.low in let f = c.requires.free in omega arith

pub let_in-bounds-names-top-4 : goal.let_in-bounds-names-top-4
let_in-bounds-names-top-4 t c =
    let l = c.requires.ready.low in
    let f = c.requires.free in
    let m = c.requires.ready.names_long in
    let k = c.two-bound.ensures.below.long in let k₂ = c.expr-a.ensures.below.long in rw length-set (omega arith)

pub let_in-wider-requires : goal.let_in-wider-requires
let_in-wider-requires t c =
    let l = c.requires.ready.low in let f = c.requires.free in omega arith

pub let_in-expr-b-requires : goal.let_in-expr-b-requires
let_in-expr-b-requires t c =
    let i = count-entered c.args.c c.enter.ensures in
    let f = c.requires.free in
    let j₁ = c.symbol-open.ensures.same in
    let j₂ = c.two-bound.ensures.same_count in
    let j₃ = c.symbol-close.ensures.same in
    let j₄ = c.symbol-equals.ensures.same in
    let p = c.expr-a.ensures in
    let j₅ = p.later in
    let j₆ = p.few in
    let j₇ = c.keyword-within.ensures.same in (
      omega (arith, c.decreases),
      inner_ready c.requires (simp length-set (p.below.long ∙ c.two-bound.ensures.below.long)) p.kept.long (omega arith)
          (omega arith) (omega (arith, wider_top c.args.sc c.wider.ensures)),
    )

pub let_in-overflow_add-first : goal.let_in-overflow_add-first
let_in-overflow_add-first t c =
    let f = c.requires.free in omega arith

pub let_in-overflow_cast-first : goal.let_in-overflow_cast-first
let_in-overflow_cast-first t c =
    let f = c.requires.free in omega arith

pub let_in-overflow_cast-second : goal.let_in-overflow_cast-second
let_in-overflow_cast-second t c =
    let i = c.keyword-within.ensures.same in let j = c.expr-a.ensures.few in omega arith

pub let_in-store-requires : goal.let_in-store-requires
let_in-store-requires t c =
    let l = c.requires.ready.slots_long in
    let f = c.requires.free in
    let i = c.expr-a.ensures.kept.long in
    let j = c.expr-b.ensures.kept.long in
    (refl, omega arith)

pub let_in-returns : goal.let_in-returns
let_in-returns t c =
    let_parsed c.requires (goes_at c.enter.ensures c.symbol-open.ensures) c.two-bound.ensures c.symbol-close.ensures c.symbol-equals.ensures c.expr-a.ensures
    c.keyword-within.ensures refl (parsed_in c.wider.ensures c.expr-b.ensures) c.store.ensures

-- LIST
pub list-bare-requires : goal.list-bare-requires
list-bare-requires t c =
    let i = count-behind c.args.c c.read.ensures in
    let f = c.requires.free in
    (omega arith, c.requires.ready.slots_long)

pub list-returns-then-is : goal.list-returns-then-is
list-returns-then-is t c =
    list_empty c.requires c.next-t.ensures (c.is.ensures.0 c.if-is.true) c.read.ensures c.bare.ensures.slots_after c.bare.ensures.value

pub list-front-requires : goal.list-front-requires
list-front-requires t c =
    (omega (arith, c.decreases), c.requires)

pub list-returns : goal.list-returns
list-returns t c =
    list_front c.next-t.ensures (fails c.is.ensures c.if-is.false) c.front.ensures

-- LIST_CASE
-- WHAT IS KNOWN THERE: of what is lent, and that no node is met but below the four expressions
list_case-sizes : (t : ℕ) (e : list_case-Start t) → (e.args.n < 200) × (e.args.sc.base + e.args.sc.many ≤ 414) × (length e.args.names.now ≡ 416)
list_case-sizes t e =
    let w = e.requires.0 in
    let l = w.low in
    let f = w.few in
    let a = w.after in
    (omega arith, omega arith, w.names_long)

list_case-after : (t : ℕ) (g : list_case-After-symbol-none t) → g.args.n < g.symbol-none.result.count
list_case-after t g = let a = g.requires.0.after in let i = g.symbol-none.ensures.same in omega arith

list_case-same₂ : (t : ℕ) (q : list_case-After-symbol-close t) → q.symbol-close.result.count ≡ q.branch-a.result.count
list_case-same₂ t q =
    q.symbol-close.ensures.same ∙ q.two-bound.ensures.same_count ∙ q.symbol-open.ensures.same ∙ q.test-t.ensures.same

list_case-wide : (t : ℕ) (c : list_case-After-wider t) → c.wider.result.base + c.wider.result.many
    ≡ c.args.sc.base + c.args.sc.many + 2
list_case-wide t c = wider_top c.args.sc c.wider.ensures

list_case-same₃ : (t : ℕ) (m : list_case-After-again-member t) → m.again-member.result.count ≡ m.branch-b.result.count
list_case-same₃ t m = m.again-member.ensures.same ∙ m.keyword-word.ensures.same ∙ m.test-u.ensures.same

list_case-same₄ : (t : ℕ) (r : list_case-After-again-rest t) → r.again-rest.result.count ≡ r.default-d.result.count
list_case-same₄ t r = r.again-rest.ensures.same ∙ r.symbol-comma.ensures.same

pub list_case-overflow_add-top : goal.list_case-overflow_add-top
list_case-overflow_add-top t c = let z = (list_case-sizes t (goal.at.list_case-overflow_add-top t c).Start).1 in omega arith

pub list_case-branch-a-requires : goal.list_case-branch-a-requires
list_case-branch-a-requires t c =
    let f = c.requires.0.few in
    let j = c.symbol-none.ensures.same in (
      omega (arith, c.decreases),
      cased_ready c.requires.0 refl refl (list_case-after t (goal.at.list_case-branch-a-requires t c).After-symbol-none)
          (omega arith) (omega arith),
    )

pub list_case-two-bound-requires : goal.list_case-two-bound-requires
list_case-two-bound-requires t c =
    let z = list_case-sizes t (goal.at.list_case-two-bound-requires t c).Start in
    let z₁ = z.1 in
    let z₂ = z.2 in
    let i = c.branch-a.ensures.below.long in
    (omega arith, refl)

pub list_case-offset_bounds-names-top : goal.list_case-offset_bounds-names-top
list_case-offset_bounds-names-top t c = let z = (list_case-sizes t (goal.at.list_case-offset_bounds-names-top t c).Start).1 in omega arith

pub list_case-bounds-names-top : goal.list_case-bounds-names-top
list_case-bounds-names-top t c =
    let z = list_case-sizes t (goal.at.list_case-bounds-names-top t c).Start in
    let z₁ = z.1 in
    let z₂ = z.2 in
    let i = c.branch-a.ensures.below.long in let j = c.two-bound.ensures.below.long in omega arith

pub list_case-overflow_add-y : goal.list_case-overflow_add-y
list_case-overflow_add-y t c = let z = (list_case-sizes t (goal.at.list_case-overflow_add-y t c).Start).1 in omega arith

pub list_case-offset_bounds-names-top-2 : goal.list_case-offset_bounds-names-top-2
list_case-offset_bounds-names-top-2 t c = let z = (list_case-sizes t (goal.at.list_case-offset_bounds-names-top-2 t c).Start).1 in omega arith

pub list_case-bounds-names-top-2 : goal.list_case-bounds-names-top-2
list_case-bounds-names-top-2 t c =
    let z = list_case-sizes t (goal.at.list_case-bounds-names-top-2 t c).Start in
    let z₁ = z.1 in
    let z₂ = z.2 in
    let i = c.branch-a.ensures.below.long in let j = c.two-bound.ensures.below.long in omega arith

pub list_case-wider-requires : goal.list_case-wider-requires
list_case-wider-requires t c = let z = (list_case-sizes t (goal.at.list_case-wider-requires t c).Start).1 in omega arith

pub list_case-branch-b-requires : goal.list_case-branch-b-requires
list_case-branch-b-requires t c =
    let j = c.symbol-none.ensures.same in
    let p = c.branch-a.ensures in
    let l = p.later in
    let f = p.few in
    let i = list_case-same₂ t (goal.at.list_case-branch-b-requires t c).After-symbol-close in
    let a = list_case-after t (goal.at.list_case-branch-b-requires t c).After-symbol-none in
    let w = list_case-wide t (goal.at.list_case-branch-b-requires t c).After-wider in (
      omega (arith, c.decreases),
      cased_ready c.requires.0 (c.two-bound.ensures.below.long ∙ p.below.long) p.kept.long (omega arith) (omega arith) (omega arith),
    )

pub list_case-default-d-requires : goal.list_case-default-d-requires
list_case-default-d-requires t c =
    let j = c.symbol-none.ensures.same in
    let p = c.branch-a.ensures in
    let l = p.later in
    let f = p.few in
    let i = list_case-same₂ t (goal.at.list_case-default-d-requires t c).After-symbol-close in
    let a = list_case-after t (goal.at.list_case-default-d-requires t c).After-symbol-none in
    let p₂ = c.branch-b.ensures in
    let l₂ = p₂.later in
    let f₂ = p₂.few in
    let i₂ = list_case-same₃ t (goal.at.list_case-default-d-requires t c).After-again-member in (
      omega (arith, c.decreases),
      cased_ready c.requires.0 (p₂.below.long ∙ c.two-bound.ensures.below.long ∙ p.below.long) (p₂.kept.long ∙ p.kept.long)
          (omega arith) (omega arith) (omega arith),
    )

pub list_case-default-e-requires : goal.list_case-default-e-requires
list_case-default-e-requires t c =
    let j = c.symbol-none.ensures.same in
    let p = c.branch-a.ensures in
    let l = p.later in
    let f = p.few in
    let i = list_case-same₂ t (goal.at.list_case-default-e-requires t c).After-symbol-close in
    let a = list_case-after t (goal.at.list_case-default-e-requires t c).After-symbol-none in
    let p₂ = c.branch-b.ensures in
    let l₂ = p₂.later in
    let f₂ = p₂.few in
    let i₂ = list_case-same₃ t (goal.at.list_case-default-e-requires t c).After-again-member in
    let p₃ = c.default-d.ensures in
    let l₃ = p₃.later in
    let f₃ = p₃.few in
    let i₃ = list_case-same₄ t (goal.at.list_case-default-e-requires t c).After-again-rest in (
      omega (arith, c.decreases),
      cased_ready c.requires.0 (p₃.below.long ∙ p₂.below.long ∙ c.two-bound.ensures.below.long ∙ p.below.long)
          (p₃.kept.long ∙ p₂.kept.long ∙ p.kept.long) (omega arith) (omega arith) (omega arith),
    )

pub list_case-overflow_add-subject : goal.list_case-overflow_add-subject
list_case-overflow_add-subject t c = let z = (list_case-sizes t (goal.at.list_case-overflow_add-subject t c).Start).0 in omega arith

pub list_case-overflow_cast-subject : goal.list_case-overflow_cast-subject
list_case-overflow_cast-subject t c = let z = (list_case-sizes t (goal.at.list_case-overflow_cast-subject t c).Start).0 in omega arith

pub list_case-overflow_cast-first : goal.list_case-overflow_cast-first
list_case-overflow_cast-first t c = let f = c.requires.0.few in omega arith

pub list_case-overflow_cast-second : goal.list_case-overflow_cast-second
list_case-overflow_cast-second t c = omega (arith, list_case-same₂ t (goal.at.list_case-overflow_cast-second t c).After-symbol-close, c.branch-a.ensures.few)

pub list_case-overflow_cast-test_a : goal.list_case-overflow_cast-test_a
list_case-overflow_cast-test_a t c = omega arith

pub list_case-overflow_cast-test_b : goal.list_case-overflow_cast-test_b
list_case-overflow_cast-test_b t c = omega arith

pub list_case-overflow_cast-one : goal.list_case-overflow_cast-one
list_case-overflow_cast-one t c = omega (arith, list_case-same₃ t (goal.at.list_case-overflow_cast-one t c).After-again-member, c.branch-b.ensures.few)

pub list_case-overflow_cast-others : goal.list_case-overflow_cast-others
list_case-overflow_cast-others t c = omega (arith, list_case-same₄ t (goal.at.list_case-overflow_cast-others t c).After-again-rest, c.default-d.ensures.few)

pub list_case-store-requires : goal.list_case-store-requires
list_case-store-requires t c =
    let l = c.requires.0.slots_long in
    let s = (list_case-sizes t (goal.at.list_case-store-requires t c).Start).0 in
    let h = (c.default-e.ensures.kept.long ∙ c.default-d.ensures.kept.long
    ∙ c.branch-b.ensures.kept.long ∙ c.branch-a.ensures.kept.long ∙ l) in
    (refl, omega arith)

pub list_case-returns : goal.list_case-returns
list_case-returns t c =
    lists_parsed c.requires.0 c.requires.1 c.symbol-none.ensures c.branch-a.ensures c.test-t.ensures c.symbol-open.ensures c.two-bound.ensures
    c.symbol-close.ensures (parsed_in c.wider.ensures c.branch-b.ensures) c.test-u.ensures c.keyword-word.ensures c.again-member.ensures
    c.default-d.ensures c.symbol-comma.ensures c.again-rest.ensures c.default-e.ensures c.keyword-end.ensures c.store.ensures

-- PAIR
pub pair-enter-requires : goal.pair-enter-requires
pair-enter-requires t c =
    c.requires.free

pub pair-expr-a-requires : goal.pair-expr-a-requires
pair-expr-a-requires t c =
    let w = c.requires.ready in
    let f = c.requires.free in
    let i = count-entered c.args.c c.enter.ensures in
    (omega (arith, c.decreases), inner_ready c.requires refl refl (omega arith) (omega arith) (omega arith))

pub pair-expr-b-requires : goal.pair-expr-b-requires
pair-expr-b-requires t c =
    let w = c.requires.ready in
    let f = c.requires.free in
    let p = parsed_at c.enter.ensures c.expr-a.ensures in
    let i = c.symbol-comma.ensures.same in
    let j = p.later in (
      omega (arith, c.decreases),
      record {
        table_few = w.table_few;
        names_long = p.below.long ∙ w.names_long;
        slots_long = p.kept.long ∙ w.slots_long;
        few = let k = p.few in
            omega arith;
        low = let l = w.low in omega arith;
      },
    )

pub pair-overflow_add-first : goal.pair-overflow_add-first
pair-overflow_add-first t c =
    let f = c.requires.free in omega arith

pub pair-overflow_cast-first : goal.pair-overflow_cast-first
pair-overflow_cast-first t c =
    let f = c.requires.free in omega arith

pub pair-overflow_cast-second : goal.pair-overflow_cast-second
pair-overflow_cast-second t c =
    let i = c.symbol-comma.ensures.same in let k = c.expr-a.ensures.few in omega arith

pub pair-store-requires : goal.pair-store-requires
pair-store-requires t c =
    let w = c.requires.ready in
    let f = c.requires.free in
    let l = w.slots_long in
    let i = c.expr-a.ensures.kept.long in
    let j = c.expr-b.ensures.kept.long in
    (refl, omega arith)

pub pair-returns : goal.pair-returns
pair-returns t c =
    pair_parsed c.requires (parsed_at c.enter.ensures c.expr-a.ensures) c.symbol-comma.ensures c.expr-b.ensures c.symbol-end.ensures
    c.store.ensures

-- SHAPED
pub shaped-let_in-requires : goal.shaped-let_in-requires
shaped-let_in-requires t c =
    let w = c.requires.0 in
    let i = count-behind c.args.c c.read-behind.ensures in
    (omega (arith, c.decreases), ready_inner c.args.c w.ready w.free c.read-behind.ensures)

pub shaped-returns-in-Let : goal.shaped-returns-in-Let
shaped-returns-in-Let t c =
    shaped_let c.requires.0.clear (rw c.in-Let.is at c.requires.1) c.read-behind.ensures c.let_in.ensures

pub shaped-case_of-requires : goal.shaped-case_of-requires
shaped-case_of-requires t c =
    let w = c.requires.0 in
    let i = count-behind c.args.c c.read-behind.ensures in
    (omega (arith, c.decreases), ready_inner c.args.c w.ready w.free c.read-behind.ensures)

pub shaped-returns-in-Case : goal.shaped-returns-in-Case
shaped-returns-in-Case t c =
    shaped_case c.requires.0.clear (rw c.in-Case.is at c.requires.1) c.read-behind.ensures c.case_of.ensures

pub shaped-each_of-requires : goal.shaped-each_of-requires
shaped-each_of-requires t c =
    let w = c.requires.0 in
    let i = count-behind c.args.c c.read-behind.ensures in
    (omega (arith, c.decreases), ready_inner c.args.c w.ready w.free c.read-behind.ensures)

pub shaped-returns-in-Each : goal.shaped-returns-in-Each
shaped-returns-in-Each t c =
    shaped_each c.requires.0.clear (rw c.in-Each.is at c.requires.1) c.read-behind.ensures c.each_of.ensures

pub shaped-pair-requires : goal.shaped-pair-requires
shaped-pair-requires t c =
    let w = c.requires.0 in
    let i = count-behind c.args.c c.read-behind.ensures in
    (omega (arith, c.decreases), ready_inner c.args.c w.ready w.free c.read-behind.ensures)

pub shaped-returns-in-Pair : goal.shaped-returns-in-Pair
shaped-returns-in-Pair t c =
    shaped_pair c.requires.0.clear (rw c.in-Pair.is at c.requires.1) c.read-behind.ensures c.pair.ensures

pub shaped-list-requires : goal.shaped-list-requires
shaped-list-requires t c =
    let w = c.requires.0 in
    let i = count-behind c.args.c c.read-behind.ensures in
    (omega (arith, c.decreases), ready_inner c.args.c w.ready w.free c.read-behind.ensures)

pub shaped-returns-in-List : goal.shaped-returns-in-List
shaped-returns-in-List t c =
    shaped_list c.requires.0.clear (rw c.in-List.is at c.requires.1) c.read-behind.ensures c.list.ensures

pub shaped-amount-requires : goal.shaped-amount-requires
shaped-amount-requires t c = (omega (arith, c.decreases), (c.requires.0, rw c.in-Number.is at c.requires.1))

pub shaped-returns-in-False : goal.shaped-returns-in-False
shaped-returns-in-False t c =
    let w = c.requires.0 in
    leaf_false w.clear (rw c.in-False.is at c.requires.1) w.free w.ready.slots_long c.read-behind.ensures c.bare.ensures.slots_after c.bare.ensures.value

pub shaped-returns-in-True : goal.shaped-returns-in-True
shaped-returns-in-True t c =
    let w = c.requires.0 in
    leaf_true w.clear (rw c.in-True.is at c.requires.1) w.free w.ready.slots_long c.read-behind.ensures c.bare-in-True.ensures.slots_after
    c.bare-in-True.ensures.value

pub shaped-returns-in-Hash : goal.shaped-returns-in-Hash
shaped-returns-in-Hash t c =
    let w = c.requires.0 in
    leaf_hash w.clear (rw c.in-Hash.is at c.requires.1) w.free c.var.ensures

pub shaped-name-requires : goal.shaped-name-requires
shaped-name-requires t c = (c.requires.0, rw c.in-Name.is at c.requires.1)

-- TRUTH_CASE
pub truth_case-branch-a-requires : goal.truth_case-branch-a-requires
truth_case-branch-a-requires t c =
    let w = c.requires.0 in
    let f = w.few in
    let a = w.after in
    (omega (arith, c.decreases), cased_ready w refl refl (omega arith) (omega arith) (omega arith))

pub truth_case-branch-b-requires : goal.truth_case-branch-b-requires
truth_case-branch-b-requires t c =
    let w = c.requires.0 in
    let a = w.after in
    let p = c.branch-a.ensures in
    let j₁ = p.later in
    let j₂ = p.few in
    let j₃ = c.test-t.ensures.same in
    let j₄ = c.keyword-word.ensures.same in
    (omega (arith, c.decreases), cased_ready w p.below.long p.kept.long (omega arith) (omega arith) (omega arith))

pub truth_case-overflow_add-subject : goal.truth_case-overflow_add-subject
truth_case-overflow_add-subject t c =
    let f = c.requires.0.few in let a = c.requires.0.after in omega arith

pub truth_case-overflow_cast-subject : goal.truth_case-overflow_cast-subject
truth_case-overflow_cast-subject t c =
    let f = c.requires.0.few in let a = c.requires.0.after in omega arith

pub truth_case-overflow_cast-first : goal.truth_case-overflow_cast-first
truth_case-overflow_cast-first t c =
    let f = c.requires.0.few in omega arith

pub truth_case-overflow_cast-second : goal.truth_case-overflow_cast-second
truth_case-overflow_cast-second t c =
    omega (arith, c.keyword-word.ensures.same, c.test-t.ensures.same, c.branch-a.ensures.few)

pub truth_case-store-requires : goal.truth_case-store-requires
truth_case-store-requires t c =
    let w = c.requires.0 in
    let l = w.slots_long in
    let f = w.few in
    let a = w.after in
    let i = c.branch-a.ensures.kept.long in
    let j = c.branch-b.ensures.kept.long in
    (refl, omega arith)

pub truth_case-returns : goal.truth_case-returns
truth_case-returns t c =
    truth_parsed c.requires.0 c.requires.1 c.branch-a.ensures c.test-t.ensures c.keyword-word.ensures c.branch-b.ensures c.test-u.ensures
    c.keyword-end.ensures c.store.ensures

use native.Mathlib.Omega.{arith}
use Rattle.printing.specs.Telling.{kids, next_ready, add_tells, body_tells, branch_tells, defaults_tells, each_tells, next_trailing, front_tells}
use Rattle.printing.specs.Telling.{standing_as, list_tells, names, trailing_ready, end_tells, member_tells, other_tells, pair_tells, var_tells}
use Rattle.printing.specs.Telling.{false_tells, true_tells, empty_tells, number_tells, call_tells, wide_tells, split_tells, truth_tells}
use Rattle.printing.specs.Saying.{ready_few, ready_bounded, Standing}
use Prim.Native.Nat.{ℕ}
use mathlib.Core.Path.{◌≡◌, sym, ◌∙◌, ap}
use lib.ListN.{get_or}
use Rattle.node.specs.declared.Node.TheVariants.{Front}
use Rattle.node.specs.Decoding.{node_at}
use Rattle.printing.proofs.Tags.{not-front, not_pair, not-list_case, not-truth_case, not-split, not-add, not-each, tail_other}
use Rattle.node.specs.Kinds.{row}
use Rattle.printing.proofs.nodes.Source.+say.Goals as goal
use Rattle.printing.proofs.nodes.Source.+say.Goals.{list_rest-In-Front}
use Rattle.printing.proofs.nodes.Source.+say.Goals.{say-After-record_at-node}

-- ADD
pub add-returns-in_default : goal.add-returns-in_default
add-returns-in_default t c = absurd (not-add c.args.node c.in_default.not-Add c.requires.of_kind)

pub add-say-requires : goal.add-say-requires
add-say-requires t c =
    let q = c.requires in
    let g = (kids q c.in-Add.is).0 in
    (omega (arith, c.decreases, g.above, g.inside, q.ready.known.ranges.few_nodes), next_ready q.ready g (omega arith) (omega arith))

pub add-returns : goal.add-returns
add-returns t c =
    add_tells c.requires c.in-Add.is (rw c.from.ensures at c.decimal-end.ensures) c.bytes-end.ensures c.say.ensures

-- BODY
pub body-bounds-self-n : goal.body-bounds-self-n
body-bounds-self-n t c = omega (arith, ready_few c.requires)

pub body-say-requires : goal.body-say-requires
body-say-requires t c = (omega (arith, c.decreases), c.requires)

pub body-returns : goal.body-returns
body-returns t c =
    body_tells c.or_line-end.ensures c.say.ensures

-- BRANCH
pub branch-body-end-requires : goal.branch-body-end-requires
branch-body-end-requires t c = (omega (arith, c.decreases), c.requires)

pub branch-returns : goal.branch-returns
branch-returns t c =
    branch_tells c.body-end.ensures c.test.ensures

-- DEFAULTS
pub defaults-returns-in_default : goal.defaults-returns-in_default
defaults-returns-in_default t c = absurd (not-list_case c.args.node c.in_default.not-ListCase c.requires.of_kind)

pub defaults-body-end-requires : goal.defaults-body-end-requires
defaults-body-end-requires t c =
    let q = c.requires in
    let g = (kids q c.in-ListCase.is).1.1.1.1.1.0 in
    (omega (arith, c.decreases, g.above, g.inside, q.ready.known.ranges.few_nodes), next_ready q.ready g (omega arith) (omega arith))

pub defaults-body-end-requires-2 : goal.defaults-body-end-requires-2
defaults-body-end-requires-2 t c =
    let q = c.requires in
    let g = (kids q c.in-ListCase.is).1.1.1.1.1.1.0 in
    (omega (arith, c.decreases, g.above, g.inside, q.ready.known.ranges.few_nodes), next_ready q.ready g (omega arith) (omega arith))

pub defaults-returns : goal.defaults-returns
defaults-returns t c =
    defaults_tells c.requires c.in-ListCase.is c.first_default-end.ensures c.body-end.ensures c.rest_default-end.ensures
    c.body-end-2.ensures c.on_line.ensures

-- EACH
pub each-returns-in_default : goal.each-returns-in_default
each-returns-in_default t c = absurd (not-each c.args.node c.in_default.not-Each c.requires.of_kind)

pub each-say-end-requires : goal.each-say-end-requires
each-say-end-requires t c =
    let q = c.requires in
    let g = (kids q c.in-Each.is).0 in
    (omega (arith, c.decreases, g.above, g.inside, q.ready.known.ranges.few_nodes), next_ready q.ready g (omega arith) (omega arith))

pub each-say-requires : goal.each-say-requires
each-say-requires t c =
    let q = c.requires in
    let g = (kids q c.in-Each.is).1.1.1.0 in
    (omega (arith, c.decreases, g.above, g.inside, q.ready.known.ranges.few_nodes), next_ready q.ready g (omega arith) (omega arith))

pub each-returns : goal.each-returns
each-returns t c =
    each_tells c.requires c.in-Each.is c.each_open-end.ensures c.say-end.ensures c.each_default-end.ensures c.say.ensures

-- FRONT
pub front-returns-in_default : goal.front-returns-in_default
front-returns-in_default t c = absurd (not-front c.args.node c.in_default.not-Front c.requires.of_kind)

pub front-say-end-requires : goal.front-say-end-requires
front-say-end-requires t c =
    let q = c.requires in
    let g = (kids q c.in-Front.is).0 in
    (omega (arith, c.decreases, g.above, g.inside, q.ready.known.ranges.few_nodes), next_ready q.ready g (omega arith) (omega arith))

pub front-list_rest-requires : goal.front-list_rest-requires
front-list_rest-requires t c =
    let q = c.requires in
    let g = (kids q c.in-Front.is).1.0 in
    (omega (arith, c.decreases, g.above, g.inside, q.ready.known.ranges.few_nodes), next_trailing q.ready g)

pub front-returns : goal.front-returns
front-returns t c =
    front_tells c.requires c.in-Front.is c.open_mark-end.ensures c.say-end.ensures c.list_rest.ensures

-- LIST_CASE
pub list_case-returns-in_default : goal.list_case-returns-in_default
list_case-returns-in_default t c = absurd (not-list_case c.args.node c.in_default.not-ListCase c.requires.of_kind)

pub list_case-say-end-requires : goal.list_case-say-end-requires
list_case-say-end-requires t c =
    let q = c.requires in
    let g = (kids q c.in-ListCase.is).0 in
    (omega (arith, c.decreases, g.above, g.inside, q.ready.known.ranges.few_nodes), next_ready q.ready g (omega arith) (omega arith))

pub list_case-branch-end-requires : goal.list_case-branch-end-requires
list_case-branch-end-requires t c =
    let q = c.requires in
    let g = (kids q c.in-ListCase.is).1.0 in
    (omega (arith, c.decreases, g.above, g.inside, q.ready.known.ranges.few_nodes), next_ready q.ready g (omega arith) (omega arith))

pub list_case-branch-end-requires-2 : goal.list_case-branch-end-requires-2
list_case-branch-end-requires-2 t c =
    let q = c.requires in
    let g = (kids q c.in-ListCase.is).1.1.1.0 in
    (omega (arith, c.decreases, g.above, g.inside, q.ready.known.ranges.few_nodes), next_ready q.ready g (omega arith) (omega arith))

pub list_case-defaults-requires : goal.list_case-defaults-requires
list_case-defaults-requires t c =
    let q = c.requires in
    (omega (arith, c.decreases, ready_few q.ready), standing_as q c.in-ListCase.is)

pub list_case-returns : goal.list_case-returns
list_case-returns t c =
    list_tells c.requires c.in-ListCase.is c.bytes-end.ensures c.say-end.ensures c.empty_arrow-end.ensures c.branch-end.ensures
    c.front_arrow-end.ensures c.branch-end-2.ensures c.defaults.ensures

-- LIST_REST
-- WHAT IS KNOWN THERE: the node of the record, where it is a front
list_rest-is_front : (t : ℕ) (c : list_rest-In-Front t) →
    node_at c.args.self.now.sheet.now (get_or c.args.self.now.table c.args.n 0) ≡ Front c.in-Front.first c.in-Front.rest
list_rest-is_front t c = sym c.record_at-node.ensures ∙ c.in-Front.is

pub list_rest-say-end-requires : goal.list_rest-say-end-requires
list_rest-say-end-requires t c =
    let q = c.requires.ready in
    let g = (names q (list_rest-is_front t (goal.at.list_rest-say-end-requires t c).In-Front)).0 in
    (omega (arith, c.decreases, g.above, g.inside, q.known.ranges.few_nodes), next_ready q g (omega arith) (omega arith))

pub list_rest-list_rest-requires : goal.list_rest-list_rest-requires
list_rest-list_rest-requires t c =
    let q = c.requires.ready in
    let g = (names q (list_rest-is_front t (goal.at.list_rest-list_rest-requires t c).In-Front)).1.0 in
    (omega (arith, c.decreases, g.above, g.inside, q.known.ranges.few_nodes), next_trailing q g)

pub list_rest-say-end-requires-in_default : goal.list_rest-say-end-requires-in_default
list_rest-say-end-requires-in_default t c =
    (omega (arith, c.decreases), trailing_ready c.requires (omega arith) (omega arith))

pub list_rest-returns-in-Empty : goal.list_rest-returns-in-Empty
list_rest-returns-in-Empty t c =
    end_tells c.args.flat (sym c.record_at-node.ensures ∙ c.in-Empty.is) c.close_mark.ensures

pub list_rest-returns-in-Front : goal.list_rest-returns-in-Front
list_rest-returns-in-Front t c =
    member_tells c.args.flat (list_rest-is_front t (goal.at.list_rest-returns-in-Front t c).In-Front) c.comma-end.ensures c.say-end.ensures c.list_rest.ensures

pub list_rest-returns-in_default : goal.list_rest-returns-in_default
list_rest-returns-in_default t c =
    other_tells c.args.flat (sym c.record_at-node.ensures) (tail_other c.record_at-node.result c.in_default.not-Empty c.in_default.not-Front)
    c.or_line-end.ensures c.bytes-end.ensures c.say-end-in_default.ensures c.close_mark-in_default.ensures

-- PAIR
pub pair-returns-in_default : goal.pair-returns-in_default
pair-returns-in_default t c = absurd (not_pair c.args.node c.in_default.not-Pair c.requires.of_kind)

pub pair-say-end-requires : goal.pair-say-end-requires
pair-say-end-requires t c =
    let q = c.requires in
    let g = (kids q c.in-Pair.is).0 in
    (omega (arith, c.decreases, g.above, g.inside, q.ready.known.ranges.few_nodes), next_ready q.ready g (omega arith) (omega arith))

pub pair-say-end-requires-2 : goal.pair-say-end-requires-2
pair-say-end-requires-2 t c =
    let q = c.requires in
    let g = (kids q c.in-Pair.is).1.0 in
    (omega (arith, c.decreases, g.above, g.inside, q.ready.known.ranges.few_nodes), next_ready q.ready g (omega arith) (omega arith))

pub pair-returns : goal.pair-returns
pair-returns t c =
    pair_tells c.requires c.in-Pair.is c.open_mark-end.ensures c.say-end.ensures c.comma-end.ensures c.say-end-2.ensures
    c.close_mark.ensures

-- SAY
-- WHAT IS KNOWN THERE: the node is one of its kind
say-standing : (t : ℕ) (c : say-After-record_at-node t) {kind : ℕ} → (row c.record_at-node.result).kind ≡ kind →
    Standing c.args.self.now c.args.n c.args.scope c.record_at-node.result kind
say-standing t c e = record { ready = c.requires; is = sym c.record_at-node.ensures; of_kind = e }

pub say-front-requires : goal.say-front-requires
say-front-requires t c = (
  omega (arith, c.decreases, ready_few c.requires),
  say-standing t (goal.at.say-front-requires t c).After-record_at-node
      (ap (λ x. (row x).kind) c.in-Front.is),
)

pub say-pair-requires : goal.say-pair-requires
say-pair-requires t c = (
  omega (arith, c.decreases, ready_few c.requires),
  say-standing t (goal.at.say-pair-requires t c).After-record_at-node
      (ap (λ x. (row x).kind) c.in-Pair.is),
)

pub say-list_case-requires : goal.say-list_case-requires
say-list_case-requires t c = (
  omega (arith, c.decreases, ready_few c.requires),
  say-standing t (goal.at.say-list_case-requires t c).After-record_at-node
      (ap (λ x. (row x).kind) c.in-ListCase.is),
)

pub say-truth_case-requires : goal.say-truth_case-requires
say-truth_case-requires t c = (
  omega (arith, c.decreases, ready_few c.requires),
  say-standing t (goal.at.say-truth_case-requires t c).After-record_at-node
      (ap (λ x. (row x).kind) c.in-TruthCase.is),
)

pub say-split-requires : goal.say-split-requires
say-split-requires t c = (
  omega (arith, c.decreases, ready_few c.requires),
  say-standing t (goal.at.say-split-requires t c).After-record_at-node
      (ap (λ x. (row x).kind) c.in-Split.is),
)

pub say-add-requires : goal.say-add-requires
say-add-requires t c =
    (omega (arith, c.decreases, ready_few c.requires), say-standing t (goal.at.say-add-requires t c).After-record_at-node (ap (λ x. (row x).kind) c.in-Add.is))

pub say-each-requires : goal.say-each-requires
say-each-requires t c = (
  omega (arith, c.decreases, ready_few c.requires),
  say-standing t (goal.at.say-each-requires t c).After-record_at-node
      (ap (λ x. (row x).kind) c.in-Each.is),
)

pub say-returns-in-Var : goal.say-returns-in-Var
say-returns-in-Var t c =
    var_tells (sym c.record_at-node.ensures ∙ c.in-Var.is) c.variable.ensures

pub say-returns-in-False : goal.say-returns-in-False
say-returns-in-False t c =
    false_tells (sym c.record_at-node.ensures ∙ c.in-False.is) c.bytes.ensures

pub say-returns-in-True : goal.say-returns-in-True
say-returns-in-True t c =
    true_tells (sym c.record_at-node.ensures ∙ c.in-True.is) c.bytes-in-True.ensures

pub say-returns-in-Empty : goal.say-returns-in-Empty
say-returns-in-Empty t c =
    empty_tells (sym c.record_at-node.ensures ∙ c.in-Empty.is) c.bytes-in-Empty.ensures

pub say-returns-in-Number : goal.say-returns-in-Number
say-returns-in-Number t c =
    number_tells (sym c.record_at-node.ensures ∙ c.in-Number.is) (rw c.from.ensures at c.decimal.ensures)

pub say-returns-in-Front : goal.say-returns-in-Front
say-returns-in-Front t c = c.front.ensures

pub say-returns-in-Pair : goal.say-returns-in-Pair
say-returns-in-Pair t c = c.pair.ensures

pub say-returns-in-ListCase : goal.say-returns-in-ListCase
say-returns-in-ListCase t c = c.list_case.ensures

pub say-returns-in-TruthCase : goal.say-returns-in-TruthCase
say-returns-in-TruthCase t c = c.truth_case.ensures

pub say-returns-in-Split : goal.say-returns-in-Split
say-returns-in-Split t c = c.split.ensures

pub say-returns-in-Call : goal.say-returns-in-Call
say-returns-in-Call t c =
    call_tells (sym c.record_at-node.ensures ∙ c.in-Call.is) c.call.ensures

pub say-returns-in-Add : goal.say-returns-in-Add
say-returns-in-Add t c = c.add.ensures

pub say-returns-in-Each : goal.say-returns-in-Each
say-returns-in-Each t c = c.each.ensures

pub say-returns-in-Wide : goal.say-returns-in-Wide
say-returns-in-Wide t c =
    wide_tells (sym c.record_at-node.ensures ∙ c.in-Wide.is) c.decimal-in-Wide.ensures

-- SPLIT
pub split-returns-in_default : goal.split-returns-in_default
split-returns-in_default t c = absurd (not-split c.args.node c.in_default.not-Split c.requires.of_kind)

pub split-say-end-requires : goal.split-say-end-requires
split-say-end-requires t c =
    let q = c.requires in
    let g = (kids q c.in-Split.is).0 in
    (omega (arith, c.decreases, g.above, g.inside, q.ready.known.ranges.few_nodes), next_ready q.ready g (omega arith) (omega arith))

pub split-say-requires : goal.split-say-requires
split-say-requires t c =
    let q = c.requires in
    let g = (kids q c.in-Split.is).1.0 in
    (omega (arith, c.decreases, g.above, g.inside, q.ready.known.ranges.few_nodes), next_ready q.ready g (omega arith) (omega arith))

pub split-returns : goal.split-returns
split-returns t c =
    split_tells c.requires c.in-Split.is c.binders-end.ensures c.say-end.ensures c.bytes-end.ensures c.or_line-end.ensures
    c.say.ensures

-- TRUTH_CASE
pub truth_case-returns-in_default : goal.truth_case-returns-in_default
truth_case-returns-in_default t c = absurd (not-truth_case c.args.node c.in_default.not-TruthCase c.requires.of_kind)

pub truth_case-say-end-requires : goal.truth_case-say-end-requires
truth_case-say-end-requires t c =
    let q = c.requires in
    let g = (kids q c.in-TruthCase.is).0 in
    (omega (arith, c.decreases, g.above, g.inside, q.ready.known.ranges.few_nodes), next_ready q.ready g (omega arith) (omega arith))

pub truth_case-branch-end-requires : goal.truth_case-branch-end-requires
truth_case-branch-end-requires t c =
    let q = c.requires in
    let g = (kids q c.in-TruthCase.is).1.0 in
    (omega (arith, c.decreases, g.above, g.inside, q.ready.known.ranges.few_nodes), next_ready q.ready g (omega arith) (omega arith))

pub truth_case-branch-end-requires-2 : goal.truth_case-branch-end-requires-2
truth_case-branch-end-requires-2 t c =
    let q = c.requires in
    let g = (kids q c.in-TruthCase.is).1.1.1.0 in
    (omega (arith, c.decreases, g.above, g.inside, q.ready.known.ranges.few_nodes), next_ready q.ready g (omega arith) (omega arith))

pub truth_case-returns : goal.truth_case-returns
truth_case-returns t c =
    truth_tells c.requires c.in-TruthCase.is c.bytes-end.ensures c.say-end.ensures c.bytes-end-2.ensures c.on_line-end.ensures
    c.branch-end.ensures c.on_line-end-2.ensures c.branch-end-2.ensures c.on_line.ensures

-- SIZES
pub defaults-overflow_add-sent : goal.defaults-overflow_add-sent
defaults-overflow_add-sent t c = omega (arith, ready_bounded c.requires.ready)

pub each-overflow_add-inner : goal.each-overflow_add-inner
each-overflow_add-inner t c = omega (arith, ready_bounded c.requires.ready)

pub each-overflow_add-none : goal.each-overflow_add-none
each-overflow_add-none t c = omega (arith, ready_bounded c.requires.ready)

pub front-bounds-self-n : goal.front-bounds-self-n
front-bounds-self-n t c = omega (arith, ready_few c.requires.ready)

pub front-overflow_add-inner : goal.front-overflow_add-inner
front-overflow_add-inner t c = omega (arith, ready_bounded c.requires.ready)

pub list_case-overflow_add-inner : goal.list_case-overflow_add-inner
list_case-overflow_add-inner t c = omega (arith, ready_bounded c.requires.ready)

pub list_case-overflow_add-under : goal.list_case-overflow_add-under
list_case-overflow_add-under t c = omega (arith, ready_bounded c.requires.ready)

pub list_case-overflow_add-wide : goal.list_case-overflow_add-wide
list_case-overflow_add-wide t c = omega (arith, ready_bounded c.requires.ready)

pub list_rest-offset_bounds-self-n : goal.list_rest-offset_bounds-self-n
list_rest-offset_bounds-self-n t c = omega (arith, ready_few c.requires.ready)

pub list_rest-bounds-self-n : goal.list_rest-bounds-self-n
list_rest-bounds-self-n t c = omega (arith, ready_few c.requires.ready)

pub list_rest-overflow_add-inner : goal.list_rest-overflow_add-inner
list_rest-overflow_add-inner t c = omega (arith, ready_bounded c.requires.ready)

pub pair-bounds-self-n : goal.pair-bounds-self-n
pair-bounds-self-n t c = omega (arith, ready_few c.requires.ready)

pub pair-overflow_add-inner : goal.pair-overflow_add-inner
pair-overflow_add-inner t c = omega (arith, ready_bounded c.requires.ready)

pub say-offset_bounds-self-n : goal.say-offset_bounds-self-n
say-offset_bounds-self-n t c = omega (arith, ready_few c.requires)

pub say-bounds-self-n : goal.say-bounds-self-n
say-bounds-self-n t c = omega (arith, ready_few c.requires)

pub split-bounds-self-n : goal.split-bounds-self-n
split-bounds-self-n t c = omega (arith, ready_few c.requires.ready)

pub split-overflow_add-under : goal.split-overflow_add-under
split-overflow_add-under t c = omega (arith, ready_bounded c.requires.ready)

pub split-overflow_add-wide : goal.split-overflow_add-wide
split-overflow_add-wide t c = omega (arith, ready_bounded c.requires.ready)

pub truth_case-overflow_add-inner : goal.truth_case-overflow_add-inner
truth_case-overflow_add-inner t c = omega (arith, ready_bounded c.requires.ready)

pub truth_case-overflow_add-under : goal.truth_case-overflow_add-under
truth_case-overflow_add-under t c = omega (arith, ready_bounded c.requires.ready)

pub truth_case-overflow_add-scope : goal.truth_case-overflow_add-scope
truth_case-overflow_add-scope t c = omega (arith, ready_bounded c.requires.ready)

pub truth_case-overflow_add-scope-2 : goal.truth_case-overflow_add-scope-2
truth_case-overflow_add-scope-2 t c = omega (arith, ready_bounded c.requires.ready)

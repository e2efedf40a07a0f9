-- Each return and each call of get's functions is one law of `specs/Get/`, from what is known at that place of the code.
use Prim.Native.Nat.{ℕ, ◌+◌, ◌-◌, ◌<◌, ◌≤◌}
use native.Mathlib.Omega.{arith}
use mathlib.Core.Path.{◌≡◌, ap, ap₂, ◌∙◌, refl, sym}
use mathlib.Core.Bool.{false}
use lib.ListN.{get_or, length, set}
use Rattle.outcome.specs.Outcome.{is_refusal, start_of, len_of, later_as_lem, steps_of}
use Rattle.rules.specs.Numbers.{variable_limit, scratch_size}
use Rattle.sheet.specs.Table.{section_at}
use Rattle.scopes.specs.Scopes.{picked}
use Rattle.scopes.specs.ScopesLaws.{in_room_lem}
use Rattle.decisions.specs.Decisions.{fit_of, unfit_rest}
use Rattle.decisions.specs.DecisionLaws.{entered as both_left, fits_as, plain_low, parts_low, fits_refused}
use Rattle.decisions.proofs.Tags.{is_unfitting}
use Rattle.walk.specs.declared.at.At.{At as Where}
use Rattle.walk.specs.Decoded.{left_as_lem, left_by}
use Rattle.walk.specs.Moves.{top_after, top_above, behind_of}
use Rattle.walk.specs.Scope.{with_two, Stored, stored_as, renewed, with_member, two_at_first, two_again, two_member}
use Rattle.walk.specs.Arena.Parts.{Marked, marked, marked_by}
use Rattle.walk.specs.Get.{here, ready_node, as_node, ready_scope, as_scope, levels_as, ready_as, shows_as, enter, GetShows, KindAsked}
use Rattle.walk.specs.Get.Requires.{sized_as, Sized, sized}
use Rattle.walk.specs.Get.Top.{AtTop, movable, at_top, brought_as}
use Rattle.walk.specs.Get.Enter.{Entered, entry_code, enter_refused, node_few, its_kind, body_ready, body_told, own_as, told_as}
use Rattle.walk.specs.Get.Leaf.{sum_as, wide_told}
use Rattle.walk.specs.Get.Two.{two_kind, TwoAsked, one_here, two_here, one_asks, one_refused, two_asks, joinable, joined_as, two_told}
use Rattle.walk.specs.Get.Branch.{judgeable, judged_as}
use Rattle.walk.specs.Get.Case.{Subject, subject_asks, subject_refused, plain_asks, plain_told, parts_stored, parts_asks, parts_told, none_told}
use Rattle.walk.specs.Get.Case.{behind_here, case_kind}
use Rattle.walk.specs.Get.Call.{Looked, call_42₁, call_42₂, call_asks, call_told}
use Rattle.walk.specs.Get.Add.{add_asks, addable, add_told}
use Rattle.walk.specs.Get.Members.{TellsMembers, members_here, building_none, rest_inside, members_end}
use Rattle.walk.specs.Get.Each.{EachGot, Listed, each_asks, each_refused, each_43, each_42, members_asks, list_movable, each_told, members_as, told_members_as}
use Rattle.walk.specs.Get.Turn.{Turning, Fronted, fronted_by, member_there, turn_here, turn_asks, turn_refused, turn_steps, turn_done}
use Rattle.walk.proofs.getter.+get.Goals as goal

pub get_add-get_node-got-requires : goal.get_add-get_node-got-requires
get_add-get_node-got-requires t c =
    (omega (arith, c.decreases), ready_node c.number_of-node.ensures (add_asks c.requires.kind_asked c.requires.kind_value))

pub get_add-added-requires : goal.get_add-added-requires
get_add-added-requires t c =
    let v : AtTop (here c.requires.kind_asked) c.bring-a.new.arena c.bring-a.result (get_or c.args.sheet.now (c.args.own.from + 1) 0) =
    at_top (add_asks c.requires.kind_asked c.requires.kind_value) (as_node c.number_of-node.ensures c.get_node-got.ensures.get_shows)
    c.get_node-got.ensures.sized c.bring-a.ensures in
    addable c.requires.kind_asked c.requires.kind_value v

pub get_add-returns : goal.get_add-returns
get_add-returns t c =
    let v : AtTop (here c.requires.kind_asked) c.bring-a.new.arena c.bring-a.result (get_or c.args.sheet.now (c.args.own.from + 1) 0) =
    at_top (add_asks c.requires.kind_asked c.requires.kind_value) (as_node c.number_of-node.ensures c.get_node-got.ensures.get_shows)
    c.get_node-got.ensures.sized c.bring-a.ensures in
    add_told c.requires.kind_asked c.requires.kind_value v (rw
    (sum_as _ _ c.from_be_bytes-amount.ensures c.byte_of.ensures c.byte_of-2.ensures) at c.added.ensures)

pub get_call-returns-then-count-x : goal.get_call-returns-then-count-x
get_call-returns-then-count-x t c =
    call_42₁ c.requires.kind_asked c.requires.kind_value (omega (arith, c.number_of-x.ensures, c.if-count-x.true)) c.refused.ensures

pub get_call-returns-then-count-y : goal.get_call-returns-then-count-y
get_call-returns-then-count-y t c =
    call_42₂ c.requires.kind_asked c.requires.kind_value (omega (arith, c.number_of-x.ensures, c.if-count-x.false))
    (omega (arith, c.number_of-y.ensures, c.if-count-y.true)) c.refused-then-count-y.ensures

pub get_call-get_node-requires : goal.get_call-get_node-requires
get_call-get_node-requires t c =
    let l : Looked (here c.requires.kind_asked) c.args.own.kind c.args.own.from c.section_root-root.result = record {
      asked = c.requires.kind_asked;
      call = c.requires.kind_value;
      first_in = omega (arith, c.number_of-x.ensures, c.if-count-x.false);
      second_in = omega (arith, c.number_of-y.ensures, c.if-count-y.false);
      root_is = c.section_root-root.ensures ∙ ap (section_at c.args.sheet.now) c.number_of.ensures;
    } in
    let v = c.requires.kind_asked.variables in
    let x : c.number_of-x.result < variable_limit = omega (arith, v, c.if-count-x.false) in
    let y : c.number_of-y.result < variable_limit = omega (arith, v, c.if-count-y.false) in
    let s : c.section-inner.result ≡ picked c.args.scope (get_or c.args.sheet.now (c.args.own.from + 2) 0) (get_or c.args.sheet.now (c.args.own.from + 3) 0) =
    c.section-inner.ensures ∙ ap₂ (picked c.args.scope) (in_room_lem x ∙ c.number_of-x.ensures) (in_room_lem y ∙ c.number_of-y.ensures) in
    (omega (arith, c.decreases), ready_scope s (call_asks l))

pub get_call-returns : goal.get_call-returns
get_call-returns t c =
    let l : Looked (here c.requires.kind_asked) c.args.own.kind c.args.own.from c.section_root-root.result = record {
      asked = c.requires.kind_asked;
      call = c.requires.kind_value;
      first_in = omega (arith, c.number_of-x.ensures, c.if-count-x.false);
      second_in = omega (arith, c.number_of-y.ensures, c.if-count-y.false);
      root_is = c.section_root-root.ensures ∙ ap (section_at c.args.sheet.now) c.number_of.ensures;
    } in
    let v = c.requires.kind_asked.variables in
    let x : c.number_of-x.result < variable_limit = omega (arith, v, c.if-count-x.false) in
    let y : c.number_of-y.result < variable_limit = omega (arith, v, c.if-count-y.false) in
    let s : c.section-inner.result ≡ picked c.args.scope (get_or c.args.sheet.now (c.args.own.from + 2) 0) (get_or c.args.sheet.now (c.args.own.from + 3) 0) =
    c.section-inner.ensures ∙ ap₂ (picked c.args.scope) (in_room_lem x ∙ c.number_of-x.ensures) (in_room_lem y ∙ c.number_of-y.ensures) in
    call_told l (as_scope s c.get_node.ensures.get_shows)

pub get_node-returns-in-Err : goal.get_node-returns-in-Err
get_node-returns-in-Err t c =
    let g = enter_refused c.requires (entry_code _ _ _ c.in-Err.ensures)
    (left_as_lem c.refused.ensures (left_by (node_few c.requires.sheet c.requires.known) (omega (arith, c.requires.room))
    (c.leave.ensures.value, c.leave.ensures.arena_after))) in
    record { get_shows = g; sized = sized c.requires g }

pub get_node-offset_bounds-table-node : goal.get_node-offset_bounds-table-node
get_node-offset_bounds-table-node t c =
    let f : c.args.node < 200 = node_few c.requires.sheet c.requires.known in
    record { fits = omega arith }

pub get_node-bounds-table-node : goal.get_node-bounds-table-node
get_node-bounds-table-node t c =
    node_few c.requires.sheet c.requires.known

pub get_node-below-below-requires : goal.get_node-below-below-requires
get_node-below-below-requires t c =
    let d : (c.args.at.levels ≡ 0 → ⊥) × (c.args.at.left ≡ 0 → ⊥) = both_left _ _ _ c.entry.ensures c.in_default.not-Err in
    (omega (arith, d.0), omega (arith, d.1))

pub get_node-get_leaf-got-requires : goal.get_node-get_leaf-got-requires
get_node-get_leaf-got-requires t c =
    let d : (c.args.at.levels ≡ 0 → ⊥) × (c.args.at.left ≡ 0 → ⊥) = both_left _ _ _ c.entry.ensures c.in_default.not-Err in
    let b : Entered c.args.sheet.now c.args.table.now c.args.arena.now c.args.scope c.args.at.top c.args.at.levels c.args.at.left c.args.node
    c.byte_of-kind.result = record { asked = c.requires; deep = d.0; paid = d.1; kind = c.byte_of-kind.ensures } in
    record { kind_asked = own_as c.below-below.ensures (body_ready b); childless = record { low = (its_kind b).0; high = omega (arith, c.if-kind-lt21.true) } }

pub get_node-returns-then-kind-lt21 : goal.get_node-returns-then-kind-lt21
get_node-returns-then-kind-lt21 t c =
    let d : (c.args.at.levels ≡ 0 → ⊥) × (c.args.at.left ≡ 0 → ⊥) = both_left _ _ _ c.entry.ensures c.in_default.not-Err in
    let b : Entered c.args.sheet.now c.args.table.now c.args.arena.now c.args.scope c.args.at.top c.args.at.levels c.args.at.left c.args.node
    c.byte_of-kind.result = record { asked = c.requires; deep = d.0; paid = d.1; kind = c.byte_of-kind.ensures } in
    let p : GetShows c.args.arena.now c.leave-then-kind-lt21.new.arena c.args.sheet.now c.args.scope c.args.at.top c.args.at.top c.args.at.left
    c.leave-then-kind-lt21.result
    c.args.at.levels (enter c.args.node) × Sized c.args.at.top c.args.at.left c.args.at.levels c.leave-then-kind-lt21.result = body_told b
    (told_as c.below-below.ensures c.get_leaf-got.ensures) (left_by (node_few c.requires.sheet c.requires.known) (omega (arith, c.requires.room))
    (c.leave-then-kind-lt21.ensures.value, c.leave-then-kind-lt21.ensures.arena_after)) in
    record { get_shows = p.0; sized = p.1 }

pub get_node-get_two-got-requires : goal.get_node-get_two-got-requires
get_node-get_two-got-requires t c =
    let d : (c.args.at.levels ≡ 0 → ⊥) × (c.args.at.left ≡ 0 → ⊥) = both_left _ _ _ c.entry.ensures c.in_default.not-Err in
    let b : Entered c.args.sheet.now c.args.table.now c.args.arena.now c.args.scope c.args.at.top c.args.at.levels c.args.at.left c.args.node
    c.byte_of-kind.result = record { asked = c.requires; deep = d.0; paid = d.1; kind = c.byte_of-kind.ensures } in
    let l = levels_as c.below-below.ensures in (
      omega (arith, d.0, c.decreases),
      (
        own_as c.below-below.ensures (body_ready b),
        two_kind (omega (arith, c.if-kind-lt21.false)) (omega (
          arith,
          c.if-kind-lt23.true,
        )),
      ),
    )

pub get_node-returns-then-kind-lt23 : goal.get_node-returns-then-kind-lt23
get_node-returns-then-kind-lt23 t c =
    let d : (c.args.at.levels ≡ 0 → ⊥) × (c.args.at.left ≡ 0 → ⊥) = both_left _ _ _ c.entry.ensures c.in_default.not-Err in
    let b : Entered c.args.sheet.now c.args.table.now c.args.arena.now c.args.scope c.args.at.top c.args.at.levels c.args.at.left c.args.node
    c.byte_of-kind.result = record { asked = c.requires; deep = d.0; paid = d.1; kind = c.byte_of-kind.ensures } in
    let p : GetShows c.args.arena.now c.leave-then-kind-lt23.new.arena c.args.sheet.now c.args.scope c.args.at.top c.args.at.top c.args.at.left
    c.leave-then-kind-lt23.result
    c.args.at.levels (enter c.args.node) × Sized c.args.at.top c.args.at.left c.args.at.levels c.leave-then-kind-lt23.result = body_told b
    (told_as c.below-below.ensures c.get_two-got.ensures) (left_by (node_few c.requires.sheet c.requires.known) (omega (arith, c.requires.room))
    (c.leave-then-kind-lt23.ensures.value, c.leave-then-kind-lt23.ensures.arena_after)) in
    record { get_shows = p.0; sized = p.1 }

pub get_node-get_case-got-requires : goal.get_node-get_case-got-requires
get_node-get_case-got-requires t c =
    let d : (c.args.at.levels ≡ 0 → ⊥) × (c.args.at.left ≡ 0 → ⊥) = both_left _ _ _ c.entry.ensures c.in_default.not-Err in
    let b : Entered c.args.sheet.now c.args.table.now c.args.arena.now c.args.scope c.args.at.top c.args.at.levels c.args.at.left c.args.node
    c.byte_of-kind.result = record { asked = c.requires; deep = d.0; paid = d.1; kind = c.byte_of-kind.ensures } in
    let l = levels_as c.below-below.ensures in (
      omega (arith, d.0, c.decreases),
      (
        own_as c.below-below.ensures (body_ready b),
        case_kind (omega (arith, c.if-kind-lt23.false)) (omega (
          arith,
          c.if-kind-lt26.true,
        )),
      ),
    )

pub get_node-returns-then-kind-lt26 : goal.get_node-returns-then-kind-lt26
get_node-returns-then-kind-lt26 t c =
    let d : (c.args.at.levels ≡ 0 → ⊥) × (c.args.at.left ≡ 0 → ⊥) = both_left _ _ _ c.entry.ensures c.in_default.not-Err in
    let b : Entered c.args.sheet.now c.args.table.now c.args.arena.now c.args.scope c.args.at.top c.args.at.levels c.args.at.left c.args.node
    c.byte_of-kind.result = record { asked = c.requires; deep = d.0; paid = d.1; kind = c.byte_of-kind.ensures } in
    let p : GetShows c.args.arena.now c.leave-then-kind-lt26.new.arena c.args.sheet.now c.args.scope c.args.at.top c.args.at.top c.args.at.left
    c.leave-then-kind-lt26.result
    c.args.at.levels (enter c.args.node) × Sized c.args.at.top c.args.at.left c.args.at.levels c.leave-then-kind-lt26.result = body_told b
    (told_as c.below-below.ensures c.get_case-got.ensures) (left_by (node_few c.requires.sheet c.requires.known) (omega (arith, c.requires.room))
    (c.leave-then-kind-lt26.ensures.value, c.leave-then-kind-lt26.ensures.arena_after)) in
    record { get_shows = p.0; sized = p.1 }

pub get_node-get_call-got-requires : goal.get_node-get_call-got-requires
get_node-get_call-got-requires t c =
    let d : (c.args.at.levels ≡ 0 → ⊥) × (c.args.at.left ≡ 0 → ⊥) = both_left _ _ _ c.entry.ensures c.in_default.not-Err in
    let b : Entered c.args.sheet.now c.args.table.now c.args.arena.now c.args.scope c.args.at.top c.args.at.levels c.args.at.left c.args.node
    c.byte_of-kind.result = record { asked = c.requires; deep = d.0; paid = d.1; kind = c.byte_of-kind.ensures } in
    let l = levels_as c.below-below.ensures in
    (omega (arith, d.0, c.decreases), (own_as c.below-below.ensures (body_ready b), c.if-kind-eq26.true))

pub get_node-returns-then-kind-eq26 : goal.get_node-returns-then-kind-eq26
get_node-returns-then-kind-eq26 t c =
    let d : (c.args.at.levels ≡ 0 → ⊥) × (c.args.at.left ≡ 0 → ⊥) = both_left _ _ _ c.entry.ensures c.in_default.not-Err in
    let b : Entered c.args.sheet.now c.args.table.now c.args.arena.now c.args.scope c.args.at.top c.args.at.levels c.args.at.left c.args.node
    c.byte_of-kind.result = record { asked = c.requires; deep = d.0; paid = d.1; kind = c.byte_of-kind.ensures } in
    let p : GetShows c.args.arena.now c.leave-then-kind-eq26.new.arena c.args.sheet.now c.args.scope c.args.at.top c.args.at.top c.args.at.left
    c.leave-then-kind-eq26.result
    c.args.at.levels (enter c.args.node) × Sized c.args.at.top c.args.at.left c.args.at.levels c.leave-then-kind-eq26.result = body_told b
    (told_as c.below-below.ensures c.get_call-got.ensures) (left_by (node_few c.requires.sheet c.requires.known) (omega (arith, c.requires.room))
    (c.leave-then-kind-eq26.ensures.value, c.leave-then-kind-eq26.ensures.arena_after)) in
    record { get_shows = p.0; sized = p.1 }

pub get_node-get_add-got-requires : goal.get_node-get_add-got-requires
get_node-get_add-got-requires t c =
    let d : (c.args.at.levels ≡ 0 → ⊥) × (c.args.at.left ≡ 0 → ⊥) = both_left _ _ _ c.entry.ensures c.in_default.not-Err in
    let b : Entered c.args.sheet.now c.args.table.now c.args.arena.now c.args.scope c.args.at.top c.args.at.levels c.args.at.left c.args.node
    c.byte_of-kind.result = record { asked = c.requires; deep = d.0; paid = d.1; kind = c.byte_of-kind.ensures } in
    let l = levels_as c.below-below.ensures in (
      omega (arith, d.0, c.decreases),
      (
        own_as c.below-below.ensures (body_ready b),
        omega (
          arith,
          c.if-kind-lt26.false,
          c.if-kind-lt28.true,
          c.if-kind-eq26.false,
        ),
      ),
    )

pub get_node-returns-then-kind-lt28 : goal.get_node-returns-then-kind-lt28
get_node-returns-then-kind-lt28 t c =
    let d : (c.args.at.levels ≡ 0 → ⊥) × (c.args.at.left ≡ 0 → ⊥) = both_left _ _ _ c.entry.ensures c.in_default.not-Err in
    let b : Entered c.args.sheet.now c.args.table.now c.args.arena.now c.args.scope c.args.at.top c.args.at.levels c.args.at.left c.args.node
    c.byte_of-kind.result = record { asked = c.requires; deep = d.0; paid = d.1; kind = c.byte_of-kind.ensures } in
    let p : GetShows c.args.arena.now c.leave-then-kind-lt28.new.arena c.args.sheet.now c.args.scope c.args.at.top c.args.at.top c.args.at.left
    c.leave-then-kind-lt28.result
    c.args.at.levels (enter c.args.node) × Sized c.args.at.top c.args.at.left c.args.at.levels c.leave-then-kind-lt28.result = body_told b
    (told_as c.below-below.ensures c.get_add-got.ensures) (left_by (node_few c.requires.sheet c.requires.known) (omega (arith, c.requires.room))
    (c.leave-then-kind-lt28.ensures.value, c.leave-then-kind-lt28.ensures.arena_after)) in
    record { get_shows = p.0; sized = p.1 }

pub get_node-get_each-got-requires : goal.get_node-get_each-got-requires
get_node-get_each-got-requires t c =
    let d : (c.args.at.levels ≡ 0 → ⊥) × (c.args.at.left ≡ 0 → ⊥) = both_left _ _ _ c.entry.ensures c.in_default.not-Err in
    let b : Entered c.args.sheet.now c.args.table.now c.args.arena.now c.args.scope c.args.at.top c.args.at.levels c.args.at.left c.args.node
    c.byte_of-kind.result = record { asked = c.requires; deep = d.0; paid = d.1; kind = c.byte_of-kind.ensures } in
    let l = levels_as c.below-below.ensures in
    (omega (arith, d.0, c.decreases), (own_as c.below-below.ensures (body_ready b), c.if-kind-eq28.true))

pub get_node-returns-then-kind-eq28 : goal.get_node-returns-then-kind-eq28
get_node-returns-then-kind-eq28 t c =
    let d : (c.args.at.levels ≡ 0 → ⊥) × (c.args.at.left ≡ 0 → ⊥) = both_left _ _ _ c.entry.ensures c.in_default.not-Err in
    let b : Entered c.args.sheet.now c.args.table.now c.args.arena.now c.args.scope c.args.at.top c.args.at.levels c.args.at.left c.args.node
    c.byte_of-kind.result = record { asked = c.requires; deep = d.0; paid = d.1; kind = c.byte_of-kind.ensures } in
    let p : GetShows c.args.arena.now c.leave-then-kind-eq28.new.arena c.args.sheet.now c.args.scope c.args.at.top c.args.at.top c.args.at.left
    c.leave-then-kind-eq28.result
    c.args.at.levels (enter c.args.node) × Sized c.args.at.top c.args.at.left c.args.at.levels c.leave-then-kind-eq28.result = body_told b
    (told_as c.below-below.ensures c.get_each-got.ensures) (left_by (node_few c.requires.sheet c.requires.known) (omega (arith, c.requires.room))
    (c.leave-then-kind-eq28.ensures.value, c.leave-then-kind-eq28.ensures.arena_after)) in
    record { get_shows = p.0; sized = p.1 }

pub get_node-returns : goal.get_node-returns
get_node-returns t c =
    let d : (c.args.at.levels ≡ 0 → ⊥) × (c.args.at.left ≡ 0 → ⊥) = both_left _ _ _ c.entry.ensures c.in_default.not-Err in
    let b : Entered c.args.sheet.now c.args.table.now c.args.arena.now c.args.scope c.args.at.top c.args.at.levels c.args.at.left c.args.node
    c.byte_of-kind.result = record { asked = c.requires; deep = d.0; paid = d.1; kind = c.byte_of-kind.ensures } in
    let k : c.byte_of-kind.result ≡ 0x1D = omega (arith, (its_kind b).1, c.if-kind-lt28.false, c.if-kind-eq28.false) in
    let a : KindAsked c.args.sheet.now c.args.table.now c.args.arena.now c.args.scope (record {
      node = c.args.node;
      from = get_or c.args.table.now c.args.node 0;
      kind = c.byte_of-kind.result;
    }) c.below-below.result =
    own_as c.below-below.ensures (body_ready b) in
    let p : GetShows c.args.arena.now c.leave-2.new.arena c.args.sheet.now c.args.scope c.args.at.top c.args.at.top c.args.at.left c.leave-2.result
    c.args.at.levels (enter c.args.node) × Sized c.args.at.top c.args.at.left c.args.at.levels c.leave-2.result = body_told b (told_as c.below-below.ensures
    (wide_told k a c.get_wide-got.ensures.0 c.get_wide-got.ensures.1)) (left_by (node_few c.requires.sheet c.requires.known) (omega (
      arith,
      c.requires.room,
    ))
    (c.leave-2.ensures.value, c.leave-2.ensures.arena_after)) in
    record { get_shows = p.0; sized = p.1 }

pub get_two-get_node-got-requires : goal.get_two-get_node-got-requires
get_two-get_node-got-requires t c =
    let a : TwoAsked (here c.requires.kind_asked) c.args.own.kind c.args.own.from (set c.args.arena.now c.args.at.top c.made-made.result) =
    record {
      asked = c.requires.kind_asked;
      two = c.requires.two;
      marked = marked_by c.made-made.ensures (omega (
        arith,
        c.requires.kind_asked.long,
        c.requires.kind_asked.room,
      ));
    } in
    let l = levels_as c.raised-one.ensures in
    (omega (arith, c.decreases), ready_as c.raised-one.ensures refl c.number_of-first.ensures (one_asks a))

pub get_two-returns-then-is_refused : goal.get_two-returns-then-is_refused
get_two-returns-then-is_refused t c =
    let a : TwoAsked (here c.requires.kind_asked) c.args.own.kind c.args.own.from (set c.args.arena.now c.args.at.top c.made-made.result) =
    record {
      asked = c.requires.kind_asked;
      two = c.requires.two;
      marked = marked_by c.made-made.ensures (omega (
        arith,
        c.requires.kind_asked.long,
        c.requires.kind_asked.room,
      ));
    } in
    let v : AtTop (one_here a) c.bring-a.new.arena c.bring-a.result (get_or c.args.sheet.now (c.args.own.from + 1) 0) =
    at_top (one_asks a) (shows_as c.raised-one.ensures refl c.number_of-first.ensures c.get_node-got.ensures.get_shows)
    (sized_as c.raised-one.ensures c.get_node-got.ensures.sized) (brought_as c.raised-one.ensures c.bring-a.ensures) in
    one_refused a v (sym c.is_refused.ensures ∙ c.if-is_refused.true)

pub get_two-behind-two-requires : goal.get_two-behind-two-requires
get_two-behind-two-requires t c =
    let a : TwoAsked (here c.requires.kind_asked) c.args.own.kind c.args.own.from (set c.args.arena.now c.args.at.top c.made-made.result) =
    record {
      asked = c.requires.kind_asked;
      two = c.requires.two;
      marked = marked_by c.made-made.ensures (omega (
        arith,
        c.requires.kind_asked.long,
        c.requires.kind_asked.room,
      ));
    } in
    let v : AtTop (one_here a) c.bring-a.new.arena c.bring-a.result (get_or c.args.sheet.now (c.args.own.from + 1) 0) =
    at_top (one_asks a) (shows_as c.raised-one.ensures refl c.number_of-first.ensures c.get_node-got.ensures.get_shows)
    (sized_as c.raised-one.ensures c.get_node-got.ensures.sized) (brought_as c.raised-one.ensures c.bring-a.ensures) in
    let d : is_refusal c.bring-a.result ≡ false = sym c.is_refused.ensures ∙ c.if-is_refused.false in
    let l = ap (λ (x : Where). x.left) c.raised-one.ensures in
    let s = (v.sized.at d).steps in
    omega arith

pub get_two-get_node-got-requires-2 : goal.get_two-get_node-got-requires-2
get_two-get_node-got-requires-2 t c =
    let a : TwoAsked (here c.requires.kind_asked) c.args.own.kind c.args.own.from (set c.args.arena.now c.args.at.top c.made-made.result) =
    record {
      asked = c.requires.kind_asked;
      two = c.requires.two;
      marked = marked_by c.made-made.ensures (omega (
        arith,
        c.requires.kind_asked.long,
        c.requires.kind_asked.room,
      ));
    } in
    let v : AtTop (one_here a) c.bring-a.new.arena c.bring-a.result (get_or c.args.sheet.now (c.args.own.from + 1) 0) =
    at_top (one_asks a) (shows_as c.raised-one.ensures refl c.number_of-first.ensures c.get_node-got.ensures.get_shows)
    (sized_as c.raised-one.ensures c.get_node-got.ensures.sized) (brought_as c.raised-one.ensures c.bring-a.ensures) in
    let d : is_refusal c.bring-a.result ≡ false = sym c.is_refused.ensures ∙ c.if-is_refused.false in
    let h = v.there d in
    let e : top_after (c.args.at.top + 1) (start_of c.bring-a.result) (len_of c.bring-a.result) ≡ c.args.at.top + 1 + len_of c.bring-a.result =
    top_above (c.args.at.top + 1) (start_of c.bring-a.result) (len_of c.bring-a.result) (omega (arith, h)) ∙ ap (λ (i : ℕ). i + len_of c.bring-a.result) h in
    let p : c.behind-two.result ≡ record {
      levels = c.args.at.levels;
      left = c.args.at.left - steps_of c.bring-a.result;
      top = c.args.at.top + 1 + len_of c.bring-a.result;
      cells = c.args.at.cells;
    } =
    c.behind-two.ensures ∙ ap (λ (x : Where). behind_of x c.bring-a.result) c.raised-one.ensures
    ∙ ap (λ (i : ℕ). record { levels = c.args.at.levels; left = c.args.at.left - steps_of c.bring-a.result; top = i; cells = c.args.at.cells }) e in
    let l = levels_as p in
    (omega (arith, c.decreases), ready_as p refl c.number_of-second.ensures (two_asks a v d))

pub get_two-bring-b-requires : goal.get_two-bring-b-requires
get_two-bring-b-requires t c =
    let a : TwoAsked (here c.requires.kind_asked) c.args.own.kind c.args.own.from (set c.args.arena.now c.args.at.top c.made-made.result) =
    record {
      asked = c.requires.kind_asked;
      two = c.requires.two;
      marked = marked_by c.made-made.ensures (omega (
        arith,
        c.requires.kind_asked.long,
        c.requires.kind_asked.room,
      ));
    } in
    let v : AtTop (one_here a) c.bring-a.new.arena c.bring-a.result (get_or c.args.sheet.now (c.args.own.from + 1) 0) =
    at_top (one_asks a) (shows_as c.raised-one.ensures refl c.number_of-first.ensures c.get_node-got.ensures.get_shows)
    (sized_as c.raised-one.ensures c.get_node-got.ensures.sized) (brought_as c.raised-one.ensures c.bring-a.ensures) in
    let d : is_refusal c.bring-a.result ≡ false = sym c.is_refused.ensures ∙ c.if-is_refused.false in
    let h = v.there d in
    let e : top_after (c.args.at.top + 1) (start_of c.bring-a.result) (len_of c.bring-a.result) ≡ c.args.at.top + 1 + len_of c.bring-a.result =
    top_above (c.args.at.top + 1) (start_of c.bring-a.result) (len_of c.bring-a.result) (omega (arith, h)) ∙ ap (λ (i : ℕ). i + len_of c.bring-a.result) h in
    let p : c.behind-two.result ≡ record {
      levels = c.args.at.levels;
      left = c.args.at.left - steps_of c.bring-a.result;
      top = c.args.at.top + 1 + len_of c.bring-a.result;
      cells = c.args.at.cells;
    } =
    c.behind-two.ensures ∙ ap (λ (x : Where). behind_of x c.bring-a.result) c.raised-one.ensures
    ∙ ap (λ (i : ℕ). record { levels = c.args.at.levels; left = c.args.at.left - steps_of c.bring-a.result; top = i; cells = c.args.at.cells }) e in
    movable (ready_as p refl c.number_of-second.ensures (two_asks a v d)) c.get_node-got-2.ensures.get_shows c.get_node-got-2.ensures.sized

pub get_two-joined-requires : goal.get_two-joined-requires
get_two-joined-requires t c =
    let a : TwoAsked (here c.requires.kind_asked) c.args.own.kind c.args.own.from (set c.args.arena.now c.args.at.top c.made-made.result) =
    record {
      asked = c.requires.kind_asked;
      two = c.requires.two;
      marked = marked_by c.made-made.ensures (omega (
        arith,
        c.requires.kind_asked.long,
        c.requires.kind_asked.room,
      ));
    } in
    let v : AtTop (one_here a) c.bring-a.new.arena c.bring-a.result (get_or c.args.sheet.now (c.args.own.from + 1) 0) =
    at_top (one_asks a) (shows_as c.raised-one.ensures refl c.number_of-first.ensures c.get_node-got.ensures.get_shows)
    (sized_as c.raised-one.ensures c.get_node-got.ensures.sized) (brought_as c.raised-one.ensures c.bring-a.ensures) in
    let d : is_refusal c.bring-a.result ≡ false = sym c.is_refused.ensures ∙ c.if-is_refused.false in
    let h = v.there d in
    let e : top_after (c.args.at.top + 1) (start_of c.bring-a.result) (len_of c.bring-a.result) ≡ c.args.at.top + 1 + len_of c.bring-a.result =
    top_above (c.args.at.top + 1) (start_of c.bring-a.result) (len_of c.bring-a.result) (omega (arith, h)) ∙ ap (λ (i : ℕ). i + len_of c.bring-a.result) h in
    let p : c.behind-two.result ≡ record {
      levels = c.args.at.levels;
      left = c.args.at.left - steps_of c.bring-a.result;
      top = c.args.at.top + 1 + len_of c.bring-a.result;
      cells = c.args.at.cells;
    } =
    c.behind-two.ensures ∙ ap (λ (x : Where). behind_of x c.bring-a.result) c.raised-one.ensures
    ∙ ap (λ (i : ℕ). record { levels = c.args.at.levels; left = c.args.at.left - steps_of c.bring-a.result; top = i; cells = c.args.at.cells }) e in
    let s : AtTop (two_here a c.bring-a.new.arena c.bring-a.result) c.bring-b.new.arena c.bring-b.result (get_or c.args.sheet.now (c.args.own.from + 2) 0) =
    at_top (two_asks a v d) (shows_as p refl c.number_of-second.ensures c.get_node-got-2.ensures.get_shows)
    (sized_as p c.get_node-got-2.ensures.sized) (brought_as p c.bring-b.ensures) in
    joinable a v d s

pub get_two-returns : goal.get_two-returns
get_two-returns t c =
    let a : TwoAsked (here c.requires.kind_asked) c.args.own.kind c.args.own.from (set c.args.arena.now c.args.at.top c.made-made.result) =
    record {
      asked = c.requires.kind_asked;
      two = c.requires.two;
      marked = marked_by c.made-made.ensures (omega (
        arith,
        c.requires.kind_asked.long,
        c.requires.kind_asked.room,
      ));
    } in
    let v : AtTop (one_here a) c.bring-a.new.arena c.bring-a.result (get_or c.args.sheet.now (c.args.own.from + 1) 0) =
    at_top (one_asks a) (shows_as c.raised-one.ensures refl c.number_of-first.ensures c.get_node-got.ensures.get_shows)
    (sized_as c.raised-one.ensures c.get_node-got.ensures.sized) (brought_as c.raised-one.ensures c.bring-a.ensures) in
    let d : is_refusal c.bring-a.result ≡ false = sym c.is_refused.ensures ∙ c.if-is_refused.false in
    let h = v.there d in
    let e : top_after (c.args.at.top + 1) (start_of c.bring-a.result) (len_of c.bring-a.result) ≡ c.args.at.top + 1 + len_of c.bring-a.result =
    top_above (c.args.at.top + 1) (start_of c.bring-a.result) (len_of c.bring-a.result) (omega (arith, h)) ∙ ap (λ (i : ℕ). i + len_of c.bring-a.result) h in
    let p : c.behind-two.result ≡ record {
      levels = c.args.at.levels;
      left = c.args.at.left - steps_of c.bring-a.result;
      top = c.args.at.top + 1 + len_of c.bring-a.result;
      cells = c.args.at.cells;
    } =
    c.behind-two.ensures ∙ ap (λ (x : Where). behind_of x c.bring-a.result) c.raised-one.ensures
    ∙ ap (λ (i : ℕ). record { levels = c.args.at.levels; left = c.args.at.left - steps_of c.bring-a.result; top = i; cells = c.args.at.cells }) e in
    let s : AtTop (two_here a c.bring-a.new.arena c.bring-a.result) c.bring-b.new.arena c.bring-b.result (get_or c.args.sheet.now (c.args.own.from + 2) 0) =
    at_top (two_asks a v d) (shows_as p refl c.number_of-second.ensures c.get_node-got-2.ensures.get_shows)
    (sized_as p c.get_node-got-2.ensures.sized) (brought_as p c.bring-b.ensures) in
    two_told a v d s (joined_as c.made-made.ensures c.joined.ensures)

pub get_case-get_node-got-requires : goal.get_case-get_node-got-requires
get_case-get_node-got-requires t c =
    (omega (arith, c.decreases), ready_node c.number_of-subject.ensures (subject_asks c.requires.kind_asked c.requires.case))

pub get_case-returns-then-is_refused : goal.get_case-returns-then-is_refused
get_case-returns-then-is_refused t c =
    subject_refused c.requires.kind_asked c.requires.case (as_node c.number_of-subject.ensures c.get_node-got.ensures.get_shows) (sym c.is_refused.ensures ∙
    c.if-is_refused.true)

pub get_case-test_of-test-requires : goal.get_case-test_of-test-requires
get_case-test_of-test-requires t c =
    let o : c.fits.result ≡ fit_of c.args.own.kind c.shape_at.result = c.fits.ensures in
    plain_low (fits_as o c.in-Plain.is)

pub get_case-get_node-branch-requires : goal.get_case-get_node-branch-requires
get_case-get_node-branch-requires t c =
    let d : is_refusal c.get_node-got.result ≡ false = sym c.is_refused.ensures ∙ c.if-is_refused.false in
    let s : Subject (here c.requires.kind_asked) c.args.own.kind c.args.own.from c.get_node-got.result c.get_node-got.new.arena c.shape_at.result =
    record {
      asked = c.requires.kind_asked;
      case = c.requires.case;
      gives = (as_node c.number_of-subject.ensures c.get_node-got.ensures.get_shows);
      sized = c.get_node-got.ensures.sized;
      done = d;
      shape = c.shape_at.ensures;
    } in
    let o : c.fits.result ≡ fit_of c.args.own.kind c.shape_at.result = c.fits.ensures in
    let l = levels_as c.behind-to.ensures in
    (omega (arith, c.decreases), ready_as c.behind-to.ensures refl c.number_of-node.ensures (plain_asks s (fits_as o c.in-Plain.is)))

pub get_case-judge-requires : goal.get_case-judge-requires
get_case-judge-requires t c =
    let d : is_refusal c.get_node-got.result ≡ false = sym c.is_refused.ensures ∙ c.if-is_refused.false in
    let s : Subject (here c.requires.kind_asked) c.args.own.kind c.args.own.from c.get_node-got.result c.get_node-got.new.arena c.shape_at.result =
    record {
      asked = c.requires.kind_asked;
      case = c.requires.case;
      gives = (as_node c.number_of-subject.ensures c.get_node-got.ensures.get_shows);
      sized = c.get_node-got.ensures.sized;
      done = d;
      shape = c.shape_at.ensures;
    } in
    let o : c.fits.result ≡ fit_of c.args.own.kind c.shape_at.result = c.fits.ensures in
    judgeable (ready_as c.behind-to.ensures refl c.number_of-node.ensures (plain_asks s (fits_as o c.in-Plain.is))) c.get_node-branch.ensures.get_shows
    c.get_node-branch.ensures.sized

pub get_case-returns-in-Plain : goal.get_case-returns-in-Plain
get_case-returns-in-Plain t c =
    let d : is_refusal c.get_node-got.result ≡ false = sym c.is_refused.ensures ∙ c.if-is_refused.false in
    let s : Subject (here c.requires.kind_asked) c.args.own.kind c.args.own.from c.get_node-got.result c.get_node-got.new.arena c.shape_at.result =
    record {
      asked = c.requires.kind_asked;
      case = c.requires.case;
      gives = (as_node c.number_of-subject.ensures c.get_node-got.ensures.get_shows);
      sized = c.get_node-got.ensures.sized;
      done = d;
      shape = c.shape_at.ensures;
    } in
    let o : c.fits.result ≡ fit_of c.args.own.kind c.shape_at.result = c.fits.ensures in
    plain_told s (fits_as o c.in-Plain.is) (sym c.in-Plain.is ∙ o)
    (shows_as c.behind-to.ensures refl c.number_of-node.ensures c.get_node-branch.ensures.get_shows)
    (judged_as c.test_of-test.ensures c.judge.ensures) (later_as_lem _ c.steps.ensures c.later.ensures)

pub get_case-test_of-test-requires-in-Parts : goal.get_case-test_of-test-requires-in-Parts
get_case-test_of-test-requires-in-Parts t c =
    let o : c.fits.result ≡ fit_of c.args.own.kind c.shape_at.result = c.fits.ensures in
    parts_low (fits_as o c.in-Parts.is)

pub get_case-overflow_sub-mid : goal.get_case-overflow_sub-mid
get_case-overflow_sub-mid t c =
    let d : is_refusal c.get_node-got.result ≡ false = sym c.is_refused.ensures ∙ c.if-is_refused.false in
    let s : Subject (here c.requires.kind_asked) c.args.own.kind c.args.own.from c.get_node-got.result c.get_node-got.new.arena c.shape_at.result =
    record {
      asked = c.requires.kind_asked;
      case = c.requires.case;
      gives = (as_node c.number_of-subject.ensures c.get_node-got.ensures.get_shows);
      sized = c.get_node-got.ensures.sized;
      done = d;
      shape = c.shape_at.ensures;
    } in
    let o : c.fits.result ≡ fit_of c.args.own.kind c.shape_at.result = c.fits.ensures in
    let r : (c.args.scope.count + 2 ≤ variable_limit)
    × Stored (start_of c.get_node-got.result + 1) (c.in-Parts.mid - 1) (len_of c.get_node-got.result - c.in-Parts.mid)
    × (1 ≤ c.in-Parts.mid) × (c.in-Parts.mid ≤ len_of c.get_node-got.result) = parts_stored s (fits_as o c.in-Parts.is) in
    r.2

pub get_case-overflow_sub-len : goal.get_case-overflow_sub-len
get_case-overflow_sub-len t c =
    let d : is_refusal c.get_node-got.result ≡ false = sym c.is_refused.ensures ∙ c.if-is_refused.false in
    let s : Subject (here c.requires.kind_asked) c.args.own.kind c.args.own.from c.get_node-got.result c.get_node-got.new.arena c.shape_at.result =
    record {
      asked = c.requires.kind_asked;
      case = c.requires.case;
      gives = (as_node c.number_of-subject.ensures c.get_node-got.ensures.get_shows);
      sized = c.get_node-got.ensures.sized;
      done = d;
      shape = c.shape_at.ensures;
    } in
    let o : c.fits.result ≡ fit_of c.args.own.kind c.shape_at.result = c.fits.ensures in
    let r : (c.args.scope.count + 2 ≤ variable_limit)
    × Stored (start_of c.get_node-got.result + 1) (c.in-Parts.mid - 1) (len_of c.get_node-got.result - c.in-Parts.mid)
    × (1 ≤ c.in-Parts.mid) × (c.in-Parts.mid ≤ len_of c.get_node-got.result) = parts_stored s (fits_as o c.in-Parts.is) in
    omega (arith, c.len.ensures, r.3)

pub get_case-with_two-inner-requires : goal.get_case-with_two-inner-requires
get_case-with_two-inner-requires t c =
    let d : is_refusal c.get_node-got.result ≡ false = sym c.is_refused.ensures ∙ c.if-is_refused.false in
    let s : Subject (here c.requires.kind_asked) c.args.own.kind c.args.own.from c.get_node-got.result c.get_node-got.new.arena c.shape_at.result =
    record {
      asked = c.requires.kind_asked;
      case = c.requires.case;
      gives = (as_node c.number_of-subject.ensures c.get_node-got.ensures.get_shows);
      sized = c.get_node-got.ensures.sized;
      done = d;
      shape = c.shape_at.ensures;
    } in
    let o : c.fits.result ≡ fit_of c.args.own.kind c.shape_at.result = c.fits.ensures in
    let r : (c.args.scope.count + 2 ≤ variable_limit)
    × Stored (start_of c.get_node-got.result + 1) (c.in-Parts.mid - 1) (len_of c.get_node-got.result - c.in-Parts.mid)
    × (1 ≤ c.in-Parts.mid) × (c.in-Parts.mid ≤ len_of c.get_node-got.result) = parts_stored s (fits_as o c.in-Parts.is) in
    (r.0, stored_as _ c.start.ensures c.len.ensures r.1)

pub get_case-get_node-branch-requires-in-Parts : goal.get_case-get_node-branch-requires-in-Parts
get_case-get_node-branch-requires-in-Parts t c =
    let d : is_refusal c.get_node-got.result ≡ false = sym c.is_refused.ensures ∙ c.if-is_refused.false in
    let s : Subject (here c.requires.kind_asked) c.args.own.kind c.args.own.from c.get_node-got.result c.get_node-got.new.arena c.shape_at.result =
    record {
      asked = c.requires.kind_asked;
      case = c.requires.case;
      gives = (as_node c.number_of-subject.ensures c.get_node-got.ensures.get_shows);
      sized = c.get_node-got.ensures.sized;
      done = d;
      shape = c.shape_at.ensures;
    } in
    let o : c.fits.result ≡ fit_of c.args.own.kind c.shape_at.result = c.fits.ensures in
    let i : c.with_two-inner.result ≡ with_two c.args.scope (start_of c.get_node-got.result + 1) (c.in-Parts.mid - 1)
    (len_of c.get_node-got.result - c.in-Parts.mid) =
    c.with_two-inner.ensures ∙ ap₂ (λ (x y : ℕ). with_two c.args.scope (x + 1) (c.in-Parts.mid - 1) (y - c.in-Parts.mid)) c.start.ensures c.len.ensures in
    let l = levels_as c.behind-to.ensures in
    (omega (arith, c.decreases), ready_as c.behind-to.ensures i c.number_of-node-in-Parts.ensures (parts_asks s (fits_as o c.in-Parts.is)))

pub get_case-judge-requires-in-Parts : goal.get_case-judge-requires-in-Parts
get_case-judge-requires-in-Parts t c =
    let d : is_refusal c.get_node-got.result ≡ false = sym c.is_refused.ensures ∙ c.if-is_refused.false in
    let s : Subject (here c.requires.kind_asked) c.args.own.kind c.args.own.from c.get_node-got.result c.get_node-got.new.arena c.shape_at.result =
    record {
      asked = c.requires.kind_asked;
      case = c.requires.case;
      gives = (as_node c.number_of-subject.ensures c.get_node-got.ensures.get_shows);
      sized = c.get_node-got.ensures.sized;
      done = d;
      shape = c.shape_at.ensures;
    } in
    let o : c.fits.result ≡ fit_of c.args.own.kind c.shape_at.result = c.fits.ensures in
    let i : c.with_two-inner.result ≡ with_two c.args.scope (start_of c.get_node-got.result + 1) (c.in-Parts.mid - 1)
    (len_of c.get_node-got.result - c.in-Parts.mid) =
    c.with_two-inner.ensures ∙ ap₂ (λ (x y : ℕ). with_two c.args.scope (x + 1) (c.in-Parts.mid - 1) (y - c.in-Parts.mid)) c.start.ensures c.len.ensures in
    judgeable (ready_as c.behind-to.ensures i c.number_of-node-in-Parts.ensures (parts_asks s (fits_as o c.in-Parts.is)))
    c.get_node-branch-in-Parts.ensures.get_shows c.get_node-branch-in-Parts.ensures.sized

pub get_case-returns-in-Parts : goal.get_case-returns-in-Parts
get_case-returns-in-Parts t c =
    let d : is_refusal c.get_node-got.result ≡ false = sym c.is_refused.ensures ∙ c.if-is_refused.false in
    let s : Subject (here c.requires.kind_asked) c.args.own.kind c.args.own.from c.get_node-got.result c.get_node-got.new.arena c.shape_at.result =
    record {
      asked = c.requires.kind_asked;
      case = c.requires.case;
      gives = (as_node c.number_of-subject.ensures c.get_node-got.ensures.get_shows);
      sized = c.get_node-got.ensures.sized;
      done = d;
      shape = c.shape_at.ensures;
    } in
    let o : c.fits.result ≡ fit_of c.args.own.kind c.shape_at.result = c.fits.ensures in
    let i : c.with_two-inner.result ≡ with_two c.args.scope (start_of c.get_node-got.result + 1) (c.in-Parts.mid - 1)
    (len_of c.get_node-got.result - c.in-Parts.mid) =
    c.with_two-inner.ensures ∙ ap₂ (λ (x y : ℕ). with_two c.args.scope (x + 1) (c.in-Parts.mid - 1) (y - c.in-Parts.mid)) c.start.ensures c.len.ensures in
    parts_told s (fits_as o c.in-Parts.is) (sym c.in-Parts.is ∙ o)
    (shows_as c.behind-to.ensures i c.number_of-node-in-Parts.ensures c.get_node-branch-in-Parts.ensures.get_shows)
    (judged_as c.test_of-test-in-Parts.ensures c.judge-in-Parts.ensures) (later_as_lem _ c.steps-in-Parts.ensures c.later-in-Parts.ensures)

pub get_case-returns-in_default : goal.get_case-returns-in_default
get_case-returns-in_default t c =
    let d : is_refusal c.get_node-got.result ≡ false = sym c.is_refused.ensures ∙ c.if-is_refused.false in
    let s : Subject (here c.requires.kind_asked) c.args.own.kind c.args.own.from c.get_node-got.result c.get_node-got.new.arena c.shape_at.result =
    record {
      asked = c.requires.kind_asked;
      case = c.requires.case;
      gives = (as_node c.number_of-subject.ensures c.get_node-got.ensures.get_shows);
      sized = c.get_node-got.ensures.sized;
      done = d;
      shape = c.shape_at.ensures;
    } in
    let o : c.fits.result ≡ fit_of c.args.own.kind c.shape_at.result = c.fits.ensures in
    let e = fits_refused _ _ o (is_unfitting _ c.in_default.not-Plain c.in_default.not-Parts) in
    none_told s (fits_as e refl) e c.refused.ensures

pub get_each-get_node-got-requires : goal.get_each-get_node-got-requires
get_each-get_node-got-requires t c =
    (omega (arith, c.decreases), ready_node c.number_of-subject.ensures (each_asks c.requires.kind_asked c.requires.kind_value))

pub get_each-returns-then-is_refused : goal.get_each-returns-then-is_refused
get_each-returns-then-is_refused t c =
    each_refused c.requires.kind_asked c.requires.kind_value (as_node c.number_of-subject.ensures c.get_node-got.ensures.get_shows) (sym c.is_refused.ensures ∙
    c.if-is_refused.true)

pub get_each-returns-then-unfit : goal.get_each-returns-then-unfit
get_each-returns-then-unfit t c =
    let d : is_refusal c.get_node-got.result ≡ false = sym c.is_refused.ensures ∙ c.if-is_refused.false in
    let g : EachGot (here c.requires.kind_asked) c.args.own.kind c.args.own.from c.get_node-got.result c.get_node-got.new.arena =
    record {
      asked = c.requires.kind_asked;
      each = c.requires.kind_value;
      gives = (as_node c.number_of-subject.ensures c.get_node-got.ensures.get_shows);
      sized = c.get_node-got.ensures.sized;
      done = d;
    } in
    each_43 g (ap (λ (i : ℕ). unfit_rest 3 (get_or c.get_node-got.new.arena i 0)) (sym c.start-start.ensures) ∙ sym c.unfit.ensures ∙
    c.if-unfit.true) c.refused.ensures

pub get_each-returns-then-count-x : goal.get_each-returns-then-count-x
get_each-returns-then-count-x t c =
    let d : is_refusal c.get_node-got.result ≡ false = sym c.is_refused.ensures ∙ c.if-is_refused.false in
    let g : EachGot (here c.requires.kind_asked) c.args.own.kind c.args.own.from c.get_node-got.result c.get_node-got.new.arena =
    record {
      asked = c.requires.kind_asked;
      each = c.requires.kind_value;
      gives = (as_node c.number_of-subject.ensures c.get_node-got.ensures.get_shows);
      sized = c.get_node-got.ensures.sized;
      done = d;
    } in
    each_42 g (ap (λ (i : ℕ). unfit_rest 3 (get_or c.get_node-got.new.arena i 0)) (sym c.start-start.ensures) ∙ sym c.unfit.ensures ∙
    c.if-unfit.false) (omega (arith, c.number_of-x.ensures, c.if-count-x.true)) c.refused-then-count-x.ensures

pub get_each-get_members-list-requires : goal.get_each-get_members-list-requires
get_each-get_members-list-requires t c =
    let d : is_refusal c.get_node-got.result ≡ false = sym c.is_refused.ensures ∙ c.if-is_refused.false in
    let g : EachGot (here c.requires.kind_asked) c.args.own.kind c.args.own.from c.get_node-got.result c.get_node-got.new.arena =
    record {
      asked = c.requires.kind_asked;
      each = c.requires.kind_value;
      gives = (as_node c.number_of-subject.ensures c.get_node-got.ensures.get_shows);
      sized = c.get_node-got.ensures.sized;
      done = d;
    } in
    let i : Listed (here c.requires.kind_asked) c.args.own.kind c.args.own.from c.get_node-got.result c.get_node-got.new.arena
    c.section_root-root.result = record {
      got = g;
      fit = ap (λ (i : ℕ). unfit_rest 3 (get_or c.get_node-got.new.arena i 0)) (sym c.start-start.ensures) ∙ sym c.unfit.ensures ∙ c.if-unfit.false;
      inside = omega (arith, c.number_of-x.ensures, c.if-count-x.false);
      root_is = c.section_root-root.ensures ∙ ap (section_at c.args.sheet.now) c.number_of.ensures;
    } in
    let e : c.start-start.result + c.len.result ≡ start_of c.get_node-got.result + len_of c.get_node-got.result = ap₂ ◌+◌ c.start-start.ensures
    c.len.ensures in
    let l = levels_as c.behind-to.ensures in
    (omega (arith, c.decreases), members_as c.behind-to.ensures c.number_of-x.ensures c.start-start.ensures e (members_asks i))

pub get_each-bring-list-requires : goal.get_each-bring-list-requires
get_each-bring-list-requires t c =
    let d : is_refusal c.get_node-got.result ≡ false = sym c.is_refused.ensures ∙ c.if-is_refused.false in
    let g : EachGot (here c.requires.kind_asked) c.args.own.kind c.args.own.from c.get_node-got.result c.get_node-got.new.arena =
    record {
      asked = c.requires.kind_asked;
      each = c.requires.kind_value;
      gives = (as_node c.number_of-subject.ensures c.get_node-got.ensures.get_shows);
      sized = c.get_node-got.ensures.sized;
      done = d;
    } in
    let i : Listed (here c.requires.kind_asked) c.args.own.kind c.args.own.from c.get_node-got.result c.get_node-got.new.arena
    c.section_root-root.result = record {
      got = g;
      fit = ap (λ (i : ℕ). unfit_rest 3 (get_or c.get_node-got.new.arena i 0)) (sym c.start-start.ensures) ∙ sym c.unfit.ensures ∙ c.if-unfit.false;
      inside = omega (arith, c.number_of-x.ensures, c.if-count-x.false);
      root_is = c.section_root-root.ensures ∙ ap (section_at c.args.sheet.now) c.number_of.ensures;
    } in
    let e : c.start-start.result + c.len.result ≡ start_of c.get_node-got.result + len_of c.get_node-got.result = ap₂ ◌+◌ c.start-start.ensures
    c.len.ensures in
    let m : TellsMembers (behind_here (here c.requires.kind_asked) c.get_node-got.new.arena c.get_node-got.result) c.get_members-list.new.arena
    c.get_members-list.result
    (get_or c.args.sheet.now (c.args.own.from + 3) 0) c.section_root-root.result (start_of c.get_node-got.result)
    (start_of c.get_node-got.result + len_of c.get_node-got.result) =
    told_members_as c.behind-to.ensures c.number_of-x.ensures c.start-start.ensures e c.get_members-list.ensures in
    list_movable i m

pub get_each-returns : goal.get_each-returns
get_each-returns t c =
    let d : is_refusal c.get_node-got.result ≡ false = sym c.is_refused.ensures ∙ c.if-is_refused.false in
    let g : EachGot (here c.requires.kind_asked) c.args.own.kind c.args.own.from c.get_node-got.result c.get_node-got.new.arena =
    record {
      asked = c.requires.kind_asked;
      each = c.requires.kind_value;
      gives = (as_node c.number_of-subject.ensures c.get_node-got.ensures.get_shows);
      sized = c.get_node-got.ensures.sized;
      done = d;
    } in
    let i : Listed (here c.requires.kind_asked) c.args.own.kind c.args.own.from c.get_node-got.result c.get_node-got.new.arena
    c.section_root-root.result = record {
      got = g;
      fit = ap (λ (i : ℕ). unfit_rest 3 (get_or c.get_node-got.new.arena i 0)) (sym c.start-start.ensures) ∙ sym c.unfit.ensures ∙ c.if-unfit.false;
      inside = omega (arith, c.number_of-x.ensures, c.if-count-x.false);
      root_is = c.section_root-root.ensures ∙ ap (section_at c.args.sheet.now) c.number_of.ensures;
    } in
    let e : c.start-start.result + c.len.result ≡ start_of c.get_node-got.result + len_of c.get_node-got.result = ap₂ ◌+◌ c.start-start.ensures
    c.len.ensures in
    let m : TellsMembers (behind_here (here c.requires.kind_asked) c.get_node-got.new.arena c.get_node-got.result) c.get_members-list.new.arena
    c.get_members-list.result
    (get_or c.args.sheet.now (c.args.own.from + 3) 0) c.section_root-root.result (start_of c.get_node-got.result)
    (start_of c.get_node-got.result + len_of c.get_node-got.result) =
    told_members_as c.behind-to.ensures c.number_of-x.ensures c.start-start.ensures e c.get_members-list.ensures in
    each_told i m c.bring-list.ensures (later_as_lem _ c.steps.ensures c.later.ensures)

pub get_members-loop-arena-init : goal.get_members-loop-arena-init
get_members-loop-arena-init t c =
    (building_none _ refl refl refl, two_at_first)

pub get_members-bounds-arena-next : goal.get_members-bounds-arena-next
get_members-bounds-arena-next t c =
    let z = c.loop-arena.invariant.0 in
    let y = rest_inside c.requires c.loop-arena.invariant.0 in
    let b : (c.args.at.top ≤ c.loop-arena.to.top) × (c.loop-arena.to.top < scratch_size) × (c.loop-arena.next < c.args.end) × (c.args.end < scratch_size)
    × (length c.loop-arena.arena ≡ scratch_size) = (z.low, omega (arith, z.short), y.0, omega (arith, c.requires.room), z.kept.long ∙ c.requires.asked.long) in
    omega (arith, b.2, b.3, b.4)

pub get_members-first_bytes-mid-requires : goal.get_members-first_bytes-mid-requires
get_members-first_bytes-mid-requires t c =
    let z = c.loop-arena.invariant.0 in
    let y = rest_inside c.requires c.loop-arena.invariant.0 in
    let b : (c.args.at.top ≤ c.loop-arena.to.top) × (c.loop-arena.to.top < scratch_size) × (c.loop-arena.next < c.args.end) × (c.args.end < scratch_size)
    × (length c.loop-arena.arena ≡ scratch_size) = (z.low, omega (arith, z.short), y.0, omega (arith, c.requires.room), z.kept.long ∙ c.requires.asked.long) in
    (omega (arith, b.2), omega (arith, b.3, b.4))

pub get_members-overflow_cast-inner : goal.get_members-overflow_cast-inner
get_members-overflow_cast-inner t c =
    let u : Turning (members_here c.requires) c.args.x c.args.root c.args.start c.args.end c.loop-arena.arena c.loop-arena.to c.loop-arena.next
    c.first_bytes-mid.result =
    record { asked = c.requires; built = c.loop-arena.invariant.0; front = c.loop-arena-test.true; middle = c.first_bytes-mid.ensures } in
    let m = member_there u in
    omega (arith, m.1)

pub get_members-overflow_sub-inner : goal.get_members-overflow_sub-inner
get_members-overflow_sub-inner t c =
    let u : Turning (members_here c.requires) c.args.x c.args.root c.args.start c.args.end c.loop-arena.arena c.loop-arena.to c.loop-arena.next
    c.first_bytes-mid.result =
    record { asked = c.requires; built = c.loop-arena.invariant.0; front = c.loop-arena-test.true; middle = c.first_bytes-mid.ensures } in
    let m = member_there u in
    omega (arith, m.2)

pub get_members-overflow_cast-inner-in-loop-arena : goal.get_members-overflow_cast-inner-in-loop-arena
get_members-overflow_cast-inner-in-loop-arena t c =
    let u : Turning (members_here c.requires) c.args.x c.args.root c.args.start c.args.end c.loop-arena.arena c.loop-arena.to c.loop-arena.next
    c.first_bytes-mid.result =
    record { asked = c.requires; built = c.loop-arena.invariant.0; front = c.loop-arena-test.true; middle = c.first_bytes-mid.ensures } in
    let m = member_there u in
    omega (arith, m.3)

pub get_members-get_node-got-requires : goal.get_members-get_node-got-requires
get_members-get_node-got-requires t c =
    let z = c.loop-arena.invariant.0 in
    let y = rest_inside c.requires c.loop-arena.invariant.0 in
    let b : (c.args.at.top ≤ c.loop-arena.to.top) × (c.loop-arena.to.top < scratch_size) × (c.loop-arena.next < c.args.end) × (c.args.end < scratch_size)
    × (length c.loop-arena.arena ≡ scratch_size) = (z.low, omega (arith, z.short), y.0, omega (arith, c.requires.room), z.kept.long ∙ c.requires.asked.long) in
    let u : Turning (members_here c.requires) c.args.x c.args.root c.args.start c.args.end c.loop-arena.arena c.loop-arena.to c.loop-arena.next
    c.first_bytes-mid.result =
    record { asked = c.requires; built = c.loop-arena.invariant.0; front = c.loop-arena-test.true; middle = c.first_bytes-mid.ensures } in
    let k : Marked 3 c.loop-arena.to.top c.loop-arena.arena (set c.loop-arena.arena c.loop-arena.to.top 3) = marked 3 _ _ (omega (arith, b.1, b.4)) in
    let m = member_there u in
    let i : renewed c.loop-arena.inner (c.loop-arena.next + 1) (c.first_bytes-mid.result - 2) (get_or c.args.scope.starts c.args.x 0)
    (get_or c.args.scope.lens c.args.x 0)
    ≡ with_member c.args.scope c.args.x (c.loop-arena.next + 1) (c.first_bytes-mid.result - 1) = two_member _ _ _ (omega
    (arith, m.2)) c.loop-arena.invariant.1 in
    let l = levels_as c.raised-one.ensures in
    (omega (arith, c.decreases, c.loop-arena.invariant.0.level), ready_as c.raised-one.ensures i refl (turn_asks u k))

pub get_members-returns-then-is_refused : goal.get_members-returns-then-is_refused
get_members-returns-then-is_refused t c =
    let z = c.loop-arena.invariant.0 in
    let y = rest_inside c.requires c.loop-arena.invariant.0 in
    let b : (c.args.at.top ≤ c.loop-arena.to.top) × (c.loop-arena.to.top < scratch_size) × (c.loop-arena.next < c.args.end) × (c.args.end < scratch_size)
    × (length c.loop-arena.arena ≡ scratch_size) = (z.low, omega (arith, z.short), y.0, omega (arith, c.requires.room), z.kept.long ∙ c.requires.asked.long) in
    let u : Turning (members_here c.requires) c.args.x c.args.root c.args.start c.args.end c.loop-arena.arena c.loop-arena.to c.loop-arena.next
    c.first_bytes-mid.result =
    record { asked = c.requires; built = c.loop-arena.invariant.0; front = c.loop-arena-test.true; middle = c.first_bytes-mid.ensures } in
    let k : Marked 3 c.loop-arena.to.top c.loop-arena.arena (set c.loop-arena.arena c.loop-arena.to.top 3) = marked 3 _ _ (omega (arith, b.1, b.4)) in
    let m = member_there u in
    let i : renewed c.loop-arena.inner (c.loop-arena.next + 1) (c.first_bytes-mid.result - 2) (get_or c.args.scope.starts c.args.x 0)
    (get_or c.args.scope.lens c.args.x 0)
    ≡ with_member c.args.scope c.args.x (c.loop-arena.next + 1) (c.first_bytes-mid.result - 1) = two_member _ _ _ (omega
    (arith, m.2)) c.loop-arena.invariant.1 in
    let v : AtTop (turn_here u k) c.bring-a.new.arena c.bring-a.result c.args.root =
    at_top (turn_asks u k) (shows_as c.raised-one.ensures i refl c.get_node-got.ensures.get_shows)
    (sized_as c.raised-one.ensures c.get_node-got.ensures.sized) (brought_as c.raised-one.ensures c.bring-a.ensures) in
    let f : Fronted c.args.at.top c.loop-arena.to.top c.bring-a.result c.fronted-front.result = fronted_by b.0 c.fronted-front.ensures in
    turn_refused u k v f (sym c.is_refused.ensures ∙ c.if-is_refused.true)

pub get_members-behind-to-requires : goal.get_members-behind-to-requires
get_members-behind-to-requires t c =
    let z = c.loop-arena.invariant.0 in
    let y = rest_inside c.requires c.loop-arena.invariant.0 in
    let b : (c.args.at.top ≤ c.loop-arena.to.top) × (c.loop-arena.to.top < scratch_size) × (c.loop-arena.next < c.args.end) × (c.args.end < scratch_size)
    × (length c.loop-arena.arena ≡ scratch_size) = (z.low, omega (arith, z.short), y.0, omega (arith, c.requires.room), z.kept.long ∙ c.requires.asked.long) in
    let u : Turning (members_here c.requires) c.args.x c.args.root c.args.start c.args.end c.loop-arena.arena c.loop-arena.to c.loop-arena.next
    c.first_bytes-mid.result =
    record { asked = c.requires; built = c.loop-arena.invariant.0; front = c.loop-arena-test.true; middle = c.first_bytes-mid.ensures } in
    let k : Marked 3 c.loop-arena.to.top c.loop-arena.arena (set c.loop-arena.arena c.loop-arena.to.top 3) = marked 3 _ _ (omega (arith, b.1, b.4)) in
    let m = member_there u in
    let i : renewed c.loop-arena.inner (c.loop-arena.next + 1) (c.first_bytes-mid.result - 2) (get_or c.args.scope.starts c.args.x 0)
    (get_or c.args.scope.lens c.args.x 0)
    ≡ with_member c.args.scope c.args.x (c.loop-arena.next + 1) (c.first_bytes-mid.result - 1) = two_member _ _ _ (omega
    (arith, m.2)) c.loop-arena.invariant.1 in
    let v : AtTop (turn_here u k) c.bring-a.new.arena c.bring-a.result c.args.root =
    at_top (turn_asks u k) (shows_as c.raised-one.ensures i refl c.get_node-got.ensures.get_shows)
    (sized_as c.raised-one.ensures c.get_node-got.ensures.sized) (brought_as c.raised-one.ensures c.bring-a.ensures) in
    let f : Fronted c.args.at.top c.loop-arena.to.top c.bring-a.result c.fronted-front.result = fronted_by b.0 c.fronted-front.ensures in
    let h : is_refusal c.fronted-front.result ≡ false = sym c.is_refused.ensures ∙ c.if-is_refused.false in
    turn_steps u k v f h

pub get_members-overflow_add-next : goal.get_members-overflow_add-next
get_members-overflow_add-next t c =
    let z = c.loop-arena.invariant.0 in
    let y = rest_inside c.requires c.loop-arena.invariant.0 in
    let b : (c.args.at.top ≤ c.loop-arena.to.top) × (c.loop-arena.to.top < scratch_size) × (c.loop-arena.next < c.args.end) × (c.args.end < scratch_size)
    × (length c.loop-arena.arena ≡ scratch_size) = (z.low, omega (arith, z.short), y.0, omega (arith, c.requires.room), z.kept.long ∙ c.requires.asked.long) in
    let u : Turning (members_here c.requires) c.args.x c.args.root c.args.start c.args.end c.loop-arena.arena c.loop-arena.to c.loop-arena.next
    c.first_bytes-mid.result =
    record { asked = c.requires; built = c.loop-arena.invariant.0; front = c.loop-arena-test.true; middle = c.first_bytes-mid.ensures } in
    let m = member_there u in
    record { fits = omega (arith, m.4, b.3) }

pub get_members-loop-arena-smaller : goal.get_members-loop-arena-smaller
get_members-loop-arena-smaller t c =
    let u : Turning (members_here c.requires) c.args.x c.args.root c.args.start c.args.end c.loop-arena.arena c.loop-arena.to c.loop-arena.next
    c.first_bytes-mid.result =
    record { asked = c.requires; built = c.loop-arena.invariant.0; front = c.loop-arena-test.true; middle = c.first_bytes-mid.ensures } in
    let m = member_there u in
    omega (arith, m.2, m.4)

pub get_members-loop-arena-preserved : goal.get_members-loop-arena-preserved
get_members-loop-arena-preserved t c =
    let z = c.loop-arena.invariant.0 in
    let y = rest_inside c.requires c.loop-arena.invariant.0 in
    let b : (c.args.at.top ≤ c.loop-arena.to.top) × (c.loop-arena.to.top < scratch_size) × (c.loop-arena.next < c.args.end) × (c.args.end < scratch_size)
    × (length c.loop-arena.arena ≡ scratch_size) = (z.low, omega (arith, z.short), y.0, omega (arith, c.requires.room), z.kept.long ∙ c.requires.asked.long) in
    let u : Turning (members_here c.requires) c.args.x c.args.root c.args.start c.args.end c.loop-arena.arena c.loop-arena.to c.loop-arena.next
    c.first_bytes-mid.result =
    record { asked = c.requires; built = c.loop-arena.invariant.0; front = c.loop-arena-test.true; middle = c.first_bytes-mid.ensures } in
    let k : Marked 3 c.loop-arena.to.top c.loop-arena.arena (set c.loop-arena.arena c.loop-arena.to.top 3) = marked 3 _ _ (omega (arith, b.1, b.4)) in
    let m = member_there u in
    let i : renewed c.loop-arena.inner (c.loop-arena.next + 1) (c.first_bytes-mid.result - 2) (get_or c.args.scope.starts c.args.x 0)
    (get_or c.args.scope.lens c.args.x 0)
    ≡ with_member c.args.scope c.args.x (c.loop-arena.next + 1) (c.first_bytes-mid.result - 1) = two_member _ _ _ (omega
    (arith, m.2)) c.loop-arena.invariant.1 in
    let v : AtTop (turn_here u k) c.bring-a.new.arena c.bring-a.result c.args.root =
    at_top (turn_asks u k) (shows_as c.raised-one.ensures i refl c.get_node-got.ensures.get_shows)
    (sized_as c.raised-one.ensures c.get_node-got.ensures.sized) (brought_as c.raised-one.ensures c.bring-a.ensures) in
    let f : Fronted c.args.at.top c.loop-arena.to.top c.bring-a.result c.fronted-front.result = fronted_by b.0 c.fronted-front.ensures in
    let h : is_refusal c.fronted-front.result ≡ false = sym c.is_refused.ensures ∙ c.if-is_refused.false in
    let n = turn_done u k v f h in
    (rw c.behind-to.ensures n, two_again _ _ _ _ c.loop-arena.invariant.1)

pub get_members-returns : goal.get_members-returns
get_members-returns t c =
    let z = c.loop-arena.invariant.0 in
    let y = rest_inside c.requires c.loop-arena.invariant.0 in
    let b : (c.args.at.top ≤ c.loop-arena.to.top) × (c.loop-arena.to.top < scratch_size) × (c.loop-arena.next < c.args.end) × (c.args.end < scratch_size)
    × (length c.loop-arena.arena ≡ scratch_size) = (z.low, omega (arith, z.short), y.0, omega (arith, c.requires.room), z.kept.long ∙ c.requires.asked.long) in
    let k : Marked 2 c.loop-arena.to.top c.loop-arena.arena (set c.loop-arena.arena c.loop-arena.to.top 2) = marked 2 _ _ (omega (arith, b.1, b.4)) in
    members_end c.requires c.loop-arena.invariant.0 c.loop-arena-test.false k c.done.ensures

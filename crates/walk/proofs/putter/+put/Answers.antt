-- Each return and each call of put's functions is one law of `specs/Put/`, from what is known at that place of the code.
use Prim.Native.Nat.{ℕ, ◌+◌, ◌-◌, ◌/◌, ◌%◌, ◌<◌, ◌≤◌}
use native.Mathlib.Omega.{arith}
use mathlib.Core.Path.{◌≡◌, ap, ap₂, ◌∙◌, refl, sym}
use mathlib.Core.Bool.{false}
use mathlib.Core.List.{List, [], ◌∷◌}
use lib.ListN.{get_or, take, drop, length, length-drop, length-set}
use lib.Seq.{take_all}
use borrow.Author.Tests.{ltb-true, ltb-false}
use Rattle.outcome.specs.Outcome.{is_refusal, done_as, start_of, len_of, steps_of, start_small, later_as_lem, len_small, steps_small}
use Rattle.rules.specs.Numbers.{variable_limit}
use Rattle.std.specs.Option.{unwrap_or}
use Rattle.std.specs.Prelude.{Option}
use Rattle.walk.specs.Members.{first_bytes_of}
use Rattle.shapes.specs.Parts.{shape_of, middle_of, first_part, passes_bytes}
use Rattle.shapes.specs.declared.Shape.TheVariants.{Number}
use Rattle.sheet.specs.Table.{section_at}
use Rattle.scopes.specs.Scopes.{picked, picked_two, added_two, front_two, place_of}
use Rattle.scopes.specs.ScopesLaws.{in_room_lem}
use Rattle.decisions.specs.Decisions.{apart_of, take_of, made_of, unfit_rest}
use Rattle.decisions.specs.DecisionLaws.{entered as both_left, took}
use Rattle.decisions.specs.declared.Branch.TheVariants.{Plain, Parts, Switch, Refused}
use Rattle.walk.specs.declared.at.At.{At as Where}
use Rattle.walk.specs.declared.putter.Members.{Members}
use Rattle.walk.specs.declared.putter.Parts.{Parts as PartsOf}
use Rattle.walk.specs.Decoded.{left_as_lem, left_by}
use Rattle.walk.specs.Moves.{behind_of, with_cell_of, raised_of}
use Rattle.walk.specs.Scope.{with_member}
use Rattle.walk.specs.Arena.{below_ends}
use Rattle.walk.specs.Arena.Cells.{Shown}
use Rattle.walk.specs.Get.{levels_as, ready_node, as_node}
use Rattle.walk.specs.Get.Add.{amount_at}
use Rattle.walk.specs.Get.Case.{case_kind}
use Rattle.walk.specs.Get.Enter.{entry_code, node_few}
use Rattle.walk.specs.Get.Leaf.{sum_as}
use Rattle.walk.specs.Get.Two.{two_kind}
use Rattle.walk.specs.Put.{enter, put_here, put_there, PutTold, Few, KindAsked, TaskTells}
use Rattle.walk.specs.Put.Requires.{few, inner_at, ready_as, shows_as, ready_at, gives_at, few_at, ready_view, gives_view}
use Rattle.walk.specs.Put.Enter.{PutEntered, enter_refused, its_kind, body_ready, body_told, own_as}
use Rattle.walk.specs.Put.Leaf.{wide_told}
use Rattle.walk.specs.Put.Add as of_add
use Rattle.walk.specs.Put.Call as of_call
use Rattle.walk.specs.Put.Case as of_case
use Rattle.walk.specs.Put.Each as of_each
use Rattle.walk.specs.Put.Member as of_member
use Rattle.walk.specs.Put.Members as of_members
use Rattle.walk.specs.Put.Rebuilt as of_rebuilt
use Rattle.walk.specs.Put.Switch as of_switch
use Rattle.walk.specs.Put.Two as of_two
use Rattle.walk.specs.Put.Under as of_under
use Rattle.walk.proofs.putter.+put.Goals as goal

pub put_add-returns-in_default : goal.put_add-returns-in_default
put_add-returns-in_default t c =
    of_add.add_51 c.requires.kind_asked c.requires.kind_value (λ i q. c.in_default.not-Number i (c.shape_of.ensures ∙ sym q)) c.refused.ensures

pub put_add-returns-then-m-amount : goal.put_add-returns-then-m-amount
put_add-returns-then-m-amount t c =
    let n : Number c.in-Number.m ≡ shape_of c.args.view.now = sym c.in-Number.is ∙ c.shape_of.ensures in
    let m : c.from_be_bytes-amount.result ≡ amount_at c.args.sheet.now c.args.own.from
    = sum_as _ _ c.from_be_bytes-amount.ensures c.byte_of.ensures c.byte_of-2.ensures in
    of_add.add_52 c.requires.kind_asked c.requires.kind_value n (omega (arith, m, c.if-m-amount.true)) c.refused-then-m-amount.ensures

pub put_add-put_node-requires : goal.put_add-put_node-requires
put_add-put_node-requires t c =
    let n : Number c.in-Number.m ≡ shape_of c.args.view.now = sym c.in-Number.is ∙ c.shape_of.ensures in
    let m : c.from_be_bytes-amount.result ≡ amount_at c.args.sheet.now c.args.own.from
    = sum_as _ _ c.from_be_bytes-amount.ensures c.byte_of.ensures c.byte_of-2.ensures in
    let v : c.number-less.result ≡ of_add.less_view c.requires.kind_asked c.requires.kind_value n =
    c.number-less.ensures ∙ ap (λ (x : ℕ). 4 ∷ (c.in-Number.m - x) / 256 ∷ (c.in-Number.m - x) % 256 ∷ []) m in (
      omega (arith, c.decreases),
      ready_view v (ready_as {at = c.args.at} refl refl refl c.number_of-node.ensures (of_add.add_asks c.requires.kind_asked
          c.requires.kind_value n)),
    )

pub put_add-returns : goal.put_add-returns
put_add-returns t c =
    let n : Number c.in-Number.m ≡ shape_of c.args.view.now = sym c.in-Number.is ∙ c.shape_of.ensures in
    let m : c.from_be_bytes-amount.result ≡ amount_at c.args.sheet.now c.args.own.from
    = sum_as _ _ c.from_be_bytes-amount.ensures c.byte_of.ensures c.byte_of-2.ensures in
    let v : c.number-less.result ≡ of_add.less_view c.requires.kind_asked c.requires.kind_value n =
    c.number-less.ensures ∙ ap (λ (x : ℕ). 4 ∷ (c.in-Number.m - x) / 256 ∷ (c.in-Number.m - x) % 256 ∷ []) m in
    of_add.add_told c.requires.kind_asked c.requires.kind_value n (omega (arith, m, c.if-m-amount.false))
    (gives_view v (shows_as {at = c.args.at} refl refl refl c.number_of-node.ensures c.put_node.ensures.task_tells))

pub put_both-put_node-one-requires : goal.put_both-put_node-one-requires
put_both-put_node-one-requires t c =
    (omega (arith, c.decreases), of_two.both_asks₁ c.requires.task_asked)

pub put_both-returns-then-is_refused : goal.put_both-returns-then-is_refused
put_both-returns-then-is_refused t c =
    λ u q. of_two.both_refused c.requires.task_asked c.put_node-one.ensures.task_tells (sym c.is_refused.ensures ∙ c.if-is_refused.true) u

pub put_both-after-then-requires : goal.put_both-after-then-requires
put_both-after-then-requires t c =
    let d : is_refusal c.put_node-one.result ≡ false = sym c.is_refused.ensures ∙ c.if-is_refused.false in
    c.put_node-one.ensures.few.at d

pub put_both-put_node-two-requires : goal.put_both-put_node-two-requires
put_both-put_node-two-requires t c =
    let d : is_refusal c.put_node-one.result ≡ false = sym c.is_refused.ensures ∙ c.if-is_refused.false in
    let l = levels_as c.after-then.ensures in (
      omega (arith, c.decreases),
      ready_at c.after-then.ensures (of_two.both_asks₂ c.requires.task_asked c.put_node-one.ensures.task_tells d
          c.requires.some_view),
    )

pub put_both-returns : goal.put_both-returns
put_both-returns t c =
    let d : is_refusal c.put_node-one.result ≡ false = sym c.is_refused.ensures ∙ c.if-is_refused.false in
    of_two.both_told c.requires.task_asked c.put_node-one.ensures.task_tells d c.put_node-one.ensures.few
    (few_at c.after-then.ensures c.put_node-two.ensures.few) (gives_at c.after-then.ensures c.put_node-two.ensures.task_tells)
    (later_as_lem _ c.steps.ensures c.later.ensures)

pub put_call-returns-then-count-x : goal.put_call-returns-then-count-x
put_call-returns-then-count-x t c =
    of_call.call_42₁ c.requires.kind_asked c.requires.kind_value (omega (arith, c.number_of-x.ensures, c.if-count-x.true)) c.refused.ensures

pub put_call-returns-then-count-y : goal.put_call-returns-then-count-y
put_call-returns-then-count-y t c =
    of_call.call_42₂ c.requires.kind_asked c.requires.kind_value (omega (arith, c.number_of-x.ensures, c.if-count-x.false))
    (omega (arith, c.number_of-y.ensures, c.if-count-y.true)) c.refused-then-count-y.ensures

pub put_call-put_node-requires : goal.put_call-put_node-requires
put_call-put_node-requires t c =
    let l : of_call.PutLooked (put_here c.requires.kind_asked) (Shown c.args.view.now) c.args.own.node c.args.own.kind c.args.own.from
    c.section_root-root.result = record {
      asked = c.requires.kind_asked;
      call = c.requires.kind_value;
      first_in = omega (arith, c.number_of-x.ensures, c.if-count-x.false);
      second_in = omega (arith, c.number_of-y.ensures, c.if-count-y.false);
      root_is = c.section_root-root.ensures ∙ ap (section_at c.args.sheet.now) c.number_of.ensures;
    } in
    let v = c.requires.kind_asked.variables in
    let x : c.number_of-x.result < variable_limit = omega (arith, v, c.if-count-x.false) in
    let y : c.number_of-y.result < variable_limit = omega (arith, v, c.if-count-y.false) in
    let s : c.section-inner.result ≡ picked c.args.scope (get_or c.args.sheet.now (c.args.own.from + 2) 0) (get_or c.args.sheet.now (c.args.own.from + 3) 0) =
    c.section-inner.ensures ∙ ap₂ (picked c.args.scope) (in_room_lem x ∙ c.number_of-x.ensures) (in_room_lem y ∙ c.number_of-y.ensures) in
    let p : c.pick_cells-two.result ≡ picked_two c.args.cells.now (get_or c.args.sheet.now (c.args.own.from + 2) 0) (get_or c.args.sheet.now
    (c.args.own.from + 3) 0) =
    c.pick_cells-two.ensures.inside (x, y) ∙ ap₂ (picked_two c.args.cells.now) c.number_of-x.ensures c.number_of-y.ensures in
    (omega (arith, c.decreases), ready_as {at = c.args.at} refl s p refl (of_call.call_asks l))

pub put_call-returns : goal.put_call-returns
put_call-returns t c =
    let l : of_call.PutLooked (put_here c.requires.kind_asked) (Shown c.args.view.now) c.args.own.node c.args.own.kind c.args.own.from
    c.section_root-root.result = record {
      asked = c.requires.kind_asked;
      call = c.requires.kind_value;
      first_in = omega (arith, c.number_of-x.ensures, c.if-count-x.false);
      second_in = omega (arith, c.number_of-y.ensures, c.if-count-y.false);
      root_is = c.section_root-root.ensures ∙ ap (section_at c.args.sheet.now) c.number_of.ensures;
    } in
    let v = c.requires.kind_asked.variables in
    let x : c.number_of-x.result < variable_limit = omega (arith, v, c.if-count-x.false) in
    let y : c.number_of-y.result < variable_limit = omega (arith, v, c.if-count-y.false) in
    let s : c.section-inner.result ≡ picked c.args.scope (get_or c.args.sheet.now (c.args.own.from + 2) 0) (get_or c.args.sheet.now (c.args.own.from + 3) 0) =
    c.section-inner.ensures ∙ ap₂ (picked c.args.scope) (in_room_lem x ∙ c.number_of-x.ensures) (in_room_lem y ∙ c.number_of-y.ensures) in
    let p : c.pick_cells-two.result ≡ picked_two c.args.cells.now (get_or c.args.sheet.now (c.args.own.from + 2) 0) (get_or c.args.sheet.now
    (c.args.own.from + 3) 0) =
    c.pick_cells-two.ensures.inside (x, y) ∙ ap₂ (picked_two c.args.cells.now) c.number_of-x.ensures c.number_of-y.ensures in
    of_call.call_told l (shows_as {at = c.args.at} refl s p refl c.put_node.ensures.task_tells)

pub put_two-returns-in_default : goal.put_two-returns-in_default
put_two-returns-in_default t c =
    of_two.two_51 c.requires.kind_asked c.requires.two (sym c.in_default.is ∙ c.take_apart.ensures ∙ ap (apart_of c.args.own.kind) c.shape_of.ensures)
    c.refused.ensures

pub put_two-put_node-one-requires : goal.put_two-put_node-one-requires
put_two-put_node-one-requires t c =
    let a : of_two.TakenApart (put_here c.requires.kind_asked) c.args.view.now c.args.own.node c.args.own.kind c.args.own.from c.in-At.mid
    c.first_part-left.result.now
    c.second_part-right.result.now = record {
      asked = c.requires.kind_asked;
      two = c.requires.two;
      apart = sym c.in-At.is ∙ c.take_apart.ensures ∙ ap (apart_of c.args.own.kind) c.shape_of.ensures;
      first = c.first_part-left.ensures;
      second = c.second_part-right.ensures;
    } in
    (omega (arith, c.decreases), ready_as {at = c.args.at} refl refl refl c.number_of-a.ensures (of_two.both_asks₁ (of_two.two_asks a)))

pub put_two-returns-then-is_refused : goal.put_two-returns-then-is_refused
put_two-returns-then-is_refused t c =
    let a : of_two.TakenApart (put_here c.requires.kind_asked) c.args.view.now c.args.own.node c.args.own.kind c.args.own.from c.in-At.mid
    c.first_part-left.result.now
    c.second_part-right.result.now = record {
      asked = c.requires.kind_asked;
      two = c.requires.two;
      apart = sym c.in-At.is ∙ c.take_apart.ensures ∙ ap (apart_of c.args.own.kind) c.shape_of.ensures;
      first = c.first_part-left.ensures;
      second = c.second_part-right.ensures;
    } in
    let o : PutTold (put_here c.requires.kind_asked) (Shown c.first_part-left.result.now) c.put_node-one.new.arena c.put_node-one.new.slots
    c.put_node-one.result
    (enter (get_or c.args.sheet.now (c.args.own.from + 1) 0)) =
    shows_as {at = c.args.at} refl refl refl c.number_of-a.ensures c.put_node-one.ensures.task_tells in
    of_two.two_told a (λ u q. of_two.both_refused (of_two.two_asks a) o (sym c.is_refused.ensures ∙ c.if-is_refused.true) u)

pub put_two-after-then-requires : goal.put_two-after-then-requires
put_two-after-then-requires t c =
    let d : is_refusal c.put_node-one.result ≡ false = sym c.is_refused.ensures ∙ c.if-is_refused.false in
    c.put_node-one.ensures.few.at d

pub put_two-put_node-two-requires : goal.put_two-put_node-two-requires
put_two-put_node-two-requires t c =
    let a : of_two.TakenApart (put_here c.requires.kind_asked) c.args.view.now c.args.own.node c.args.own.kind c.args.own.from c.in-At.mid
    c.first_part-left.result.now
    c.second_part-right.result.now = record {
      asked = c.requires.kind_asked;
      two = c.requires.two;
      apart = sym c.in-At.is ∙ c.take_apart.ensures ∙ ap (apart_of c.args.own.kind) c.shape_of.ensures;
      first = c.first_part-left.ensures;
      second = c.second_part-right.ensures;
    } in
    let o : PutTold (put_here c.requires.kind_asked) (Shown c.first_part-left.result.now) c.put_node-one.new.arena c.put_node-one.new.slots
    c.put_node-one.result
    (enter (get_or c.args.sheet.now (c.args.own.from + 1) 0)) =
    shows_as {at = c.args.at} refl refl refl c.number_of-a.ensures c.put_node-one.ensures.task_tells in
    let d : is_refusal c.put_node-one.result ≡ false = sym c.is_refused.ensures ∙ c.if-is_refused.false in
    let l = levels_as c.after-then.ensures in (
      omega (arith, c.decreases),
      ready_as c.after-then.ensures refl refl c.number_of-b.ensures (of_two.both_asks₂ (of_two.two_asks a) o d
          (of_two.right_view a)),
    )

pub put_two-returns : goal.put_two-returns
put_two-returns t c =
    let a : of_two.TakenApart (put_here c.requires.kind_asked) c.args.view.now c.args.own.node c.args.own.kind c.args.own.from c.in-At.mid
    c.first_part-left.result.now
    c.second_part-right.result.now = record {
      asked = c.requires.kind_asked;
      two = c.requires.two;
      apart = sym c.in-At.is ∙ c.take_apart.ensures ∙ ap (apart_of c.args.own.kind) c.shape_of.ensures;
      first = c.first_part-left.ensures;
      second = c.second_part-right.ensures;
    } in
    let o : PutTold (put_here c.requires.kind_asked) (Shown c.first_part-left.result.now) c.put_node-one.new.arena c.put_node-one.new.slots
    c.put_node-one.result
    (enter (get_or c.args.sheet.now (c.args.own.from + 1) 0)) =
    shows_as {at = c.args.at} refl refl refl c.number_of-a.ensures c.put_node-one.ensures.task_tells in
    let d : is_refusal c.put_node-one.result ≡ false = sym c.is_refused.ensures ∙ c.if-is_refused.false in
    of_two.two_told a (of_two.both_told (of_two.two_asks a) o d c.put_node-one.ensures.few (few_at c.after-then.ensures c.put_node-two.ensures.few)
    (shows_as c.after-then.ensures refl refl c.number_of-b.ensures c.put_node-two.ensures.task_tells) (later_as_lem _ c.steps.ensures c.later.ensures))

pub put_node-returns-in-Err : goal.put_node-returns-in-Err
put_node-returns-in-Err t c =
    let g = enter_refused c.requires (entry_code _ _ _ c.in-Err.ensures)
    (left_as_lem c.refused.ensures (left_by (node_few c.requires.sheet c.requires.known) (omega (arith, c.requires.room))
    (c.leave.ensures.value, c.leave.ensures.arena_after))) in
    record { task_tells = g; few = few c.requires g }

pub put_node-offset_bounds-table-node : goal.put_node-offset_bounds-table-node
put_node-offset_bounds-table-node t c =
    let f : c.args.node < 200 = node_few c.requires.sheet c.requires.known in
    record { fits = omega arith }

pub put_node-bounds-table-node : goal.put_node-bounds-table-node
put_node-bounds-table-node t c =
    node_few c.requires.sheet c.requires.known

pub put_node-below-to-requires : goal.put_node-below-to-requires
put_node-below-to-requires t c =
    let d : (c.args.at.levels ≡ 0 → ⊥) × (c.args.at.left ≡ 0 → ⊥) = both_left _ _ _ c.entry.ensures c.in_default.not-Err in
    (omega (arith, d.0), omega (arith, d.1))

pub put_node-put_leaf-put-requires : goal.put_node-put_leaf-put-requires
put_node-put_leaf-put-requires t c =
    let d : (c.args.at.levels ≡ 0 → ⊥) × (c.args.at.left ≡ 0 → ⊥) = both_left _ _ _ c.entry.ensures c.in_default.not-Err in
    let b : PutEntered c.args.sheet.now c.args.table.now c.args.arena.now c.args.slots.now (Shown c.args.view.now) c.args.scope c.args.cells.now c.args.at.cells
    c.args.at.top c.args.at.levels c.args.at.left c.args.node
    c.byte_of-kind.result = record { asked = c.requires; deep = d.0; paid = d.1; kind = c.byte_of-kind.ensures } in
    record { kind_asked = own_as c.below-to.ensures (body_ready b); childless = record { low = (its_kind b).0; high = omega (arith, c.if-kind-lt21.true) } }

pub put_node-returns-then-kind-lt21 : goal.put_node-returns-then-kind-lt21
put_node-returns-then-kind-lt21 t c =
    let d : (c.args.at.levels ≡ 0 → ⊥) × (c.args.at.left ≡ 0 → ⊥) = both_left _ _ _ c.entry.ensures c.in_default.not-Err in
    let b : PutEntered c.args.sheet.now c.args.table.now c.args.arena.now c.args.slots.now (Shown c.args.view.now) c.args.scope c.args.cells.now c.args.at.cells
    c.args.at.top c.args.at.levels c.args.at.left c.args.node
    c.byte_of-kind.result = record { asked = c.requires; deep = d.0; paid = d.1; kind = c.byte_of-kind.ensures } in
    let p : TaskTells c.args.sheet.now c.args.arena.now c.leave-then-kind-lt21.new.arena c.args.slots.now c.put_leaf-put.new.slots c.args.scope
    c.args.cells.now c.args.view.now
    c.args.at c.leave-then-kind-lt21.result (enter c.args.node) × Few c.args.at.left c.leave-then-kind-lt21.result = body_told b
    (gives_at c.below-to.ensures c.put_leaf-put.ensures) (left_by (node_few c.requires.sheet c.requires.known) (omega (arith, c.requires.room))
    (c.leave-then-kind-lt21.ensures.value, c.leave-then-kind-lt21.ensures.arena_after)) in
    record { task_tells = p.0; few = p.1 }

pub put_node-put_two-put-requires : goal.put_node-put_two-put-requires
put_node-put_two-put-requires t c =
    let d : (c.args.at.levels ≡ 0 → ⊥) × (c.args.at.left ≡ 0 → ⊥) = both_left _ _ _ c.entry.ensures c.in_default.not-Err in
    let b : PutEntered c.args.sheet.now c.args.table.now c.args.arena.now c.args.slots.now (Shown c.args.view.now) c.args.scope c.args.cells.now c.args.at.cells
    c.args.at.top c.args.at.levels c.args.at.left c.args.node
    c.byte_of-kind.result = record { asked = c.requires; deep = d.0; paid = d.1; kind = c.byte_of-kind.ensures } in
    let l = levels_as c.below-to.ensures in (
      omega (arith, d.0, c.decreases),
      (
        own_as c.below-to.ensures (body_ready b),
        two_kind (omega (arith, c.if-kind-lt21.false)) (omega (
          arith,
          c.if-kind-lt23.true,
        )),
      ),
    )

pub put_node-returns-then-kind-lt23 : goal.put_node-returns-then-kind-lt23
put_node-returns-then-kind-lt23 t c =
    let d : (c.args.at.levels ≡ 0 → ⊥) × (c.args.at.left ≡ 0 → ⊥) = both_left _ _ _ c.entry.ensures c.in_default.not-Err in
    let b : PutEntered c.args.sheet.now c.args.table.now c.args.arena.now c.args.slots.now (Shown c.args.view.now) c.args.scope c.args.cells.now c.args.at.cells
    c.args.at.top c.args.at.levels c.args.at.left c.args.node
    c.byte_of-kind.result = record { asked = c.requires; deep = d.0; paid = d.1; kind = c.byte_of-kind.ensures } in
    let p : TaskTells c.args.sheet.now c.args.arena.now c.leave-then-kind-lt23.new.arena c.args.slots.now c.put_two-put.new.slots c.args.scope c.args.cells.now
    c.args.view.now
    c.args.at c.leave-then-kind-lt23.result (enter c.args.node) × Few c.args.at.left c.leave-then-kind-lt23.result = body_told b
    (gives_at c.below-to.ensures c.put_two-put.ensures) (left_by (node_few c.requires.sheet c.requires.known) (omega (arith, c.requires.room))
    (c.leave-then-kind-lt23.ensures.value, c.leave-then-kind-lt23.ensures.arena_after)) in
    record { task_tells = p.0; few = p.1 }

pub put_node-put_case-put-requires : goal.put_node-put_case-put-requires
put_node-put_case-put-requires t c =
    let d : (c.args.at.levels ≡ 0 → ⊥) × (c.args.at.left ≡ 0 → ⊥) = both_left _ _ _ c.entry.ensures c.in_default.not-Err in
    let b : PutEntered c.args.sheet.now c.args.table.now c.args.arena.now c.args.slots.now (Shown c.args.view.now) c.args.scope c.args.cells.now c.args.at.cells
    c.args.at.top c.args.at.levels c.args.at.left c.args.node
    c.byte_of-kind.result = record { asked = c.requires; deep = d.0; paid = d.1; kind = c.byte_of-kind.ensures } in
    let l = levels_as c.below-to.ensures in (
      omega (arith, d.0, c.decreases),
      (
        own_as c.below-to.ensures (body_ready b),
        case_kind (omega (arith, c.if-kind-lt23.false)) (omega (
          arith,
          c.if-kind-lt26.true,
        )),
      ),
    )

pub put_node-returns-then-kind-lt26 : goal.put_node-returns-then-kind-lt26
put_node-returns-then-kind-lt26 t c =
    let d : (c.args.at.levels ≡ 0 → ⊥) × (c.args.at.left ≡ 0 → ⊥) = both_left _ _ _ c.entry.ensures c.in_default.not-Err in
    let b : PutEntered c.args.sheet.now c.args.table.now c.args.arena.now c.args.slots.now (Shown c.args.view.now) c.args.scope c.args.cells.now c.args.at.cells
    c.args.at.top c.args.at.levels c.args.at.left c.args.node
    c.byte_of-kind.result = record { asked = c.requires; deep = d.0; paid = d.1; kind = c.byte_of-kind.ensures } in
    let p : TaskTells c.args.sheet.now c.args.arena.now c.leave-then-kind-lt26.new.arena c.args.slots.now c.put_case-put.new.slots c.args.scope
    c.args.cells.now c.args.view.now
    c.args.at c.leave-then-kind-lt26.result (enter c.args.node) × Few c.args.at.left c.leave-then-kind-lt26.result = body_told b
    (gives_at c.below-to.ensures c.put_case-put.ensures) (left_by (node_few c.requires.sheet c.requires.known) (omega (arith, c.requires.room))
    (c.leave-then-kind-lt26.ensures.value, c.leave-then-kind-lt26.ensures.arena_after)) in
    record { task_tells = p.0; few = p.1 }

pub put_node-put_call-put-requires : goal.put_node-put_call-put-requires
put_node-put_call-put-requires t c =
    let d : (c.args.at.levels ≡ 0 → ⊥) × (c.args.at.left ≡ 0 → ⊥) = both_left _ _ _ c.entry.ensures c.in_default.not-Err in
    let b : PutEntered c.args.sheet.now c.args.table.now c.args.arena.now c.args.slots.now (Shown c.args.view.now) c.args.scope c.args.cells.now c.args.at.cells
    c.args.at.top c.args.at.levels c.args.at.left c.args.node
    c.byte_of-kind.result = record { asked = c.requires; deep = d.0; paid = d.1; kind = c.byte_of-kind.ensures } in
    let l = levels_as c.below-to.ensures in
    (omega (arith, d.0, c.decreases), (own_as c.below-to.ensures (body_ready b), c.if-kind-eq26.true))

pub put_node-returns-then-kind-eq26 : goal.put_node-returns-then-kind-eq26
put_node-returns-then-kind-eq26 t c =
    let d : (c.args.at.levels ≡ 0 → ⊥) × (c.args.at.left ≡ 0 → ⊥) = both_left _ _ _ c.entry.ensures c.in_default.not-Err in
    let b : PutEntered c.args.sheet.now c.args.table.now c.args.arena.now c.args.slots.now (Shown c.args.view.now) c.args.scope c.args.cells.now c.args.at.cells
    c.args.at.top c.args.at.levels c.args.at.left c.args.node
    c.byte_of-kind.result = record { asked = c.requires; deep = d.0; paid = d.1; kind = c.byte_of-kind.ensures } in
    let p : TaskTells c.args.sheet.now c.args.arena.now c.leave-then-kind-eq26.new.arena c.args.slots.now c.put_call-put.new.slots c.args.scope
    c.args.cells.now c.args.view.now
    c.args.at c.leave-then-kind-eq26.result (enter c.args.node) × Few c.args.at.left c.leave-then-kind-eq26.result = body_told b
    (gives_at c.below-to.ensures c.put_call-put.ensures) (left_by (node_few c.requires.sheet c.requires.known) (omega (arith, c.requires.room))
    (c.leave-then-kind-eq26.ensures.value, c.leave-then-kind-eq26.ensures.arena_after)) in
    record { task_tells = p.0; few = p.1 }

pub put_node-put_add-put-requires : goal.put_node-put_add-put-requires
put_node-put_add-put-requires t c =
    let d : (c.args.at.levels ≡ 0 → ⊥) × (c.args.at.left ≡ 0 → ⊥) = both_left _ _ _ c.entry.ensures c.in_default.not-Err in
    let b : PutEntered c.args.sheet.now c.args.table.now c.args.arena.now c.args.slots.now (Shown c.args.view.now) c.args.scope c.args.cells.now c.args.at.cells
    c.args.at.top c.args.at.levels c.args.at.left c.args.node
    c.byte_of-kind.result = record { asked = c.requires; deep = d.0; paid = d.1; kind = c.byte_of-kind.ensures } in
    let l = levels_as c.below-to.ensures in (
      omega (arith, d.0, c.decreases),
      (
        own_as c.below-to.ensures (body_ready b),
        omega (
          arith,
          c.if-kind-lt26.false,
          c.if-kind-lt28.true,
          c.if-kind-eq26.false,
        ),
      ),
    )

pub put_node-returns-then-kind-lt28 : goal.put_node-returns-then-kind-lt28
put_node-returns-then-kind-lt28 t c =
    let d : (c.args.at.levels ≡ 0 → ⊥) × (c.args.at.left ≡ 0 → ⊥) = both_left _ _ _ c.entry.ensures c.in_default.not-Err in
    let b : PutEntered c.args.sheet.now c.args.table.now c.args.arena.now c.args.slots.now (Shown c.args.view.now) c.args.scope c.args.cells.now c.args.at.cells
    c.args.at.top c.args.at.levels c.args.at.left c.args.node
    c.byte_of-kind.result = record { asked = c.requires; deep = d.0; paid = d.1; kind = c.byte_of-kind.ensures } in
    let p : TaskTells c.args.sheet.now c.args.arena.now c.leave-then-kind-lt28.new.arena c.args.slots.now c.put_add-put.new.slots c.args.scope c.args.cells.now
    c.args.view.now
    c.args.at c.leave-then-kind-lt28.result (enter c.args.node) × Few c.args.at.left c.leave-then-kind-lt28.result = body_told b
    (gives_at c.below-to.ensures c.put_add-put.ensures) (left_by (node_few c.requires.sheet c.requires.known) (omega (arith, c.requires.room))
    (c.leave-then-kind-lt28.ensures.value, c.leave-then-kind-lt28.ensures.arena_after)) in
    record { task_tells = p.0; few = p.1 }

pub put_node-put_each-put-requires : goal.put_node-put_each-put-requires
put_node-put_each-put-requires t c =
    let d : (c.args.at.levels ≡ 0 → ⊥) × (c.args.at.left ≡ 0 → ⊥) = both_left _ _ _ c.entry.ensures c.in_default.not-Err in
    let b : PutEntered c.args.sheet.now c.args.table.now c.args.arena.now c.args.slots.now (Shown c.args.view.now) c.args.scope c.args.cells.now c.args.at.cells
    c.args.at.top c.args.at.levels c.args.at.left c.args.node
    c.byte_of-kind.result = record { asked = c.requires; deep = d.0; paid = d.1; kind = c.byte_of-kind.ensures } in
    let l = levels_as c.below-to.ensures in
    (omega (arith, d.0, c.decreases), (own_as c.below-to.ensures (body_ready b), c.if-kind-eq28.true))

pub put_node-returns-then-kind-eq28 : goal.put_node-returns-then-kind-eq28
put_node-returns-then-kind-eq28 t c =
    let d : (c.args.at.levels ≡ 0 → ⊥) × (c.args.at.left ≡ 0 → ⊥) = both_left _ _ _ c.entry.ensures c.in_default.not-Err in
    let b : PutEntered c.args.sheet.now c.args.table.now c.args.arena.now c.args.slots.now (Shown c.args.view.now) c.args.scope c.args.cells.now c.args.at.cells
    c.args.at.top c.args.at.levels c.args.at.left c.args.node
    c.byte_of-kind.result = record { asked = c.requires; deep = d.0; paid = d.1; kind = c.byte_of-kind.ensures } in
    let p : TaskTells c.args.sheet.now c.args.arena.now c.leave-then-kind-eq28.new.arena c.args.slots.now c.put_each-put.new.slots c.args.scope
    c.args.cells.now c.args.view.now
    c.args.at c.leave-then-kind-eq28.result (enter c.args.node) × Few c.args.at.left c.leave-then-kind-eq28.result = body_told b
    (gives_at c.below-to.ensures c.put_each-put.ensures) (left_by (node_few c.requires.sheet c.requires.known) (omega (arith, c.requires.room))
    (c.leave-then-kind-eq28.ensures.value, c.leave-then-kind-eq28.ensures.arena_after)) in
    record { task_tells = p.0; few = p.1 }

pub put_node-returns : goal.put_node-returns
put_node-returns t c =
    let d : (c.args.at.levels ≡ 0 → ⊥) × (c.args.at.left ≡ 0 → ⊥) = both_left _ _ _ c.entry.ensures c.in_default.not-Err in
    let b : PutEntered c.args.sheet.now c.args.table.now c.args.arena.now c.args.slots.now (Shown c.args.view.now) c.args.scope c.args.cells.now c.args.at.cells
    c.args.at.top c.args.at.levels c.args.at.left c.args.node
    c.byte_of-kind.result = record { asked = c.requires; deep = d.0; paid = d.1; kind = c.byte_of-kind.ensures } in
    let k : c.byte_of-kind.result ≡ 0x1D = omega (arith, (its_kind b).1, c.if-kind-lt28.false, c.if-kind-eq28.false) in
    let a : KindAsked c.args.sheet.now c.args.table.now c.args.arena.now c.args.slots.now c.args.scope c.args.cells.now (record {
      node = c.args.node;
      from = get_or c.args.table.now c.args.node 0;
      kind = c.byte_of-kind.result;
    }) c.args.view.now c.below-to.result =
    own_as c.below-to.ensures (body_ready b) in
    let p : TaskTells c.args.sheet.now c.args.arena.now c.leave-2.new.arena c.args.slots.now c.args.slots.now c.args.scope c.args.cells.now c.args.view.now
    c.args.at c.leave-2.result (enter c.args.node) × Few c.args.at.left c.leave-2.result = body_told b (gives_at c.below-to.ensures
    (wide_told a k (rw c.wide_bytes-constant.ensures at c.put_bytes-put.ensures))) (left_by (node_few c.requires.sheet c.requires.known) (omega
    (arith, c.requires.room))
    (c.leave-2.ensures.value, c.leave-2.ensures.arena_after)) in
    record { task_tells = p.0; few = p.1 }

pub put_case-get_node-got-requires : goal.put_case-get_node-got-requires
put_case-get_node-got-requires t c =
    ready_node c.number_of-subject.ensures (of_case.subject_asks c.requires.kind_asked c.requires.case)

pub put_case-returns-then-is_refused : goal.put_case-returns-then-is_refused
put_case-returns-then-is_refused t c =
    of_case.subject_refused c.requires.kind_asked c.requires.case (as_node c.number_of-subject.ensures c.get_node-got.ensures.get_shows)
    (sym c.is_refused.ensures ∙ c.if-is_refused.true)

pub put_case-put_both-put-requires : goal.put_case-put_both-put-requires
put_case-put_both-put-requires t c =
    let d : is_refusal c.get_node-got.result ≡ false = sym c.is_refused.ensures ∙ c.if-is_refused.false in
    let r : c.takes.result ≡ take_of c.args.own.kind c.shape_at.result (passes_bytes (get_or c.args.sheet.now (c.args.own.from + 3) 0) c.args.view.now)
    (passes_bytes (get_or c.args.sheet.now (c.args.own.from + 5) 0) c.args.view.now) =
    c.takes.ensures.value ∙ ap₂ (λ (x y : ℕ). take_of c.args.own.kind c.shape_at.result (passes_bytes x c.args.view.now) (passes_bytes y c.args.view.now))
    c.byte_of-first.ensures c.byte_of-second.ensures in
    let s : of_case.PutSubject (put_here c.requires.kind_asked) c.args.view.now c.args.own.node c.args.own.kind c.args.own.from c.get_node-got.result
    c.get_node-got.new.arena c.shape_at.result (Plain c.in-Plain.i c.in-Plain.byte) = record {
      asked = c.requires.kind_asked;
      case = c.requires.case;
      gives = (as_node c.number_of-subject.ensures c.get_node-got.ensures.get_shows);
      sized = c.get_node-got.ensures.sized;
      done = d;
      shape = c.shape_at.ensures;
      takes = sym c.in-Plain.is ∙ r;
      took = took _ _ r c.in-Plain.is;
    } in
    let l = levels_as c.behind-to.ensures in (
      omega (arith, c.decreases),
      (
        of_two.pair_ready c.behind-to.ensures c.number_of-branch.ensures c.number_of-subject.ensures (of_case.plain_asks s _),
        of_case.plain_view s,
      ),
    )

pub put_case-returns-in-Plain : goal.put_case-returns-in-Plain
put_case-returns-in-Plain t c =
    let d : is_refusal c.get_node-got.result ≡ false = sym c.is_refused.ensures ∙ c.if-is_refused.false in
    let r : c.takes.result ≡ take_of c.args.own.kind c.shape_at.result (passes_bytes (get_or c.args.sheet.now (c.args.own.from + 3) 0) c.args.view.now)
    (passes_bytes (get_or c.args.sheet.now (c.args.own.from + 5) 0) c.args.view.now) =
    c.takes.ensures.value ∙ ap₂ (λ (x y : ℕ). take_of c.args.own.kind c.shape_at.result (passes_bytes x c.args.view.now) (passes_bytes y c.args.view.now))
    c.byte_of-first.ensures c.byte_of-second.ensures in
    let s : of_case.PutSubject (put_here c.requires.kind_asked) c.args.view.now c.args.own.node c.args.own.kind c.args.own.from c.get_node-got.result
    c.get_node-got.new.arena c.shape_at.result (Plain c.in-Plain.i c.in-Plain.byte) = record {
      asked = c.requires.kind_asked;
      case = c.requires.case;
      gives = (as_node c.number_of-subject.ensures c.get_node-got.ensures.get_shows);
      sized = c.get_node-got.ensures.sized;
      done = d;
      shape = c.shape_at.ensures;
      takes = sym c.in-Plain.is ∙ r;
      took = took _ _ r c.in-Plain.is;
    } in
    of_case.plain_told s (of_two.pair_told c.behind-to.ensures c.number_of-branch.ensures c.number_of-subject.ensures c.put_both-put.ensures)
    (later_as_lem _ c.steps.ensures c.later.ensures)

pub put_case-parts_of-parts-requires : goal.put_case-parts_of-parts-requires
put_case-parts_of-parts-requires t c =
    let d : is_refusal c.get_node-got.result ≡ false = sym c.is_refused.ensures ∙ c.if-is_refused.false in
    let r : c.takes.result ≡ take_of c.args.own.kind c.shape_at.result (passes_bytes (get_or c.args.sheet.now (c.args.own.from + 3) 0) c.args.view.now)
    (passes_bytes (get_or c.args.sheet.now (c.args.own.from + 5) 0) c.args.view.now) =
    c.takes.ensures.value ∙ ap₂ (λ (x y : ℕ). take_of c.args.own.kind c.shape_at.result (passes_bytes x c.args.view.now) (passes_bytes y c.args.view.now))
    c.byte_of-first.ensures c.byte_of-second.ensures in
    let s : of_case.PutSubject (put_here c.requires.kind_asked) c.args.view.now c.args.own.node c.args.own.kind c.args.own.from c.get_node-got.result
    c.get_node-got.new.arena c.shape_at.result (Parts c.in-Parts.i c.in-Parts.mid) = record {
      asked = c.requires.kind_asked;
      case = c.requires.case;
      gives = (as_node c.number_of-subject.ensures c.get_node-got.ensures.get_shows);
      sized = c.get_node-got.ensures.sized;
      done = d;
      shape = c.shape_at.ensures;
      takes = sym c.in-Parts.is ∙ r;
      took = took _ _ r c.in-Parts.is;
    } in
    of_case.parts_inside s

pub put_case-put_under-put-requires : goal.put_case-put_under-put-requires
put_case-put_under-put-requires t c =
    let d : is_refusal c.get_node-got.result ≡ false = sym c.is_refused.ensures ∙ c.if-is_refused.false in
    let r : c.takes.result ≡ take_of c.args.own.kind c.shape_at.result (passes_bytes (get_or c.args.sheet.now (c.args.own.from + 3) 0) c.args.view.now)
    (passes_bytes (get_or c.args.sheet.now (c.args.own.from + 5) 0) c.args.view.now) =
    c.takes.ensures.value ∙ ap₂ (λ (x y : ℕ). take_of c.args.own.kind c.shape_at.result (passes_bytes x c.args.view.now) (passes_bytes y c.args.view.now))
    c.byte_of-first.ensures c.byte_of-second.ensures in
    let s : of_case.PutSubject (put_here c.requires.kind_asked) c.args.view.now c.args.own.node c.args.own.kind c.args.own.from c.get_node-got.result
    c.get_node-got.new.arena c.shape_at.result (Parts c.in-Parts.i c.in-Parts.mid) = record {
      asked = c.requires.kind_asked;
      case = c.requires.case;
      gives = (as_node c.number_of-subject.ensures c.get_node-got.ensures.get_shows);
      sized = c.get_node-got.ensures.sized;
      done = d;
      shape = c.shape_at.ensures;
      takes = sym c.in-Parts.is ∙ r;
      took = took _ _ r c.in-Parts.is;
    } in
    let q : c.parts_of-parts.result ≡ of_under.got_parts (made_of c.args.own.kind) (get_or c.args.sheet.now (c.args.own.from + c.in-Parts.i) 0)
    (get_or c.args.sheet.now (c.args.own.from + 1) 0) c.get_node-got.result c.in-Parts.mid =
    c.parts_of-parts.ensures ∙ ap₂ (λ (x y : ℕ). of_under.got_parts (made_of c.args.own.kind) x y c.get_node-got.result c.in-Parts.mid)
    c.number_of-branch-in-Parts.ensures c.number_of-subject.ensures in
    let u = of_case.parts_under s in
    let l = levels_as c.behind-to.ensures in (
      omega (arith, c.decreases),
      (
        of_under.under_ready c.behind-to.ensures q u.asked,
        (
          inner_at c.behind-to.ensures u.inner,
          of_under.some_at c.behind-to.ensures q u.parts,
        ),
      ),
    )

pub put_case-returns-in-Parts : goal.put_case-returns-in-Parts
put_case-returns-in-Parts t c =
    let d : is_refusal c.get_node-got.result ≡ false = sym c.is_refused.ensures ∙ c.if-is_refused.false in
    let r : c.takes.result ≡ take_of c.args.own.kind c.shape_at.result (passes_bytes (get_or c.args.sheet.now (c.args.own.from + 3) 0) c.args.view.now)
    (passes_bytes (get_or c.args.sheet.now (c.args.own.from + 5) 0) c.args.view.now) =
    c.takes.ensures.value ∙ ap₂ (λ (x y : ℕ). take_of c.args.own.kind c.shape_at.result (passes_bytes x c.args.view.now) (passes_bytes y c.args.view.now))
    c.byte_of-first.ensures c.byte_of-second.ensures in
    let s : of_case.PutSubject (put_here c.requires.kind_asked) c.args.view.now c.args.own.node c.args.own.kind c.args.own.from c.get_node-got.result
    c.get_node-got.new.arena c.shape_at.result (Parts c.in-Parts.i c.in-Parts.mid) = record {
      asked = c.requires.kind_asked;
      case = c.requires.case;
      gives = (as_node c.number_of-subject.ensures c.get_node-got.ensures.get_shows);
      sized = c.get_node-got.ensures.sized;
      done = d;
      shape = c.shape_at.ensures;
      takes = sym c.in-Parts.is ∙ r;
      took = took _ _ r c.in-Parts.is;
    } in
    let q : c.parts_of-parts.result ≡ of_under.got_parts (made_of c.args.own.kind) (get_or c.args.sheet.now (c.args.own.from + c.in-Parts.i) 0)
    (get_or c.args.sheet.now (c.args.own.from + 1) 0) c.get_node-got.result c.in-Parts.mid =
    c.parts_of-parts.ensures ∙ ap₂ (λ (x y : ℕ). of_under.got_parts (made_of c.args.own.kind) x y c.get_node-got.result c.in-Parts.mid)
    c.number_of-branch-in-Parts.ensures c.number_of-subject.ensures in
    of_case.parts_told s (of_under.under_as c.behind-to.ensures q c.put_under-put.ensures) (later_as_lem _ c.steps-in-Parts.ensures c.later-in-Parts.ensures)

pub put_case-put_switch-put-requires : goal.put_case-put_switch-put-requires
put_case-put_switch-put-requires t c =
    let d : is_refusal c.get_node-got.result ≡ false = sym c.is_refused.ensures ∙ c.if-is_refused.false in
    let r : c.takes.result ≡ take_of c.args.own.kind c.shape_at.result (passes_bytes (get_or c.args.sheet.now (c.args.own.from + 3) 0) c.args.view.now)
    (passes_bytes (get_or c.args.sheet.now (c.args.own.from + 5) 0) c.args.view.now) =
    c.takes.ensures.value ∙ ap₂ (λ (x y : ℕ). take_of c.args.own.kind c.shape_at.result (passes_bytes x c.args.view.now) (passes_bytes y c.args.view.now))
    c.byte_of-first.ensures c.byte_of-second.ensures in
    let s : of_case.PutSubject (put_here c.requires.kind_asked) c.args.view.now c.args.own.node c.args.own.kind c.args.own.from c.get_node-got.result
    c.get_node-got.new.arena c.shape_at.result (Switch) = record {
      asked = c.requires.kind_asked;
      case = c.requires.case;
      gives = (as_node c.number_of-subject.ensures c.get_node-got.ensures.get_shows);
      sized = c.get_node-got.ensures.sized;
      done = d;
      shape = c.shape_at.ensures;
      takes = sym c.in-Switch.is ∙ r;
      took = took _ _ r c.in-Switch.is;
    } in
    let w = of_case.switch_asks s in
    let l = levels_as c.behind-to.ensures in (
      omega (arith, c.decreases),
      (
        ready_at c.behind-to.ensures w.asked,
        (
          inner_at c.behind-to.ensures w.inner,
          of_switch.switch_room c.behind-to.ensures w.room,
        ),
      ),
    )

pub put_case-returns-in-Switch : goal.put_case-returns-in-Switch
put_case-returns-in-Switch t c =
    let d : is_refusal c.get_node-got.result ≡ false = sym c.is_refused.ensures ∙ c.if-is_refused.false in
    let r : c.takes.result ≡ take_of c.args.own.kind c.shape_at.result (passes_bytes (get_or c.args.sheet.now (c.args.own.from + 3) 0) c.args.view.now)
    (passes_bytes (get_or c.args.sheet.now (c.args.own.from + 5) 0) c.args.view.now) =
    c.takes.ensures.value ∙ ap₂ (λ (x y : ℕ). take_of c.args.own.kind c.shape_at.result (passes_bytes x c.args.view.now) (passes_bytes y c.args.view.now))
    c.byte_of-first.ensures c.byte_of-second.ensures in
    let s : of_case.PutSubject (put_here c.requires.kind_asked) c.args.view.now c.args.own.node c.args.own.kind c.args.own.from c.get_node-got.result
    c.get_node-got.new.arena c.shape_at.result (Switch) = record {
      asked = c.requires.kind_asked;
      case = c.requires.case;
      gives = (as_node c.number_of-subject.ensures c.get_node-got.ensures.get_shows);
      sized = c.get_node-got.ensures.sized;
      done = d;
      shape = c.shape_at.ensures;
      takes = sym c.in-Switch.is ∙ r;
      took = took _ _ r c.in-Switch.is;
    } in
    of_case.switch_told s (gives_at c.behind-to.ensures c.put_switch-put.ensures) (later_as_lem _ c.steps-in-Switch.ensures c.later-in-Switch.ensures)

pub put_case-returns-in-Refused : goal.put_case-returns-in-Refused
put_case-returns-in-Refused t c =
    let d : is_refusal c.get_node-got.result ≡ false = sym c.is_refused.ensures ∙ c.if-is_refused.false in
    let r : c.takes.result ≡ take_of c.args.own.kind c.shape_at.result (passes_bytes (get_or c.args.sheet.now (c.args.own.from + 3) 0) c.args.view.now)
    (passes_bytes (get_or c.args.sheet.now (c.args.own.from + 5) 0) c.args.view.now) =
    c.takes.ensures.value ∙ ap₂ (λ (x y : ℕ). take_of c.args.own.kind c.shape_at.result (passes_bytes x c.args.view.now) (passes_bytes y c.args.view.now))
    c.byte_of-first.ensures c.byte_of-second.ensures in
    let s : of_case.PutSubject (put_here c.requires.kind_asked) c.args.view.now c.args.own.node c.args.own.kind c.args.own.from c.get_node-got.result
    c.get_node-got.new.arena c.shape_at.result (Refused c.in-Refused.refusal) = record {
      asked = c.requires.kind_asked;
      case = c.requires.case;
      gives = (as_node c.number_of-subject.ensures c.get_node-got.ensures.get_shows);
      sized = c.get_node-got.ensures.sized;
      done = d;
      shape = c.shape_at.ensures;
      takes = sym c.in-Refused.is ∙ r;
      took = took _ _ r c.in-Refused.is;
    } in
    of_case.none_told s c.refused.ensures

pub put_each-bounds-view-0 : goal.put_each-bounds-view-0
put_each-bounds-view-0 t c =
    of_each.view_some c.requires.kind_asked c.requires.kind_value

pub put_each-returns-then-unfit : goal.put_each-returns-then-unfit
put_each-returns-then-unfit t c =
    of_each.each_51 c.requires.kind_asked c.requires.kind_value (sym c.unfit.ensures ∙ c.if-unfit.true) c.refused.ensures

pub put_each-get_node-got-requires : goal.put_each-get_node-got-requires
put_each-get_node-got-requires t c =
    ready_node c.number_of-subject.ensures (of_each.each_asks c.requires.kind_asked c.requires.kind_value)

pub put_each-returns-then-is_refused : goal.put_each-returns-then-is_refused
put_each-returns-then-is_refused t c =
    let f : unfit_rest 3 (get_or c.args.view.now 0 0) ≡ false = sym c.unfit.ensures ∙ c.if-unfit.false in
    of_each.each_refused c.requires.kind_asked c.requires.kind_value f (as_node c.number_of-subject.ensures c.get_node-got.ensures.get_shows)
    (sym c.is_refused.ensures ∙ c.if-is_refused.true)

pub put_each-bounds-arena-old : goal.put_each-bounds-arena-old
put_each-bounds-arena-old t c =
    let f : unfit_rest 3 (get_or c.args.view.now 0 0) ≡ false = sym c.unfit.ensures ∙ c.if-unfit.false in
    let s : of_each.EachPut (put_here c.requires.kind_asked) c.args.view.now c.args.own.node c.args.own.kind c.args.own.from c.get_node-got.result
    c.get_node-got.new.arena = record {
      asked = c.requires.kind_asked;
      each = c.requires.kind_value;
      fit = f;
      gives = (as_node c.number_of-subject.ensures c.get_node-got.ensures.get_shows);
      sized = c.get_node-got.ensures.sized;
      done = sym c.is_refused.ensures ∙ c.if-is_refused.false;
    } in
    omega (arith, of_each.start_inside s, c.start-old.ensures)

pub put_each-returns-then-unfit-2 : goal.put_each-returns-then-unfit-2
put_each-returns-then-unfit-2 t c =
    let f : unfit_rest 3 (get_or c.args.view.now 0 0) ≡ false = sym c.unfit.ensures ∙ c.if-unfit.false in
    let s : of_each.EachPut (put_here c.requires.kind_asked) c.args.view.now c.args.own.node c.args.own.kind c.args.own.from c.get_node-got.result
    c.get_node-got.new.arena = record {
      asked = c.requires.kind_asked;
      each = c.requires.kind_value;
      fit = f;
      gives = (as_node c.number_of-subject.ensures c.get_node-got.ensures.get_shows);
      sized = c.get_node-got.ensures.sized;
      done = sym c.is_refused.ensures ∙ c.if-is_refused.false;
    } in
    of_each.each_43 s (ap (λ (i : ℕ). unfit_rest 3 (get_or c.get_node-got.new.arena i 0)) (sym c.start-old.ensures) ∙ sym c.unfit-2.ensures ∙
    c.if-unfit-2.true) c.refused-then-unfit-2.ensures

pub put_each-returns-then-count-x : goal.put_each-returns-then-count-x
put_each-returns-then-count-x t c =
    let f : unfit_rest 3 (get_or c.args.view.now 0 0) ≡ false = sym c.unfit.ensures ∙ c.if-unfit.false in
    let s : of_each.EachPut (put_here c.requires.kind_asked) c.args.view.now c.args.own.node c.args.own.kind c.args.own.from c.get_node-got.result
    c.get_node-got.new.arena = record {
      asked = c.requires.kind_asked;
      each = c.requires.kind_value;
      fit = f;
      gives = (as_node c.number_of-subject.ensures c.get_node-got.ensures.get_shows);
      sized = c.get_node-got.ensures.sized;
      done = sym c.is_refused.ensures ∙ c.if-is_refused.false;
    } in
    of_each.each_42 s (ap (λ (i : ℕ). unfit_rest 3 (get_or c.get_node-got.new.arena i 0)) (sym c.start-old.ensures) ∙ sym c.unfit-2.ensures ∙
    c.if-unfit-2.false) (omega (arith, c.number_of-x.ensures, c.if-count-x.true)) c.refused-then-count-x.ensures

pub put_each-put_all-put-requires : goal.put_each-put_all-put-requires
put_each-put_all-put-requires t c =
    let f : unfit_rest 3 (get_or c.args.view.now 0 0) ≡ false = sym c.unfit.ensures ∙ c.if-unfit.false in
    let s : of_each.EachPut (put_here c.requires.kind_asked) c.args.view.now c.args.own.node c.args.own.kind c.args.own.from c.get_node-got.result
    c.get_node-got.new.arena = record {
      asked = c.requires.kind_asked;
      each = c.requires.kind_value;
      fit = f;
      gives = (as_node c.number_of-subject.ensures c.get_node-got.ensures.get_shows);
      sized = c.get_node-got.ensures.sized;
      done = sym c.is_refused.ensures ∙ c.if-is_refused.false;
    } in
    let i : of_each.EachListed (put_here c.requires.kind_asked) c.args.view.now c.args.own.node c.args.own.kind c.args.own.from c.get_node-got.result
    c.get_node-got.new.arena
    c.section_root-root.result = record {
      got = s;
      fit = (ap (λ (i : ℕ). unfit_rest 3 (get_or c.get_node-got.new.arena i 0)) (sym c.start-old.ensures) ∙ sym c.unfit-2.ensures ∙ c.if-unfit-2.false);
      inside = omega (arith, c.number_of-x.ensures, c.if-count-x.false);
      root_is = c.section_root-root.ensures ∙ ap (section_at c.args.sheet.now) c.number_of.ensures;
    } in
    let b : ◌≡◌ {A = Members} (record {
      subject = c.number_of-subject.result;
      x = c.number_of-x.result;
      root = c.section_root-root.result;
      default = c.number_of-default.result;
      old = c.start-old.result;
    }) (of_each.each_by i) = of_each.by_as c.number_of-subject.ensures c.number_of-x.ensures c.number_of-default.ensures c.start-old.ensures in
    let l = levels_as c.behind-to.ensures in
    (omega (arith, c.decreases), (of_members.asked_as c.behind-to.ensures b (of_each.members_asks i), of_each.view_is i))

pub put_each-returns : goal.put_each-returns
put_each-returns t c =
    let f : unfit_rest 3 (get_or c.args.view.now 0 0) ≡ false = sym c.unfit.ensures ∙ c.if-unfit.false in
    let s : of_each.EachPut (put_here c.requires.kind_asked) c.args.view.now c.args.own.node c.args.own.kind c.args.own.from c.get_node-got.result
    c.get_node-got.new.arena = record {
      asked = c.requires.kind_asked;
      each = c.requires.kind_value;
      fit = f;
      gives = (as_node c.number_of-subject.ensures c.get_node-got.ensures.get_shows);
      sized = c.get_node-got.ensures.sized;
      done = sym c.is_refused.ensures ∙ c.if-is_refused.false;
    } in
    let i : of_each.EachListed (put_here c.requires.kind_asked) c.args.view.now c.args.own.node c.args.own.kind c.args.own.from c.get_node-got.result
    c.get_node-got.new.arena
    c.section_root-root.result = record {
      got = s;
      fit = (ap (λ (i : ℕ). unfit_rest 3 (get_or c.get_node-got.new.arena i 0)) (sym c.start-old.ensures) ∙ sym c.unfit-2.ensures ∙ c.if-unfit-2.false);
      inside = omega (arith, c.number_of-x.ensures, c.if-count-x.false);
      root_is = c.section_root-root.ensures ∙ ap (section_at c.args.sheet.now) c.number_of.ensures;
    } in
    let b : ◌≡◌ {A = Members} (record {
      subject = c.number_of-subject.result;
      x = c.number_of-x.result;
      root = c.section_root-root.result;
      default = c.number_of-default.result;
      old = c.start-old.result;
    }) (of_each.each_by i) = of_each.by_as c.number_of-subject.ensures c.number_of-x.ensures c.number_of-default.ensures c.start-old.ensures in
    of_each.each_told i (of_members.told_as c.behind-to.ensures b c.put_all-put.ensures) (later_as_lem _ c.steps.ensures c.later.ensures)

pub put_rebuilt-offset_bounds-slots-c : goal.put_rebuilt-offset_bounds-slots-c
put_rebuilt-offset_bounds-slots-c t c =
    let r = c.requires.ready.given.written.few in
    record { fits = omega (arith, r) }

pub put_rebuilt-bounds-slots-c : goal.put_rebuilt-bounds-slots-c
put_rebuilt-bounds-slots-c t c =
    let r = c.requires.ready.given.written.few in
    omega (arith, r)

pub put_rebuilt-overflow_add-c : goal.put_rebuilt-overflow_add-c
put_rebuilt-overflow_add-c t c =
    let r = c.requires.ready.given.written.few in
    record { fits = omega (arith, r) }

pub put_rebuilt-offset_bounds-slots-c-2 : goal.put_rebuilt-offset_bounds-slots-c-2
put_rebuilt-offset_bounds-slots-c-2 t c =
    let r = c.requires.ready.given.written.few in
    record { fits = omega (arith, r) }

pub put_rebuilt-bounds-slots-c-2 : goal.put_rebuilt-bounds-slots-c-2
put_rebuilt-bounds-slots-c-2 t c =
    let r = c.requires.ready.given.written.few in
    omega (arith, r)

pub put_rebuilt-overflow_add-c-2 : goal.put_rebuilt-overflow_add-c-2
put_rebuilt-overflow_add-c-2 t c =
    let r = c.requires.ready.given.written.few in
    record { fits = omega (arith, r) }

pub put_rebuilt-overflow_add-start : goal.put_rebuilt-overflow_add-start
put_rebuilt-overflow_add-start t c =
    let z = of_rebuilt.parts_end c.requires.some_parts c.requires.ready.base (omega (arith, c.requires.ready.room)) in
    record { fits = omega (arith, z) }

pub put_rebuilt-bounds-arena-rest : goal.put_rebuilt-bounds-arena-rest
put_rebuilt-bounds-arena-rest t c =
    let r = c.requires.ready.given.written.few in
    let p : of_rebuilt.Rebuilding (put_there c.requires.ready) c.args.parts.kind c.args.parts.subject c.args.parts.start c.args.parts.first c.args.parts.second
    c.place_of-f.result c.place_of-r.result = record {
      asked = c.requires.ready;
      parts = c.requires.some_parts;
      one = c.place_of-f.ensures.inside (omega (arith, r));
      two = c.place_of-r.ensures.inside (omega (arith, r));
    } in
    let z = of_rebuilt.rebuilt_places p in
    omega (arith, c.requires.ready.long, z.1, z.4)

pub put_rebuilt-returns-then-unfit : goal.put_rebuilt-returns-then-unfit
put_rebuilt-returns-then-unfit t c =
    let r = c.requires.ready.given.written.few in
    let p : of_rebuilt.Rebuilding (put_there c.requires.ready) c.args.parts.kind c.args.parts.subject c.args.parts.start c.args.parts.first c.args.parts.second
    c.place_of-f.result c.place_of-r.result = record {
      asked = c.requires.ready;
      parts = c.requires.some_parts;
      one = c.place_of-f.ensures.inside (omega (arith, r));
      two = c.place_of-r.ensures.inside (omega (arith, r));
    } in
    let g = of_rebuilt.rebuilt_43 p (sym c.unfit.ensures ∙ c.if-unfit.true) c.refused.ensures in
    record { put_shows = g; few = few c.requires.ready (g _ _ c.requires.some_parts.parts) }

pub put_rebuilt-overflow_add-size : goal.put_rebuilt-overflow_add-size
put_rebuilt-overflow_add-size t c =
    let r = c.requires.ready.given.written.few in
    let p : of_rebuilt.Rebuilding (put_there c.requires.ready) c.args.parts.kind c.args.parts.subject c.args.parts.start c.args.parts.first c.args.parts.second
    c.place_of-f.result c.place_of-r.result = record {
      asked = c.requires.ready;
      parts = c.requires.some_parts;
      one = c.place_of-f.ensures.inside (omega (arith, r));
      two = c.place_of-r.ensures.inside (omega (arith, r));
    } in
    let z = of_rebuilt.rebuilt_places p in
    record { fits = omega (arith, z.2) }

pub put_rebuilt-overflow_add-size-2 : goal.put_rebuilt-overflow_add-size-2
put_rebuilt-overflow_add-size-2 t c =
    let r = c.requires.ready.given.written.few in
    let p : of_rebuilt.Rebuilding (put_there c.requires.ready) c.args.parts.kind c.args.parts.subject c.args.parts.start c.args.parts.first c.args.parts.second
    c.place_of-f.result c.place_of-r.result = record {
      asked = c.requires.ready;
      parts = c.requires.some_parts;
      one = c.place_of-f.ensures.inside (omega (arith, r));
      two = c.place_of-r.ensures.inside (omega (arith, r));
    } in
    let z = of_rebuilt.rebuilt_places p in
    record { fits = omega (arith, z.2, z.3) }

pub put_rebuilt-returns-then-size-gt256 : goal.put_rebuilt-returns-then-size-gt256
put_rebuilt-returns-then-size-gt256 t c =
    let r = c.requires.ready.given.written.few in
    let p : of_rebuilt.Rebuilding (put_there c.requires.ready) c.args.parts.kind c.args.parts.subject c.args.parts.start c.args.parts.first c.args.parts.second
    c.place_of-f.result c.place_of-r.result = record {
      asked = c.requires.ready;
      parts = c.requires.some_parts;
      one = c.place_of-f.ensures.inside (omega (arith, r));
      two = c.place_of-r.ensures.inside (omega (arith, r));
    } in
    let f : unfit_rest c.args.parts.kind (get_or c.args.arena.now c.place_of-r.result.start 0) ≡ false = sym c.unfit.ensures ∙ c.if-unfit.false in
    let g = of_rebuilt.rebuilt_44 p f (omega (arith, c.if-size-gt256.true)) c.refused-then-size-gt256.ensures in
    record { put_shows = g; few = few c.requires.ready (g _ _ c.requires.some_parts.parts) }

pub put_rebuilt-rebuild-requires : goal.put_rebuilt-rebuild-requires
put_rebuilt-rebuild-requires t c =
    let r = c.requires.ready.given.written.few in
    let p : of_rebuilt.Rebuilding (put_there c.requires.ready) c.args.parts.kind c.args.parts.subject c.args.parts.start c.args.parts.first c.args.parts.second
    c.place_of-f.result c.place_of-r.result = record {
      asked = c.requires.ready;
      parts = c.requires.some_parts;
      one = c.place_of-f.ensures.inside (omega (arith, r));
      two = c.place_of-r.ensures.inside (omega (arith, r));
    } in
    let z = of_rebuilt.rebuilt_places p in
    (refl, omega (arith, c.if-size-gt256.false), omega (arith, c.requires.ready.long, z.0), omega (arith, c.requires.ready.long, z.1))

pub put_rebuilt-slice_bounds-whole-end : goal.put_rebuilt-slice_bounds-whole-end
put_rebuilt-slice_bounds-whole-end t c =
    omega (arith, c.if-size-gt256.false)

pub put_rebuilt-slice_bounds-v-end : goal.put_rebuilt-slice_bounds-v-end
put_rebuilt-slice_bounds-v-end t c =
    let r = c.requires.ready.given.written.few in
    let p : of_rebuilt.Rebuilding (put_there c.requires.ready) c.args.parts.kind c.args.parts.subject c.args.parts.start c.args.parts.first c.args.parts.second
    c.place_of-f.result c.place_of-r.result = record {
      asked = c.requires.ready;
      parts = c.requires.some_parts;
      one = c.place_of-f.ensures.inside (omega (arith, r));
      two = c.place_of-r.ensures.inside (omega (arith, r));
    } in
    let f : unfit_rest c.args.parts.kind (get_or c.args.arena.now c.place_of-r.result.start 0) ≡ false = sym c.unfit.ensures ∙ c.if-unfit.false in
    of_rebuilt.rebuilt_long p f (omega (arith, c.if-size-gt256.false)) c.rebuild.ensures.0

pub put_rebuilt-put_node-requires : goal.put_rebuilt-put_node-requires
put_rebuilt-put_node-requires t c =
    let r = c.requires.ready.given.written.few in
    let p : of_rebuilt.Rebuilding (put_there c.requires.ready) c.args.parts.kind c.args.parts.subject c.args.parts.start c.args.parts.first c.args.parts.second
    c.place_of-f.result c.place_of-r.result = record {
      asked = c.requires.ready;
      parts = c.requires.some_parts;
      one = c.place_of-f.ensures.inside (omega (arith, r));
      two = c.place_of-r.ensures.inside (omega (arith, r));
    } in
    let f : unfit_rest c.args.parts.kind (get_or c.args.arena.now c.place_of-r.result.start 0) ≡ false = sym c.unfit.ensures ∙ c.if-unfit.false in
    (omega (arith, c.decreases), of_rebuilt.rebuilt_asks p f (omega (arith, c.if-size-gt256.false)) c.rebuild.ensures.0)

pub put_rebuilt-returns : goal.put_rebuilt-returns
put_rebuilt-returns t c =
    let r = c.requires.ready.given.written.few in
    let p : of_rebuilt.Rebuilding (put_there c.requires.ready) c.args.parts.kind c.args.parts.subject c.args.parts.start c.args.parts.first c.args.parts.second
    c.place_of-f.result c.place_of-r.result = record {
      asked = c.requires.ready;
      parts = c.requires.some_parts;
      one = c.place_of-f.ensures.inside (omega (arith, r));
      two = c.place_of-r.ensures.inside (omega (arith, r));
    } in
    let f : unfit_rest c.args.parts.kind (get_or c.args.arena.now c.place_of-r.result.start 0) ≡ false = sym c.unfit.ensures ∙ c.if-unfit.false in
    record {
      put_shows = of_rebuilt.rebuilt_told p f (omega (arith, c.if-size-gt256.false)) c.rebuild.ensures.0 c.put_node.ensures.task_tells;
      few = c.put_node.ensures.few;
    }

pub put_switch-defaults-got-requires : goal.put_switch-defaults-got-requires
put_switch-defaults-got-requires t c =
    let w : of_switch.Switching (put_there c.requires.task_asked) c.args.view.now c.args.place = record {
      asked = c.requires.task_asked;
      inner = c.requires.inner;
      room = c.requires.levels_bound;
    } in
    of_switch.defaults_asked w

pub put_switch-returns-then-is_refused : goal.put_switch-returns-then-is_refused
put_switch-returns-then-is_refused t c =
    let w : of_switch.Switching (put_there c.requires.task_asked) c.args.view.now c.args.place = record {
      asked = c.requires.task_asked;
      inner = c.requires.inner;
      room = c.requires.levels_bound;
    } in
    of_switch.switch_refused w c.defaults-got.ensures (sym c.is_refused.ensures ∙ c.if-is_refused.true)

pub put_switch-after-then-requires : goal.put_switch-after-then-requires
put_switch-after-then-requires t c =
    let d : is_refusal c.defaults-got.result ≡ false = sym c.is_refused.ensures ∙ c.if-is_refused.false in
    let z = c.defaults-got.ensures.sizes d in
    z.2

pub put_switch-overflow_add-first : goal.put_switch-overflow_add-first
put_switch-overflow_add-first t c =
    let d : is_refusal c.defaults-got.result ≡ false = sym c.is_refused.ensures ∙ c.if-is_refused.false in
    let z = c.defaults-got.ensures.sizes d in
    record { fits = omega (arith, c.start-first.ensures, c.len-second.ensures, z.0, z.1) }

pub put_switch-raised-to-requires : goal.put_switch-raised-to-requires
put_switch-raised-to-requires t c =
    let d : is_refusal c.defaults-got.result ≡ false = sym c.is_refused.ensures ∙ c.if-is_refused.false in
    let z = c.defaults-got.ensures.sizes d in
    let e = ap (λ (x : Where). x.top) c.after-then.ensures in
    omega (arith, c.start-first.ensures, c.len-second.ensures, z.0, z.1, c.requires.levels_bound)

pub put_switch-put_under-put-requires : goal.put_switch-put_under-put-requires
put_switch-put_under-put-requires t c =
    let w : of_switch.Switching (put_there c.requires.task_asked) c.args.view.now c.args.place = record {
      asked = c.requires.task_asked;
      inner = c.requires.inner;
      room = c.requires.levels_bound;
    } in
    let d : is_refusal c.defaults-got.result ≡ false = sym c.is_refused.ensures ∙ c.if-is_refused.false in
    let p : c.raised-to.result ≡ record {
      levels = c.args.at.levels;
      left = c.args.at.left - steps_of c.defaults-got.result;
      top = c.args.at.top + (start_of c.defaults-got.result + len_of c.defaults-got.result);
      cells = c.args.at.cells;
    } = c.raised-to.ensures ∙ ap (λ (x : Where). raised_of x (c.start-first.result + c.len-second.result)) c.after-then.ensures
    ∙ ap₂ (λ (f l : ℕ). record {
      levels = c.args.at.levels;
      left = c.args.at.left - steps_of c.defaults-got.result;
      top = c.args.at.top + (f + l);
      cells = c.args.at.cells;
    })
    c.start-first.ensures c.len-second.ensures in
    let q : ◌≡◌ {A = PartsOf} (record {
      kind = 3;
      branch = c.number_of-branch.result;
      subject = c.number_of-subject.result;
      start = c.args.at.top;
      first = c.start-first.result;
      second = c.len-second.result;
    }) (of_switch.switch_parts w c.defaults-got.ensures d) =
    of_under.parts_as c.number_of-branch.ensures c.number_of-subject.ensures c.start-first.ensures c.len-second.ensures in
    let u = of_switch.switch_under w c.defaults-got.ensures d in
    let l = levels_as p in
    (omega (arith, c.decreases), (of_under.under_ready p q u.asked, (inner_at p u.inner, of_under.some_at p q u.parts)))

pub put_switch-returns : goal.put_switch-returns
put_switch-returns t c =
    let w : of_switch.Switching (put_there c.requires.task_asked) c.args.view.now c.args.place = record {
      asked = c.requires.task_asked;
      inner = c.requires.inner;
      room = c.requires.levels_bound;
    } in
    let d : is_refusal c.defaults-got.result ≡ false = sym c.is_refused.ensures ∙ c.if-is_refused.false in
    let p : c.raised-to.result ≡ record {
      levels = c.args.at.levels;
      left = c.args.at.left - steps_of c.defaults-got.result;
      top = c.args.at.top + (start_of c.defaults-got.result + len_of c.defaults-got.result);
      cells = c.args.at.cells;
    } = c.raised-to.ensures ∙ ap (λ (x : Where). raised_of x (c.start-first.result + c.len-second.result)) c.after-then.ensures
    ∙ ap₂ (λ (f l : ℕ). record {
      levels = c.args.at.levels;
      left = c.args.at.left - steps_of c.defaults-got.result;
      top = c.args.at.top + (f + l);
      cells = c.args.at.cells;
    })
    c.start-first.ensures c.len-second.ensures in
    let q : ◌≡◌ {A = PartsOf} (record {
      kind = 3;
      branch = c.number_of-branch.result;
      subject = c.number_of-subject.result;
      start = c.args.at.top;
      first = c.start-first.result;
      second = c.len-second.result;
    }) (of_switch.switch_parts w c.defaults-got.ensures d) =
    of_under.parts_as c.number_of-branch.ensures c.number_of-subject.ensures c.start-first.ensures c.len-second.ensures in
    let u = of_switch.switch_under w c.defaults-got.ensures d in
    let o = of_under.under_as p q c.put_under-put.ensures in
    of_switch.switch_told w c.defaults-got.ensures d o (λ n. (few u.asked (o _ _ u.parts.parts)).at n)
    (later_as_lem _ c.steps.ensures c.later.ensures)

pub put_under-offset_bounds-slots-c : goal.put_under-offset_bounds-slots-c
put_under-offset_bounds-slots-c t c =
    let r : (c.args.at.cells + 2 ≤ variable_limit) × (c.args.scope.count + 2 ≤ variable_limit) = (
      omega (
        arith,
        c.requires.inner.more_cells,
        c.requires.inner.some,
      ),
      omega (arith, c.requires.inner.variables, c.requires.inner.some),
    ) in
    record { fits = omega (arith, r.0) }

pub put_under-bounds-slots-c : goal.put_under-bounds-slots-c
put_under-bounds-slots-c t c =
    let r : (c.args.at.cells + 2 ≤ variable_limit) × (c.args.scope.count + 2 ≤ variable_limit) = (
      omega (
        arith,
        c.requires.inner.more_cells,
        c.requires.inner.some,
      ),
      omega (arith, c.requires.inner.variables, c.requires.inner.some),
    ) in
    omega (arith, r.0)

pub put_under-overflow_add-slots : goal.put_under-overflow_add-slots
put_under-overflow_add-slots t c =
    let r : (c.args.at.cells + 2 ≤ variable_limit) × (c.args.scope.count + 2 ≤ variable_limit) = (
      omega (
        arith,
        c.requires.inner.more_cells,
        c.requires.inner.some,
      ),
      omega (arith, c.requires.inner.variables, c.requires.inner.some),
    ) in
    record { fits = omega (arith, r.0) }

pub put_under-offset_bounds-slots-c-2 : goal.put_under-offset_bounds-slots-c-2
put_under-offset_bounds-slots-c-2 t c =
    let r : (c.args.at.cells + 2 ≤ variable_limit) × (c.args.scope.count + 2 ≤ variable_limit) = (
      omega (
        arith,
        c.requires.inner.more_cells,
        c.requires.inner.some,
      ),
      omega (arith, c.requires.inner.variables, c.requires.inner.some),
    ) in
    record { fits = omega (arith, r.0) }

pub put_under-bounds-slots-c-2 : goal.put_under-bounds-slots-c-2
put_under-bounds-slots-c-2 t c =
    let r : (c.args.at.cells + 2 ≤ variable_limit) × (c.args.scope.count + 2 ≤ variable_limit) = (
      omega (
        arith,
        c.requires.inner.more_cells,
        c.requires.inner.some,
      ),
      omega (arith, c.requires.inner.variables, c.requires.inner.some),
    ) in
    omega (arith, r.0)

pub put_under-with_two-inner-requires : goal.put_under-with_two-inner-requires
put_under-with_two-inner-requires t c =
    let a : of_under.Under (put_there c.requires.task_asked) (Shown c.args.view.now) c.args.parts = record {
      asked = c.requires.task_asked;
      inner = c.requires.inner;
      parts = c.requires.some_parts;
    } in
    of_under.under_stored a

pub put_under-with_cells-to-requires : goal.put_under-with_cells-to-requires
put_under-with_cells-to-requires t c =
    let r : (c.args.at.cells + 2 ≤ variable_limit) × (c.args.scope.count + 2 ≤ variable_limit) = (
      omega (
        arith,
        c.requires.inner.more_cells,
        c.requires.inner.some,
      ),
      omega (arith, c.requires.inner.variables, c.requires.inner.some),
    ) in
    r.0

pub put_under-put_node-one-requires : goal.put_under-put_node-one-requires
put_under-put_node-one-requires t c =
    let a : of_under.Under (put_there c.requires.task_asked) (Shown c.args.view.now) c.args.parts = record {
      asked = c.requires.task_asked;
      inner = c.requires.inner;
      parts = c.requires.some_parts;
    } in
    let r : (c.args.at.cells + 2 ≤ variable_limit) × (c.args.scope.count + 2 ≤ variable_limit) = (
      omega (
        arith,
        c.requires.inner.more_cells,
        c.requires.inner.some,
      ),
      omega (arith, c.requires.inner.variables, c.requires.inner.some),
    ) in
    let k : c.add_cells.new.cells ≡ added_two c.args.cells.now c.args.scope.count c.args.at.cells (c.args.at.cells + 1) =
    (rw c.from.ensures at c.add_cells.ensures).inside r in
    let l = levels_as c.with_cells-to.ensures in
    (omega (arith, c.decreases), ready_as c.with_cells-to.ensures c.with_two-inner.ensures k refl (of_under.under_asks₁ a))

pub put_under-returns-then-is_refused : goal.put_under-returns-then-is_refused
put_under-returns-then-is_refused t c =
    let a : of_under.Under (put_there c.requires.task_asked) (Shown c.args.view.now) c.args.parts = record {
      asked = c.requires.task_asked;
      inner = c.requires.inner;
      parts = c.requires.some_parts;
    } in
    let r : (c.args.at.cells + 2 ≤ variable_limit) × (c.args.scope.count + 2 ≤ variable_limit) = (
      omega (
        arith,
        c.requires.inner.more_cells,
        c.requires.inner.some,
      ),
      omega (arith, c.requires.inner.variables, c.requires.inner.some),
    ) in
    let k : c.add_cells.new.cells ≡ added_two c.args.cells.now c.args.scope.count c.args.at.cells (c.args.at.cells + 1) =
    (rw c.from.ensures at c.add_cells.ensures).inside r in
    let o : PutTold (of_under.inner_here a) (Shown c.args.view.now) c.put_node-one.new.arena c.put_node-one.new.slots c.put_node-one.result
    (enter c.args.parts.branch) =
    shows_as c.with_cells-to.ensures c.with_two-inner.ensures k refl c.put_node-one.ensures.task_tells in
    of_under.under_refused a o (sym c.is_refused.ensures ∙ c.if-is_refused.true)

pub put_under-after-then-requires : goal.put_under-after-then-requires
put_under-after-then-requires t c =
    let f : Few c.args.at.left c.put_node-one.result = few_at c.with_cells-to.ensures c.put_node-one.ensures.few in
    let d : is_refusal c.put_node-one.result ≡ false = sym c.is_refused.ensures ∙ c.if-is_refused.false in
    f.at d

pub put_under-put_rebuilt-two-requires : goal.put_under-put_rebuilt-two-requires
put_under-put_rebuilt-two-requires t c =
    let a : of_under.Under (put_there c.requires.task_asked) (Shown c.args.view.now) c.args.parts = record {
      asked = c.requires.task_asked;
      inner = c.requires.inner;
      parts = c.requires.some_parts;
    } in
    let r : (c.args.at.cells + 2 ≤ variable_limit) × (c.args.scope.count + 2 ≤ variable_limit) = (
      omega (
        arith,
        c.requires.inner.more_cells,
        c.requires.inner.some,
      ),
      omega (arith, c.requires.inner.variables, c.requires.inner.some),
    ) in
    let k : c.add_cells.new.cells ≡ added_two c.args.cells.now c.args.scope.count c.args.at.cells (c.args.at.cells + 1) =
    (rw c.from.ensures at c.add_cells.ensures).inside r in
    let o : PutTold (of_under.inner_here a) (Shown c.args.view.now) c.put_node-one.new.arena c.put_node-one.new.slots c.put_node-one.result
    (enter c.args.parts.branch) =
    shows_as c.with_cells-to.ensures c.with_two-inner.ensures k refl c.put_node-one.ensures.task_tells in
    let d : is_refusal c.put_node-one.result ≡ false = sym c.is_refused.ensures ∙ c.if-is_refused.false in
    let l = levels_as c.after-then.ensures in (
      omega (arith, c.decreases),
      (
        of_under.rest_ready c.after-then.ensures (of_under.under_asks₂ a o d),
        of_under.some_at {p = c.args.parts} c.after-then.ensures refl (of_under.under_parts a o d),
      ),
    )

pub put_under-returns : goal.put_under-returns
put_under-returns t c =
    let a : of_under.Under (put_there c.requires.task_asked) (Shown c.args.view.now) c.args.parts = record {
      asked = c.requires.task_asked;
      inner = c.requires.inner;
      parts = c.requires.some_parts;
    } in
    let r : (c.args.at.cells + 2 ≤ variable_limit) × (c.args.scope.count + 2 ≤ variable_limit) = (
      omega (
        arith,
        c.requires.inner.more_cells,
        c.requires.inner.some,
      ),
      omega (arith, c.requires.inner.variables, c.requires.inner.some),
    ) in
    let k : c.add_cells.new.cells ≡ added_two c.args.cells.now c.args.scope.count c.args.at.cells (c.args.at.cells + 1) =
    (rw c.from.ensures at c.add_cells.ensures).inside r in
    let o : PutTold (of_under.inner_here a) (Shown c.args.view.now) c.put_node-one.new.arena c.put_node-one.new.slots c.put_node-one.result
    (enter c.args.parts.branch) =
    shows_as c.with_cells-to.ensures c.with_two-inner.ensures k refl c.put_node-one.ensures.task_tells in
    let d : is_refusal c.put_node-one.result ≡ false = sym c.is_refused.ensures ∙ c.if-is_refused.false in
    let f : Few c.args.at.left c.put_node-one.result = few_at c.with_cells-to.ensures c.put_node-one.ensures.few in
    of_under.under_told a o d f (few_at c.after-then.ensures c.put_rebuilt-two.ensures.few)
    (of_under.rest_as c.after-then.ensures c.put_rebuilt-two.ensures.put_shows) (later_as_lem _ c.steps.ensures c.later.ensures)

pub put_one-slice_bounds-middle-count : goal.put_one-slice_bounds-middle-count
put_one-slice_bounds-middle-count t c =
    omega (
      arith,
      below_ends c.requires.members_asked.old.held.place c.requires.members_asked.ready.base,
      c.requires.members_asked.room,
      c.requires.members_asked.ready.long,
    )

pub put_one-slice_bounds-middle-start : goal.put_one-slice_bounds-middle-start
put_one-slice_bounds-middle-start t c =
    omega (
      arith,
      below_ends c.requires.members_asked.old.held.place c.requires.members_asked.ready.base,
      c.requires.members_asked.room,
      c.requires.members_asked.ready.long,
    )

pub put_one-stood_for-stood-requires : goal.put_one-stood_for-stood-requires
put_one-stood_for-stood-requires t c =
    let m : c.middle-mid.result ≡ middle_of (shape_of (drop c.args.turn.by.old c.args.arena.now)) =
    c.middle-mid.ensures ∙ ap (λ (x : List ℕ). middle_of (shape_of x))
    (take_all (length c.args.arena.now - c.args.turn.by.old) (drop c.args.turn.by.old c.args.arena.now)
    (omega (arith, length-drop c.args.turn.by.old c.args.arena.now))) in
    of_member.stood_asked c.requires.members_asked m

pub put_one-returns-then-is_refused : goal.put_one-returns-then-is_refused
put_one-returns-then-is_refused t c =
    let s : of_member.MemberStood (put_there c.requires.members_asked.ready) c.args.turn.by c.stood_for-stood.new.arena c.stood_for-stood.result = record {
      asked = c.requires.members_asked;
      stood = c.stood_for-stood.ensures;
    } in
    of_member.stood_refused s (sym c.is_refused.ensures ∙ c.if-is_refused.true)

pub put_one-offset_bounds-slots-cell : goal.put_one-offset_bounds-slots-cell
put_one-offset_bounds-slots-cell t c =
    let r : (c.args.turn.at.cells + 1 ≤ 109) × (c.args.turn.by.x < variable_limit) = (
      omega (
        arith,
        c.requires.members_asked.inner.more_cells,
        c.requires.members_asked.inner.some,
      ),
      omega (
        arith,
        c.requires.members_asked.inner.variables,
        c.requires.members_asked.inner.some,
        c.requires.members_asked.variable,
      ),
    ) in
    record { fits = omega (arith, r.0) }

pub put_one-bounds-slots-cell : goal.put_one-bounds-slots-cell
put_one-bounds-slots-cell t c =
    let r : (c.args.turn.at.cells + 1 ≤ 109) × (c.args.turn.by.x < variable_limit) = (
      omega (
        arith,
        c.requires.members_asked.inner.more_cells,
        c.requires.members_asked.inner.some,
      ),
      omega (
        arith,
        c.requires.members_asked.inner.variables,
        c.requires.members_asked.inner.some,
        c.requires.members_asked.variable,
      ),
    ) in
    omega (arith, r.0)

pub put_one-member-inner-requires : goal.put_one-member-inner-requires
put_one-member-inner-requires t c =
    let r : (c.args.turn.at.cells + 1 ≤ 109) × (c.args.turn.by.x < variable_limit) = (
      omega (
        arith,
        c.requires.members_asked.inner.more_cells,
        c.requires.members_asked.inner.some,
      ),
      omega (
        arith,
        c.requires.members_asked.inner.variables,
        c.requires.members_asked.inner.some,
        c.requires.members_asked.variable,
      ),
    ) in
    let s : of_member.MemberStood (put_there c.requires.members_asked.ready) c.args.turn.by c.stood_for-stood.new.arena c.stood_for-stood.result = record {
      asked = c.requires.members_asked;
      stood = c.stood_for-stood.ensures;
    } in
    let h : is_refusal c.stood_for-stood.result ≡ false = sym c.is_refused.ensures ∙ c.if-is_refused.false in
    let z = of_member.stood_sizes s h in (
      r.1,
      omega (arith, c.start-start.ensures, c.requires.members_asked.room, z.0, z.1, z.2),
      omega (arith, c.len-len.ensures, z.0, z.1, z.2),
      omega (arith, c.len-len.ensures, z.0, z.1, z.2),
    )

pub put_one-behind-requires : goal.put_one-behind-requires
put_one-behind-requires t c =
    let s : of_member.MemberStood (put_there c.requires.members_asked.ready) c.args.turn.by c.stood_for-stood.new.arena c.stood_for-stood.result = record {
      asked = c.requires.members_asked;
      stood = c.stood_for-stood.ensures;
    } in
    let h : is_refusal c.stood_for-stood.result ≡ false = sym c.is_refused.ensures ∙ c.if-is_refused.false in
    (of_member.stood_sizes s h).3

pub put_one-with_cells-to-requires : goal.put_one-with_cells-to-requires
put_one-with_cells-to-requires t c =
    let r : (c.args.turn.at.cells + 1 ≤ 109) × (c.args.turn.by.x < variable_limit) = (
      omega (
        arith,
        c.requires.members_asked.inner.more_cells,
        c.requires.members_asked.inner.some,
      ),
      omega (
        arith,
        c.requires.members_asked.inner.variables,
        c.requires.members_asked.inner.some,
        c.requires.members_asked.variable,
      ),
    ) in
    let e = ap (λ (x : Where). x.cells) c.behind.ensures in
    omega (arith, r.0)

pub put_one-put_node-put-requires : goal.put_one-put_node-put-requires
put_one-put_node-put-requires t c =
    let r : (c.args.turn.at.cells + 1 ≤ 109) × (c.args.turn.by.x < variable_limit) = (
      omega (
        arith,
        c.requires.members_asked.inner.more_cells,
        c.requires.members_asked.inner.some,
      ),
      omega (
        arith,
        c.requires.members_asked.inner.variables,
        c.requires.members_asked.inner.some,
        c.requires.members_asked.variable,
      ),
    ) in
    let s : of_member.MemberStood (put_there c.requires.members_asked.ready) c.args.turn.by c.stood_for-stood.new.arena c.stood_for-stood.result = record {
      asked = c.requires.members_asked;
      stood = c.stood_for-stood.ensures;
    } in
    let h : is_refusal c.stood_for-stood.result ≡ false = sym c.is_refused.ensures ∙ c.if-is_refused.false in
    let i : c.member-inner.result ≡ with_member c.args.scope c.args.turn.by.x (start_of c.stood_for-stood.result) (len_of c.stood_for-stood.result) =
    c.member-inner.ensures ∙ ap₂ (with_member c.args.scope c.args.turn.by.x) c.start-start.ensures c.len-len.ensures in
    let k : c.member_cells-two.result ≡ front_two c.args.cells.now c.args.turn.at.cells (get_or c.args.cells.now c.args.turn.by.x
    0) = c.member_cells-two.ensures.inside (omega (arith, r.0), r.1) in
    let p : c.with_cells-to.result ≡ with_cell_of (behind_of c.args.turn.at c.stood_for-stood.result) = c.with_cells-to.ensures ∙
    ap with_cell_of c.behind.ensures in
    let l = levels_as p in
    (omega (arith, c.decreases), ready_as p i k refl (of_member.member_asks s h c.requires.some_view))

pub put_one-returns-then-is_refused-2 : goal.put_one-returns-then-is_refused-2
put_one-returns-then-is_refused-2 t c =
    let r : (c.args.turn.at.cells + 1 ≤ 109) × (c.args.turn.by.x < variable_limit) = (
      omega (
        arith,
        c.requires.members_asked.inner.more_cells,
        c.requires.members_asked.inner.some,
      ),
      omega (
        arith,
        c.requires.members_asked.inner.variables,
        c.requires.members_asked.inner.some,
        c.requires.members_asked.variable,
      ),
    ) in
    let s : of_member.MemberStood (put_there c.requires.members_asked.ready) c.args.turn.by c.stood_for-stood.new.arena c.stood_for-stood.result = record {
      asked = c.requires.members_asked;
      stood = c.stood_for-stood.ensures;
    } in
    let h : is_refusal c.stood_for-stood.result ≡ false = sym c.is_refused.ensures ∙ c.if-is_refused.false in
    let i : c.member-inner.result ≡ with_member c.args.scope c.args.turn.by.x (start_of c.stood_for-stood.result) (len_of c.stood_for-stood.result) =
    c.member-inner.ensures ∙ ap₂ (with_member c.args.scope c.args.turn.by.x) c.start-start.ensures c.len-len.ensures in
    let k : c.member_cells-two.result ≡ front_two c.args.cells.now c.args.turn.at.cells (get_or c.args.cells.now c.args.turn.by.x
    0) = c.member_cells-two.ensures.inside (omega (arith, r.0), r.1) in
    let p : c.with_cells-to.result ≡ with_cell_of (behind_of c.args.turn.at c.stood_for-stood.result) = c.with_cells-to.ensures ∙
    ap with_cell_of c.behind.ensures in
    let o : PutTold (of_member.member_here s h) (Shown c.args.view.now) c.put_node-put.new.arena c.put_node-put.new.slots c.put_node-put.result
    (enter c.args.turn.by.root) =
    shows_as p i k refl c.put_node-put.ensures.task_tells in
    of_member.put_refused s h o (sym c.is_refused-2.ensures ∙ c.if-is_refused-2.true)

pub put_one-offset_bounds-slots-cell-2 : goal.put_one-offset_bounds-slots-cell-2
put_one-offset_bounds-slots-cell-2 t c =
    let r : (c.args.turn.at.cells + 1 ≤ 109) × (c.args.turn.by.x < variable_limit) = (
      omega (
        arith,
        c.requires.members_asked.inner.more_cells,
        c.requires.members_asked.inner.some,
      ),
      omega (
        arith,
        c.requires.members_asked.inner.variables,
        c.requires.members_asked.inner.some,
        c.requires.members_asked.variable,
      ),
    ) in
    record { fits = omega (arith, r.0) }

pub put_one-bounds-slots-cell-2 : goal.put_one-bounds-slots-cell-2
put_one-bounds-slots-cell-2 t c =
    let r : (c.args.turn.at.cells + 1 ≤ 109) × (c.args.turn.by.x < variable_limit) = (
      omega (
        arith,
        c.requires.members_asked.inner.more_cells,
        c.requires.members_asked.inner.some,
      ),
      omega (
        arith,
        c.requires.members_asked.inner.variables,
        c.requires.members_asked.inner.some,
        c.requires.members_asked.variable,
      ),
    ) in
    omega (arith, r.0)

pub put_one-overflow_add-size : goal.put_one-overflow_add-size
put_one-overflow_add-size t c =
    let r : (c.args.turn.at.cells + 1 ≤ 109) × (c.args.turn.by.x < variable_limit) = (
      omega (
        arith,
        c.requires.members_asked.inner.more_cells,
        c.requires.members_asked.inner.some,
      ),
      omega (
        arith,
        c.requires.members_asked.inner.variables,
        c.requires.members_asked.inner.some,
        c.requires.members_asked.variable,
      ),
    ) in
    let s : of_member.MemberStood (put_there c.requires.members_asked.ready) c.args.turn.by c.stood_for-stood.new.arena c.stood_for-stood.result = record {
      asked = c.requires.members_asked;
      stood = c.stood_for-stood.ensures;
    } in
    let h : is_refusal c.stood_for-stood.result ≡ false = sym c.is_refused.ensures ∙ c.if-is_refused.false in
    let i : c.member-inner.result ≡ with_member c.args.scope c.args.turn.by.x (start_of c.stood_for-stood.result) (len_of c.stood_for-stood.result) =
    c.member-inner.ensures ∙ ap₂ (with_member c.args.scope c.args.turn.by.x) c.start-start.ensures c.len-len.ensures in
    let k : c.member_cells-two.result ≡ front_two c.args.cells.now c.args.turn.at.cells (get_or c.args.cells.now c.args.turn.by.x
    0) = c.member_cells-two.ensures.inside (omega (arith, r.0), r.1) in
    let p : c.with_cells-to.result ≡ with_cell_of (behind_of c.args.turn.at c.stood_for-stood.result) = c.with_cells-to.ensures ∙
    ap with_cell_of c.behind.ensures in
    let o : PutTold (of_member.member_here s h) (Shown c.args.view.now) c.put_node-put.new.arena c.put_node-put.new.slots c.put_node-put.result
    (enter c.args.turn.by.root) =
    shows_as p i k refl c.put_node-put.ensures.task_tells in
    let d : is_refusal c.put_node-put.result ≡ false = sym c.is_refused-2.ensures ∙ c.if-is_refused-2.false in
    let f : Few (c.args.turn.at.left - steps_of c.stood_for-stood.result) c.put_node-put.result = few_at p c.put_node-put.ensures.few in
    let n : c.place_of-now.result ≡ place_of (get_or c.put_node-put.new.slots c.args.turn.at.cells 0) c.args.turn.at.cells (start_of c.stood_for-stood.result)
    (len_of c.stood_for-stood.result) = c.place_of-now.ensures.inside (omega (arith, r.0))
    ∙ ap₂ (place_of (get_or c.put_node-put.new.slots c.args.turn.at.cells 0) c.args.turn.at.cells) c.start-start.ensures c.len-len.ensures in
    let z : (c.place_of-now.result.len ≤ 256) × (c.place_of-now.result.start + c.place_of-now.result.len ≤ length c.put_node-put.new.arena) =
    of_member.now_there s h o d f n c.requires.some_view in
    record { fits = omega (arith, z.0) }

pub put_one-returns-then-overlong : goal.put_one-returns-then-overlong
put_one-returns-then-overlong t c =
    let r : (c.args.turn.at.cells + 1 ≤ 109) × (c.args.turn.by.x < variable_limit) = (
      omega (
        arith,
        c.requires.members_asked.inner.more_cells,
        c.requires.members_asked.inner.some,
      ),
      omega (
        arith,
        c.requires.members_asked.inner.variables,
        c.requires.members_asked.inner.some,
        c.requires.members_asked.variable,
      ),
    ) in
    let s : of_member.MemberStood (put_there c.requires.members_asked.ready) c.args.turn.by c.stood_for-stood.new.arena c.stood_for-stood.result = record {
      asked = c.requires.members_asked;
      stood = c.stood_for-stood.ensures;
    } in
    let h : is_refusal c.stood_for-stood.result ≡ false = sym c.is_refused.ensures ∙ c.if-is_refused.false in
    let i : c.member-inner.result ≡ with_member c.args.scope c.args.turn.by.x (start_of c.stood_for-stood.result) (len_of c.stood_for-stood.result) =
    c.member-inner.ensures ∙ ap₂ (with_member c.args.scope c.args.turn.by.x) c.start-start.ensures c.len-len.ensures in
    let k : c.member_cells-two.result ≡ front_two c.args.cells.now c.args.turn.at.cells (get_or c.args.cells.now c.args.turn.by.x
    0) = c.member_cells-two.ensures.inside (omega (arith, r.0), r.1) in
    let p : c.with_cells-to.result ≡ with_cell_of (behind_of c.args.turn.at c.stood_for-stood.result) = c.with_cells-to.ensures ∙
    ap with_cell_of c.behind.ensures in
    let o : PutTold (of_member.member_here s h) (Shown c.args.view.now) c.put_node-put.new.arena c.put_node-put.new.slots c.put_node-put.result
    (enter c.args.turn.by.root) =
    shows_as p i k refl c.put_node-put.ensures.task_tells in
    let d : is_refusal c.put_node-put.result ≡ false = sym c.is_refused-2.ensures ∙ c.if-is_refused-2.false in
    let f : Few (c.args.turn.at.left - steps_of c.stood_for-stood.result) c.put_node-put.result = few_at p c.put_node-put.ensures.few in
    let n : c.place_of-now.result ≡ place_of (get_or c.put_node-put.new.slots c.args.turn.at.cells 0) c.args.turn.at.cells (start_of c.stood_for-stood.result)
    (len_of c.stood_for-stood.result) = c.place_of-now.ensures.inside (omega (arith, r.0))
    ∙ ap₂ (place_of (get_or c.put_node-put.new.slots c.args.turn.at.cells 0) c.args.turn.at.cells) c.start-start.ensures c.len-len.ensures in
    let l = ltb-true 256 (c.args.turn.built + (1 + c.place_of-now.result.len) + 1) (sym c.overlong.ensures ∙ c.if-overlong.true) in
    of_member.member_44 s h o d f n (omega (arith, l)) c.refused.ensures

pub put_one-bounds-whole-built : goal.put_one-bounds-whole-built
put_one-bounds-whole-built t c =
    let e : c.args.turn.built + (1 + c.place_of-now.result.len) + 1 ≤ 256 = ltb-false 256 (c.args.turn.built + (1 + c.place_of-now.result.len) + 1)
    (sym c.overlong.ensures ∙ c.if-overlong.false) in
    omega (arith, e)

pub put_one-overflow_add-built : goal.put_one-overflow_add-built
put_one-overflow_add-built t c =
    let e : c.args.turn.built + (1 + c.place_of-now.result.len) + 1 ≤ 256 = ltb-false 256 (c.args.turn.built + (1 + c.place_of-now.result.len) + 1)
    (sym c.overlong.ensures ∙ c.if-overlong.false) in
    record { fits = omega (arith, e) }

pub put_one-fill-requires : goal.put_one-fill-requires
put_one-fill-requires t c =
    let r : (c.args.turn.at.cells + 1 ≤ 109) × (c.args.turn.by.x < variable_limit) = (
      omega (
        arith,
        c.requires.members_asked.inner.more_cells,
        c.requires.members_asked.inner.some,
      ),
      omega (
        arith,
        c.requires.members_asked.inner.variables,
        c.requires.members_asked.inner.some,
        c.requires.members_asked.variable,
      ),
    ) in
    let s : of_member.MemberStood (put_there c.requires.members_asked.ready) c.args.turn.by c.stood_for-stood.new.arena c.stood_for-stood.result = record {
      asked = c.requires.members_asked;
      stood = c.stood_for-stood.ensures;
    } in
    let h : is_refusal c.stood_for-stood.result ≡ false = sym c.is_refused.ensures ∙ c.if-is_refused.false in
    let i : c.member-inner.result ≡ with_member c.args.scope c.args.turn.by.x (start_of c.stood_for-stood.result) (len_of c.stood_for-stood.result) =
    c.member-inner.ensures ∙ ap₂ (with_member c.args.scope c.args.turn.by.x) c.start-start.ensures c.len-len.ensures in
    let k : c.member_cells-two.result ≡ front_two c.args.cells.now c.args.turn.at.cells (get_or c.args.cells.now c.args.turn.by.x
    0) = c.member_cells-two.ensures.inside (omega (arith, r.0), r.1) in
    let p : c.with_cells-to.result ≡ with_cell_of (behind_of c.args.turn.at c.stood_for-stood.result) = c.with_cells-to.ensures ∙
    ap with_cell_of c.behind.ensures in
    let o : PutTold (of_member.member_here s h) (Shown c.args.view.now) c.put_node-put.new.arena c.put_node-put.new.slots c.put_node-put.result
    (enter c.args.turn.by.root) =
    shows_as p i k refl c.put_node-put.ensures.task_tells in
    let d : is_refusal c.put_node-put.result ≡ false = sym c.is_refused-2.ensures ∙ c.if-is_refused-2.false in
    let f : Few (c.args.turn.at.left - steps_of c.stood_for-stood.result) c.put_node-put.result = few_at p c.put_node-put.ensures.few in
    let n : c.place_of-now.result ≡ place_of (get_or c.put_node-put.new.slots c.args.turn.at.cells 0) c.args.turn.at.cells (start_of c.stood_for-stood.result)
    (len_of c.stood_for-stood.result) = c.place_of-now.ensures.inside (omega (arith, r.0))
    ∙ ap₂ (place_of (get_or c.put_node-put.new.slots c.args.turn.at.cells 0) c.args.turn.at.cells) c.start-start.ensures c.len-len.ensures in
    let z : (c.place_of-now.result.len ≤ 256) × (c.place_of-now.result.start + c.place_of-now.result.len ≤ length c.put_node-put.new.arena) =
    of_member.now_there s h o d f n c.requires.some_view in
    let e : c.args.turn.built + (1 + c.place_of-now.result.len) + 1 ≤ 256 = ltb-false 256 (c.args.turn.built + (1 + c.place_of-now.result.len) + 1)
    (sym c.overlong.ensures ∙ c.if-overlong.false) in
    (simp length-set c.requires.whole_len.0, omega (arith, e), z.1)

pub put_one-overflow_add-steps : goal.put_one-overflow_add-steps
put_one-overflow_add-steps t c =
    let x = steps_small c.stood_for-stood.result in
    let y = steps_small c.put_node-put.result in
    record { fits = omega (arith, c.steps.ensures, c.steps-2.ensures) }

pub put_one-returns : goal.put_one-returns
put_one-returns t c =
    let m : c.middle-mid.result ≡ middle_of (shape_of (drop c.args.turn.by.old c.args.arena.now)) =
    c.middle-mid.ensures ∙ ap (λ (x : List ℕ). middle_of (shape_of x))
    (take_all (length c.args.arena.now - c.args.turn.by.old) (drop c.args.turn.by.old c.args.arena.now)
    (omega (arith, length-drop c.args.turn.by.old c.args.arena.now))) in
    let r : (c.args.turn.at.cells + 1 ≤ 109) × (c.args.turn.by.x < variable_limit) = (
      omega (
        arith,
        c.requires.members_asked.inner.more_cells,
        c.requires.members_asked.inner.some,
      ),
      omega (
        arith,
        c.requires.members_asked.inner.variables,
        c.requires.members_asked.inner.some,
        c.requires.members_asked.variable,
      ),
    ) in
    let s : of_member.MemberStood (put_there c.requires.members_asked.ready) c.args.turn.by c.stood_for-stood.new.arena c.stood_for-stood.result = record {
      asked = c.requires.members_asked;
      stood = c.stood_for-stood.ensures;
    } in
    let h : is_refusal c.stood_for-stood.result ≡ false = sym c.is_refused.ensures ∙ c.if-is_refused.false in
    let i : c.member-inner.result ≡ with_member c.args.scope c.args.turn.by.x (start_of c.stood_for-stood.result) (len_of c.stood_for-stood.result) =
    c.member-inner.ensures ∙ ap₂ (with_member c.args.scope c.args.turn.by.x) c.start-start.ensures c.len-len.ensures in
    let k : c.member_cells-two.result ≡ front_two c.args.cells.now c.args.turn.at.cells (get_or c.args.cells.now c.args.turn.by.x
    0) = c.member_cells-two.ensures.inside (omega (arith, r.0), r.1) in
    let p : c.with_cells-to.result ≡ with_cell_of (behind_of c.args.turn.at c.stood_for-stood.result) = c.with_cells-to.ensures ∙
    ap with_cell_of c.behind.ensures in
    let o : PutTold (of_member.member_here s h) (Shown c.args.view.now) c.put_node-put.new.arena c.put_node-put.new.slots c.put_node-put.result
    (enter c.args.turn.by.root) =
    shows_as p i k refl c.put_node-put.ensures.task_tells in
    let d : is_refusal c.put_node-put.result ≡ false = sym c.is_refused-2.ensures ∙ c.if-is_refused-2.false in
    let f : Few (c.args.turn.at.left - steps_of c.stood_for-stood.result) c.put_node-put.result = few_at p c.put_node-put.ensures.few in
    let n : c.place_of-now.result ≡ place_of (get_or c.put_node-put.new.slots c.args.turn.at.cells 0) c.args.turn.at.cells (start_of c.stood_for-stood.result)
    (len_of c.stood_for-stood.result) = c.place_of-now.ensures.inside (omega (arith, r.0))
    ∙ ap₂ (place_of (get_or c.put_node-put.new.slots c.args.turn.at.cells 0) c.args.turn.at.cells) c.start-start.ensures c.len-len.ensures in
    let e : c.args.turn.built + (1 + c.place_of-now.result.len) + 1 ≤ 256 = ltb-false 256 (c.args.turn.built + (1 + c.place_of-now.result.len) + 1)
    (sym c.overlong.ensures ∙ c.if-overlong.false) in
    of_member.member_done s h o d f n (omega (arith, e)) c.requires.whole_len.0 c.fill.ensures.0 c.fill.ensures.1 m c.unwrap_or.ensures
    (c.done.ensures ∙ ap₂ (λ (x y : ℕ). done_as c.unwrap_or.result (1 + c.place_of-now.result.len) (x + y)) c.steps.ensures c.steps-2.ensures)

pub put_all-loop-from-init : goal.put_all-loop-from-init
put_all-loop-from-init t c =
    of_members.turned_none refl

pub put_all-bounds-view-from : goal.put_all-bounds-view-from
put_all-bounds-view-from t c =
    let w : of_members.Looping c.args.sheet.now c.args.table.now c.args.arena.now c.args.slots.now c.args.scope c.args.cells.now c.args.by c.args.view.now
    c.args.at
    c.loop-from.arena c.loop-from.slots c.loop-from.whole c.loop-from.to c.loop-from.next c.loop-from.from c.loop-from.built =
    record { asked = c.requires.members_asked; list_shown = c.requires.some_list; turned = c.loop-from.invariant } in
    of_members.from_inside w

pub put_all-slice_bounds-rest-count : goal.put_all-slice_bounds-rest-count
put_all-slice_bounds-rest-count t c =
    let w : of_members.Looping c.args.sheet.now c.args.table.now c.args.arena.now c.args.slots.now c.args.scope c.args.cells.now c.args.by c.args.view.now
    c.args.at
    c.loop-from.arena c.loop-from.slots c.loop-from.whole c.loop-from.to c.loop-from.next c.loop-from.from c.loop-from.built =
    record { asked = c.requires.members_asked; list_shown = c.requires.some_list; turned = c.loop-from.invariant } in
    omega (arith, of_members.from_inside w)

pub put_all-slice_bounds-rest-start : goal.put_all-slice_bounds-rest-start
put_all-slice_bounds-rest-start t c =
    let w : of_members.Looping c.args.sheet.now c.args.table.now c.args.arena.now c.args.slots.now c.args.scope c.args.cells.now c.args.by c.args.view.now
    c.args.at
    c.loop-from.arena c.loop-from.slots c.loop-from.whole c.loop-from.to c.loop-from.next c.loop-from.from c.loop-from.built =
    record { asked = c.requires.members_asked; list_shown = c.requires.some_list; turned = c.loop-from.invariant } in
    omega (arith, of_members.from_inside w)

pub put_all-put_one-put-requires : goal.put_all-put_one-put-requires
put_all-put_one-put-requires t c =
    let w : of_members.Looping c.args.sheet.now c.args.table.now c.args.arena.now c.args.slots.now c.args.scope c.args.cells.now c.args.by c.args.view.now
    c.args.at
    c.loop-from.arena c.loop-from.slots c.loop-from.whole c.loop-from.to c.loop-from.next c.loop-from.from c.loop-from.built =
    record { asked = c.requires.members_asked; list_shown = c.requires.some_list; turned = c.loop-from.invariant } in
    let i : take (length c.args.view.now - c.loop-from.from) (drop c.loop-from.from c.args.view.now) ≡ drop c.loop-from.from c.args.view.now =
    take_all (length c.args.view.now - c.loop-from.from) (drop c.loop-from.from c.args.view.now) (omega (arith, length-drop c.loop-from.from c.args.view.now))
    in
    let m : c.unwrap_or-mid.result ≡ first_bytes_of (shape_of (drop c.loop-from.from c.args.view.now)) = c.unwrap_or-mid.ensures
    ∙ ap (λ (o : Option ℕ). unwrap_or o 0) (c.middle.ensures ∙ ap (λ (x : List ℕ). middle_of (shape_of x)) i) in
    let f : c.first_part-first.result.now ≡ first_part (drop c.loop-from.from c.args.view.now) c.unwrap_or-mid.result = c.first_part-first.ensures ∙
    ap (λ (x : List ℕ). first_part x c.unwrap_or-mid.result) i in
    let k = c.loop-from.invariant in
    let l = levels_as k.place in (
      omega (arith, c.decreases),
      (
        of_members.asked_as k.place k.same (of_members.member_asked w c.loop-from-test.true m),
        (of_members.some_view_as f (of_members.member_view w c.loop-from-test.true m), (k.whole_long, k.short)),
      ),
    )

pub put_all-returns-then-is_refused : goal.put_all-returns-then-is_refused
put_all-returns-then-is_refused t c =
    let w : of_members.Looping c.args.sheet.now c.args.table.now c.args.arena.now c.args.slots.now c.args.scope c.args.cells.now c.args.by c.args.view.now
    c.args.at
    c.loop-from.arena c.loop-from.slots c.loop-from.whole c.loop-from.to c.loop-from.next c.loop-from.from c.loop-from.built =
    record { asked = c.requires.members_asked; list_shown = c.requires.some_list; turned = c.loop-from.invariant } in
    let i : take (length c.args.view.now - c.loop-from.from) (drop c.loop-from.from c.args.view.now) ≡ drop c.loop-from.from c.args.view.now =
    take_all (length c.args.view.now - c.loop-from.from) (drop c.loop-from.from c.args.view.now) (omega (arith, length-drop c.loop-from.from c.args.view.now))
    in
    let m : c.unwrap_or-mid.result ≡ first_bytes_of (shape_of (drop c.loop-from.from c.args.view.now)) = c.unwrap_or-mid.ensures
    ∙ ap (λ (o : Option ℕ). unwrap_or o 0) (c.middle.ensures ∙ ap (λ (x : List ℕ). middle_of (shape_of x)) i) in
    let f : c.first_part-first.result.now ≡ first_part (drop c.loop-from.from c.args.view.now) c.unwrap_or-mid.result = c.first_part-first.ensures ∙
    ap (λ (x : List ℕ). first_part x c.unwrap_or-mid.result) i in
    let k = c.loop-from.invariant in
    let o : of_member.MemberTold c.args.sheet.now c.loop-from.arena c.put_one-put.new.arena c.loop-from.slots c.put_one-put.new.slots c.loop-from.whole
    c.put_one-put.new.whole c.args.scope
    c.args.cells.now (record { subject = c.args.by.subject; x = c.args.by.x; root = c.args.by.root; default = c.args.by.default; old = c.loop-from.next.old })
    (first_part (drop c.loop-from.from c.args.view.now) c.unwrap_or-mid.result) c.loop-from.built c.args.at.cells c.args.at.top c.args.at.levels
    c.loop-from.to.left c.put_one-put.result =
    of_members.member_as k.place k.same f c.put_one-put.ensures in
    of_members.member_stops w c.loop-from-test.true m o (sym c.is_refused.ensures ∙ c.if-is_refused.true)

pub put_all-after-to-requires : goal.put_all-after-to-requires
put_all-after-to-requires t c =
    let w : of_members.Looping c.args.sheet.now c.args.table.now c.args.arena.now c.args.slots.now c.args.scope c.args.cells.now c.args.by c.args.view.now
    c.args.at
    c.loop-from.arena c.loop-from.slots c.loop-from.whole c.loop-from.to c.loop-from.next c.loop-from.from c.loop-from.built =
    record { asked = c.requires.members_asked; list_shown = c.requires.some_list; turned = c.loop-from.invariant } in
    let i : take (length c.args.view.now - c.loop-from.from) (drop c.loop-from.from c.args.view.now) ≡ drop c.loop-from.from c.args.view.now =
    take_all (length c.args.view.now - c.loop-from.from) (drop c.loop-from.from c.args.view.now) (omega (arith, length-drop c.loop-from.from c.args.view.now))
    in
    let m : c.unwrap_or-mid.result ≡ first_bytes_of (shape_of (drop c.loop-from.from c.args.view.now)) = c.unwrap_or-mid.ensures
    ∙ ap (λ (o : Option ℕ). unwrap_or o 0) (c.middle.ensures ∙ ap (λ (x : List ℕ). middle_of (shape_of x)) i) in
    let f : c.first_part-first.result.now ≡ first_part (drop c.loop-from.from c.args.view.now) c.unwrap_or-mid.result = c.first_part-first.ensures ∙
    ap (λ (x : List ℕ). first_part x c.unwrap_or-mid.result) i in
    let k = c.loop-from.invariant in
    let o : of_member.MemberTold c.args.sheet.now c.loop-from.arena c.put_one-put.new.arena c.loop-from.slots c.put_one-put.new.slots c.loop-from.whole
    c.put_one-put.new.whole c.args.scope
    c.args.cells.now (record { subject = c.args.by.subject; x = c.args.by.x; root = c.args.by.root; default = c.args.by.default; old = c.loop-from.next.old })
    (first_part (drop c.loop-from.from c.args.view.now) c.unwrap_or-mid.result) c.loop-from.built c.args.at.cells c.args.at.top c.args.at.levels
    c.loop-from.to.left c.put_one-put.result =
    of_members.member_as k.place k.same f c.put_one-put.ensures in
    let d : is_refusal c.put_one-put.result ≡ false = sym c.is_refused.ensures ∙ c.if-is_refused.false in
    of_members.member_steps w c.loop-from-test.true m o d

pub put_all-overflow_add-next : goal.put_all-overflow_add-next
put_all-overflow_add-next t c =
    let w : of_members.Looping c.args.sheet.now c.args.table.now c.args.arena.now c.args.slots.now c.args.scope c.args.cells.now c.args.by c.args.view.now
    c.args.at
    c.loop-from.arena c.loop-from.slots c.loop-from.whole c.loop-from.to c.loop-from.next c.loop-from.from c.loop-from.built =
    record { asked = c.requires.members_asked; list_shown = c.requires.some_list; turned = c.loop-from.invariant } in
    let o = of_members.old_small w in
    let k = start_small c.put_one-put.result in
    record { fits = omega (arith, c.start.ensures, o) }

pub put_all-overflow_add-from : goal.put_all-overflow_add-from
put_all-overflow_add-from t c =
    let w : of_members.Looping c.args.sheet.now c.args.table.now c.args.arena.now c.args.slots.now c.args.scope c.args.cells.now c.args.by c.args.view.now
    c.args.at
    c.loop-from.arena c.loop-from.slots c.loop-from.whole c.loop-from.to c.loop-from.next c.loop-from.from c.loop-from.built =
    record { asked = c.requires.members_asked; list_shown = c.requires.some_list; turned = c.loop-from.invariant } in
    let i : take (length c.args.view.now - c.loop-from.from) (drop c.loop-from.from c.args.view.now) ≡ drop c.loop-from.from c.args.view.now =
    take_all (length c.args.view.now - c.loop-from.from) (drop c.loop-from.from c.args.view.now) (omega (arith, length-drop c.loop-from.from c.args.view.now))
    in
    let m : c.unwrap_or-mid.result ≡ first_bytes_of (shape_of (drop c.loop-from.from c.args.view.now)) = c.unwrap_or-mid.ensures
    ∙ ap (λ (o : Option ℕ). unwrap_or o 0) (c.middle.ensures ∙ ap (λ (x : List ℕ). middle_of (shape_of x)) i) in
    let k = of_members.mid_inside w c.loop-from-test.true m in
    record { fits = omega (arith, k.1, k.2) }

pub put_all-overflow_add-built : goal.put_all-overflow_add-built
put_all-overflow_add-built t c =
    let k = c.loop-from.invariant in
    let l = len_small c.put_one-put.result in
    record { fits = omega (arith, c.len-built.ensures, k.short) }

pub put_all-loop-from-smaller : goal.put_all-loop-from-smaller
put_all-loop-from-smaller t c =
    let w : of_members.Looping c.args.sheet.now c.args.table.now c.args.arena.now c.args.slots.now c.args.scope c.args.cells.now c.args.by c.args.view.now
    c.args.at
    c.loop-from.arena c.loop-from.slots c.loop-from.whole c.loop-from.to c.loop-from.next c.loop-from.from c.loop-from.built =
    record { asked = c.requires.members_asked; list_shown = c.requires.some_list; turned = c.loop-from.invariant } in
    let i : take (length c.args.view.now - c.loop-from.from) (drop c.loop-from.from c.args.view.now) ≡ drop c.loop-from.from c.args.view.now =
    take_all (length c.args.view.now - c.loop-from.from) (drop c.loop-from.from c.args.view.now) (omega (arith, length-drop c.loop-from.from c.args.view.now))
    in
    let m : c.unwrap_or-mid.result ≡ first_bytes_of (shape_of (drop c.loop-from.from c.args.view.now)) = c.unwrap_or-mid.ensures
    ∙ ap (λ (o : Option ℕ). unwrap_or o 0) (c.middle.ensures ∙ ap (λ (x : List ℕ). middle_of (shape_of x)) i) in
    let k = of_members.mid_inside w c.loop-from-test.true m in
    omega (arith, k)

pub put_all-loop-from-preserved : goal.put_all-loop-from-preserved
put_all-loop-from-preserved t c =
    let w : of_members.Looping c.args.sheet.now c.args.table.now c.args.arena.now c.args.slots.now c.args.scope c.args.cells.now c.args.by c.args.view.now
    c.args.at
    c.loop-from.arena c.loop-from.slots c.loop-from.whole c.loop-from.to c.loop-from.next c.loop-from.from c.loop-from.built =
    record { asked = c.requires.members_asked; list_shown = c.requires.some_list; turned = c.loop-from.invariant } in
    let i : take (length c.args.view.now - c.loop-from.from) (drop c.loop-from.from c.args.view.now) ≡ drop c.loop-from.from c.args.view.now =
    take_all (length c.args.view.now - c.loop-from.from) (drop c.loop-from.from c.args.view.now) (omega (arith, length-drop c.loop-from.from c.args.view.now))
    in
    let m : c.unwrap_or-mid.result ≡ first_bytes_of (shape_of (drop c.loop-from.from c.args.view.now)) = c.unwrap_or-mid.ensures
    ∙ ap (λ (o : Option ℕ). unwrap_or o 0) (c.middle.ensures ∙ ap (λ (x : List ℕ). middle_of (shape_of x)) i) in
    let f : c.first_part-first.result.now ≡ first_part (drop c.loop-from.from c.args.view.now) c.unwrap_or-mid.result = c.first_part-first.ensures ∙
    ap (λ (x : List ℕ). first_part x c.unwrap_or-mid.result) i in
    let k = c.loop-from.invariant in
    let o : of_member.MemberTold c.args.sheet.now c.loop-from.arena c.put_one-put.new.arena c.loop-from.slots c.put_one-put.new.slots c.loop-from.whole
    c.put_one-put.new.whole c.args.scope
    c.args.cells.now (record { subject = c.args.by.subject; x = c.args.by.x; root = c.args.by.root; default = c.args.by.default; old = c.loop-from.next.old })
    (first_part (drop c.loop-from.from c.args.view.now) c.unwrap_or-mid.result) c.loop-from.built c.args.at.cells c.args.at.top c.args.at.levels
    c.loop-from.to.left c.put_one-put.result =
    of_members.member_as k.place k.same f c.put_one-put.ensures in
    let d : is_refusal c.put_one-put.result ≡ false = sym c.is_refused.ensures ∙ c.if-is_refused.false in
    let n : ◌≡◌ {A = Members}
    (record {
      subject = c.loop-from.next.subject;
      x = c.loop-from.next.x;
      root = c.loop-from.next.root;
      default = c.loop-from.next.default;
      old = c.loop-from.next.old + c.start.result;
    })
    (record {
      subject = c.args.by.subject;
      x = c.args.by.x;
      root = c.args.by.root;
      default = c.args.by.default;
      old = c.loop-from.next.old + start_of c.put_one-put.result;
    }) =
    ap (λ (n : Members). record { subject = n.subject; x = n.x; root = n.root; default = n.default; old = c.loop-from.next.old + c.start.result }) k.same
    ∙ ap (λ (z : ℕ). record {
      subject = c.args.by.subject;
      x = c.args.by.x;
      root = c.args.by.root;
      default = c.args.by.default;
      old = c.loop-from.next.old + z;
    }) c.start.ensures in
    of_members.turned_as c.after-to.ensures n refl (ap (λ (z : ℕ). c.loop-from.built + z) c.len-built.ensures)
    (of_members.member_turned w c.loop-from-test.true m o d)

pub put_all-bounds-whole-built : goal.put_all-bounds-whole-built
put_all-bounds-whole-built t c =
    omega (arith, c.loop-from.invariant.short)

pub put_all-overflow_add-size : goal.put_all-overflow_add-size
put_all-overflow_add-size t c =
    let k = c.loop-from.invariant in
    record { fits = omega (arith, k.short) }

pub put_all-slice_bounds-whole-end : goal.put_all-slice_bounds-whole-end
put_all-slice_bounds-whole-end t c =
    let k = c.loop-from.invariant in
    rw length-set (omega (arith, k.short, k.whole_long))

pub put_all-slice_bounds-v-end : goal.put_all-slice_bounds-v-end
put_all-slice_bounds-v-end t c =
    let w : of_members.Looping c.args.sheet.now c.args.table.now c.args.arena.now c.args.slots.now c.args.scope c.args.cells.now c.args.by c.args.view.now
    c.args.at
    c.loop-from.arena c.loop-from.slots c.loop-from.whole c.loop-from.to c.loop-from.next c.loop-from.from c.loop-from.built =
    record { asked = c.requires.members_asked; list_shown = c.requires.some_list; turned = c.loop-from.invariant } in
    of_members.end_long w c.loop-from-test.false refl

pub put_all-put_node-put-requires : goal.put_all-put_node-put-requires
put_all-put_node-put-requires t c =
    let w : of_members.Looping c.args.sheet.now c.args.table.now c.args.arena.now c.args.slots.now c.args.scope c.args.cells.now c.args.by c.args.view.now
    c.args.at
    c.loop-from.arena c.loop-from.slots c.loop-from.whole c.loop-from.to c.loop-from.next c.loop-from.from c.loop-from.built =
    record { asked = c.requires.members_asked; list_shown = c.requires.some_list; turned = c.loop-from.invariant } in
    let k = c.loop-from.invariant in
    let l = levels_as k.place in
    (omega (arith, c.decreases), ready_at k.place (of_members.end_asks w c.loop-from-test.false refl))

pub put_all-overflow_sub-at : goal.put_all-overflow_sub-at
put_all-overflow_sub-at t c =
    let w : of_members.Looping c.args.sheet.now c.args.table.now c.args.arena.now c.args.slots.now c.args.scope c.args.cells.now c.args.by c.args.view.now
    c.args.at
    c.loop-from.arena c.loop-from.slots c.loop-from.whole c.loop-from.to c.loop-from.next c.loop-from.from c.loop-from.built =
    record { asked = c.requires.members_asked; list_shown = c.requires.some_list; turned = c.loop-from.invariant } in
    of_members.left_fewer w

pub put_all-returns : goal.put_all-returns
put_all-returns t c =
    let w : of_members.Looping c.args.sheet.now c.args.table.now c.args.arena.now c.args.slots.now c.args.scope c.args.cells.now c.args.by c.args.view.now
    c.args.at
    c.loop-from.arena c.loop-from.slots c.loop-from.whole c.loop-from.to c.loop-from.next c.loop-from.from c.loop-from.built =
    record { asked = c.requires.members_asked; list_shown = c.requires.some_list; turned = c.loop-from.invariant } in
    let k = c.loop-from.invariant in
    of_members.end_told w c.loop-from-test.false refl (gives_at k.place c.put_node-put.ensures.task_tells) c.put_node-put.ensures.few c.later.ensures

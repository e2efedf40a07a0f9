-- `write` meets its contract. Assumes nothing.
use mathlib.Core.Path.{refl}
use Rattle.std.specs.Prelude.{List, ℕ, ◌++◌, ◌≤◌, length, drop}
use Rattle.std.proofs.Common.{ap, sym, ◌∙◌, arith, length-take-le}
use Rattle.value.proofs.Numbered.{passed_on}
use Rattle.json_codec.specs.Returns.{is_whole, whole_holds, write_short, write_malformed, write_asks, write_deep, write_done}
use Rattle.json_codec.proofs.write.Goals as goal
use Rattle.json_codec.proofs.write.Goals.{In_ok-end}

asks : (c : In_ok-end) → (c.in_ok-end.end.put ≤ length c.write_value.new.text) × (c.in_ok-end.end.put ≤ 2048)
asks c = write_asks (is_whole c.args.v.now c.in_ok-read_view.ensures) c.write_value.ensures refl c.in_ok-end.was

pub returns-then-out-lt-TEXT : goal.returns-then-out-lt-TEXT
returns-then-out-lt-TEXT c = write_short c.args.v.now c.args.out.now c.if-out-lt-TEXT.true

pub returns-in_err-read_view : goal.returns-in_err-read_view
returns-in_err-read_view c =
    rw (passed_on c.from_residual.result c.from_residual.ensures.1)
    (write_malformed c.args.v.now c.args.out.now c.if-out-lt-TEXT.false c.in_err-read_view.ensures)

pub write_value-requires : goal.write_value-requires
write_value-requires c = whole_holds (is_whole c.args.v.now c.in_ok-read_view.ensures)

pub slice_bounds-copy_from_slice-end : goal.slice_bounds-copy_from_slice-end
slice_bounds-copy_from_slice-end c = omega (arith, asks c, c.if-out-lt-TEXT.false)

pub slice_bounds-text-end : goal.slice_bounds-text-end
slice_bounds-text-end c = (asks (goal.at.slice_bounds-text-end c).In_ok-end).0

pub slice_bounds-copy_from_slice-end-2 : goal.slice_bounds-copy_from_slice-end-2
slice_bounds-copy_from_slice-end-2 c =
    let q = asks (goal.at.slice_bounds-copy_from_slice-end-2 c).In_ok-end in
    sym (length-take-le c.in_ok-end.end.put c.args.out.now (omega (arith, q, c.if-out-lt-TEXT.false)))

pub slice_bounds-copy_from_slice-end-3 : goal.slice_bounds-copy_from_slice-end-3
slice_bounds-copy_from_slice-end-3 c =
    sym (length-take-le c.in_ok-end.end.put c.write_value.new.text (asks (goal.at.slice_bounds-copy_from_slice-end-3 c).In_ok-end).0)

pub copy_from_slice-requires : goal.copy_from_slice-requires
copy_from_slice-requires c =
    let q = asks (goal.at.copy_from_slice-requires c).In_ok-end in
    length-take-le c.in_ok-end.end.put c.args.out.now (omega (arith, q, c.if-out-lt-TEXT.false))
    ∙ sym (length-take-le c.in_ok-end.end.put c.write_value.new.text q.0)

pub returns-in_err-end : goal.returns-in_err-end
returns-in_err-end c =
    rw (passed_on c.from_residual-in_err-end.result c.from_residual-in_err-end.ensures.1)
    (write_deep (is_whole c.args.v.now c.in_ok-read_view.ensures) c.write_value.ensures c.args.out.now c.if-out-lt-TEXT.false c.in_err-end.was)

pub returns : goal.returns
returns c =
    write_done (is_whole c.args.v.now c.in_ok-read_view.ensures) c.write_value.ensures c.args.out.now c.if-out-lt-TEXT.false refl
    c.in_ok-end.was (ap (λ (l : List ℕ). l ++ drop c.in_ok-end.end.put c.args.out.now) c.copy_from_slice.ensures.after)

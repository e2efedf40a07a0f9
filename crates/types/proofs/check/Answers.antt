-- `check` meets its contract: the sheet refused; its types; a node used twice; a node that does not fit; none. Assumes nothing.
use mathlib.Core.Path.{◌≡◌, sym, ◌∙◌}
use mathlib.Core.Option.{none}
use lib.ListN.{length}
use Rattle.value.proofs.Numbered.{passed_on}
use Rattle.sheet.specs.Sheet.{Sheet}
use Rattle.sheet.specs.Laws.{Reads, table_reads}
use mathlib.Core.List.{List}
use Rattle.typing.specs.Types.{Ty}
use Rattle.typing.specs.Check.{lowest, twice}
use Rattle.types.specs.Slots.{lent_below, Slotted}
use Rattle.types.specs.Laying.{types_of, no_types}
use Rattle.types.specs.Checked.{check_refused, reads_few, reads_nodes, check_80, check_81, ready_of, none-twice, check_82, check-passes}
use Rattle.types.proofs.check.Goals as goal
use Rattle.types.proofs.check.Goals.{In_ok-table, In-Some, In_default-first_used_twice}

-- WHAT IS KNOWN THERE: the sheet is read; its types are; no node is used twice
abbrev sheet_read : (c : In_ok-table) → (sh : Sheet) × Reads c.args.sheet.now c.in_ok-table.table sh
sheet_read c = table_reads _ c.in_ok-table.ensures

abbrev sheet-once : (c : In_default-first_used_twice) → (sh : Sheet) × Reads c.args.sheet.now c.in_ok-table.table sh
sheet-once c = table_reads _ c.in_ok-table.ensures

types_read : (c : In-Some) → let t = c.in_ok-table.table in
    (ts : List Ty) × Slotted c.args.types.now c.in-Some.starts (lent_below t.k t.sections t.nodes) ts
types_read c = types_of c.in-Some.ensures

types-once : (c : In_default-first_used_twice) → let t = c.in_ok-table.table in
    (ts : List Ty) × Slotted c.args.types.now c.in-Some.starts (lent_below t.k t.sections t.nodes) ts
types-once c = types_of c.in-Some.ensures

once : (c : In_default-first_used_twice) → let sh = (sheet-once c).0 in lowest (twice sh) 0 (length sh.nodes) ≡ none
once c = let s = sheet-once c in
    none-twice s.1 (types-once c).1 (sym c.in_default-first_used_twice.is ∙ c.first_used_twice.ensures s.0 s.1)

pub returns-in_err-table : goal.returns-in_err-table
returns-in_err-table c = rw (passed_on c.from_residual.result c.from_residual.ensures.1) (check_refused _ _ c.in_err-table.ensures)

pub read_types-requires : goal.read_types-requires
read_types-requires c = reads_few (sheet_read c).1

pub returns-in_default : goal.returns-in_default
returns-in_default c =
    rw c.from.ensures (check_80 (sheet_read (goal.at.returns-in_default c).In_ok-table).1 _ (no_types c.in_default.ensures))

pub first_used_twice-requires : goal.first_used_twice-requires
first_used_twice-requires c = reads_nodes (sheet_read (goal.at.first_used_twice-requires c).In_ok-table).1

pub returns-in-Some-first_used_twice : goal.returns-in-Some-first_used_twice
returns-in-Some-first_used_twice c =
    let s = sheet_read (goal.at.returns-in-Some-first_used_twice c).In_ok-table in
    check_81 s.1 (types_read (goal.at.returns-in-Some-first_used_twice c).In-Some).1 (sym c.in-Some-first_used_twice.is ∙ c.first_used_twice.ensures s.0 s.1)

pub first_unfit-requires : goal.first_unfit-requires
first_unfit-requires c = ready_of (sheet_read (goal.at.first_unfit-requires c).In_ok-table).1 (types_read (goal.at.first_unfit-requires c).In-Some).1
    (once (goal.at.first_unfit-requires c).In_default-first_used_twice)

pub returns-in-Some-first_unfit : goal.returns-in-Some-first_unfit
returns-in-Some-first_unfit c =
    let p = goal.at.returns-in-Some-first_unfit c in
    let s = (sheet_read p.In_ok-table).1 in let z = (types_read p.In-Some).1 in let o = once p.In_default-first_used_twice in
    check_82 s z o (sym c.in-Some-first_unfit.is ∙ c.first_unfit.ensures (ready_of s z o))

pub returns : goal.returns
returns c =
    let p = goal.at.returns c in
    let s = (sheet_read p.In_ok-table).1 in let z = (types_read p.In-Some).1 in let o = once p.In_default-first_used_twice in
    check-passes s z o (sym c.in_default-first_unfit.is ∙ c.first_unfit.ensures (ready_of s z o))

-- `judged` meets its contract: what each reader refuses, and what the list and both plans say. Assumes nothing.
use mathlib.Core.Path.{ap, ◌∙◌}
use native.Mathlib.Omega.{arith}
use Rattle.std.specs.Prelude.{◌≡◌, Bool}
use Rattle.value.specs.Result.{Result, ok}
use Rattle.value.specs.Numbered.{numbered}
use Rattle.value.proofs.Numbered.{passed_on}
use Rattle.value.proofs.SpansLaws.{view_ok, view_refusal}
use Rattle.sheet.specs.Laws.{table_refused}
use Rattle.calls.specs.Reply.{told}
use Rattle.calls.specs.WalkCalls.{told_says}
use Rattle.accepts.specs.Calls.{ready, values_not, values_of, values_none, both_read, built, no_sheet, no_old, no_view, no_new, Beside}
use Rattle.accepts.specs.Calls.{on_yes, on_no, on_refused}
use Rattle.accepts.proofs.judged.Goals as goal
use Rattle.accepts.proofs.judged.Goals.{After-listed}

-- the list was put beside what was read out
beside : (c : After-listed)
    → Beside c.args.sheet.now c.args.old.now c.args.view.now c.args.new.now c.args.allowance c.get-got.new.arena (told c.get-got.result.walked)
    (numbered c.listed.result)
beside c =
    let q = ready c.args.sheet.now c.in_ok-table.ensures in
    let o = values_of q c.args.old.now c.in_ok-before.ensures in
    let v = view_ok c.args.view.now c.in_ok-read_view.ensures in
    let n = values_of q c.args.new.now c.in-Ok.ensures in
    record {
      sh = q.sh;
      sheet_read = q.reads.sheet;
      μ = o.vs;
      old_read = o.read;
      vs = _;
      view_read = v.1;
      ν = n.vs;
      new_read = n.read;
      says = told_says (c.get-got.ensures.walk_call.says c.requires);
      told = c.listed.ensures;
    }

pub returns-in_err-table-clause-value : goal.returns-in_err-table-clause-value
returns-in_err-table-clause-value c =
    rw (passed_on c.from_residual.result c.from_residual.ensures.1)
    (no_sheet c.args.sheet.now c.args.old.now c.args.view.now c.args.new.now c.args.allowance (table_refused _ c.in_err-table.ensures))

pub returns-in_err-before-clause-value : goal.returns-in_err-before-clause-value
returns-in_err-before-clause-value c =
    let q = ready c.args.sheet.now c.in_ok-table.ensures in
    rw (passed_on c.from_residual-in_err-before.result c.from_residual-in_err-before.ensures.1)
    (no_old c.args.sheet.now c.args.old.now c.args.view.now c.args.new.now c.args.allowance q.reads.sheet
    (values_not q c.args.old.now c.in_err-before.ensures))

pub returns-in_err-read_view-clause-value : goal.returns-in_err-read_view-clause-value
returns-in_err-read_view-clause-value c =
    let q = ready c.args.sheet.now c.in_ok-table.ensures in
    let o = values_of q c.args.old.now c.in_ok-before.ensures in
    rw (passed_on c.from_residual-in_err-read_view.result c.from_residual-in_err-read_view.ensures.1)
    (no_view c.args.sheet.now c.args.old.now c.args.view.now c.args.new.now c.args.allowance q.reads.sheet o.read
    (view_refusal _ c.in_err-read_view.ensures))

pub returns-in_default-clause-value : goal.returns-in_default-clause-value
returns-in_default-clause-value c =
    let q = ready c.args.sheet.now c.in_ok-table.ensures in
    let o = values_of q c.args.old.now c.in_ok-before.ensures in
    let v = view_ok c.args.view.now c.in_ok-read_view.ensures in
    let n = values_none q c.args.new.now c.read_plan-2.ensures c.in_default.not-Ok in
    no_new c.args.sheet.now c.args.old.now c.args.view.now c.args.new.now c.args.allowance q.reads.sheet o.read v.1 n.1

pub listed-requires : goal.listed-requires
listed-requires c =
    let w = c.get-got.ensures.walk_call in
    built (told_says (w.says c.requires)) (omega (arith, w.free.long, c.requires.scratch_long))

pub returns-in_err-same_list-clause-value : goal.returns-in_err-same_list-clause-value
returns-in_err-same_list-clause-value c =
    rw (passed_on c.from_residual-in_err-same_list.result c.from_residual-in_err-same_list.ensures.1)
    (on_refused (beside (goal.at.returns-in_err-same_list-clause-value c).After-listed) (ap numbered c.in_err-same_list.was))

-- what is said of the list
said : {r : Result Bool} {b d : Bool} → r ≡ ok b → b ≡ d → r ≡ ok d
said e f = e ∙ ap ok f

pub returns-then-not-same_list-clause-value : goal.returns-then-not-same_list-clause-value
returns-then-not-same_list-clause-value c =
    on_no (beside (goal.at.returns-then-not-same_list-clause-value c).After-listed)
    (said (ap numbered c.in_ok-same_list.was) c.if-not-same_list.true)

pub is_kept-requires : goal.is_kept-requires
is_kept-requires c =
    let q = ready c.args.sheet.now c.in_ok-table.ensures in
    both_read q (values_of q c.args.old.now c.in_ok-before.ensures) (values_of q c.args.new.now c.in-Ok.ensures)

pub returns-clause-value : goal.returns-clause-value
returns-clause-value c =
    on_yes (beside (goal.at.returns-clause-value c).After-listed) (said (ap numbered c.in_ok-same_list.was) c.if-not-same_list.false) c.is_kept.ensures

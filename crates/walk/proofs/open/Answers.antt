-- `open` meets its contract: a return for each refusal, and one where both are read.
use Rattle.value.proofs.Numbered.{passed_on}
use Rattle.value.proofs.SpansLaws.{plan_refused}
use Rattle.sheet.specs.Laws.{table_refused}
use Rattle.arena.specs.Door.{door_opens, door_stays}
use Rattle.walk.specs.Call.{at_door, at_sheet, at_plan, table_read}
use Rattle.walk.proofs.open.Goals as goal

pub returns-in_err-door : goal.returns-in_err-door
returns-in_err-door c =
    rw (passed_on c.from_residual.result c.from_residual.ensures.1) (at_door c.in_err-door.ensures (door_stays _ c.in_err-door.ensures))

pub returns-in_err-table : goal.returns-in_err-table
returns-in_err-table c =
    let l = door_opens c.in_ok-door.ensures in
    rw (passed_on c.from_residual-in_err-table.result c.from_residual-in_err-table.ensures.1) (at_sheet l (table_refused _ c.in_err-table.ensures))

pub returns-in_err-spans : goal.returns-in_err-spans
returns-in_err-spans c =
    let l = door_opens c.in_ok-door.ensures in
    let t = table_read _ c.in_ok-table.ensures in
    rw (passed_on c.from_residual-in_err-spans.result c.from_residual-in_err-spans.ensures.1)
    (at_plan l t.read (rw t.k_is at (plan_refused _ _ t.few c.in_err-spans.ensures)))

pub of_spans-scope-requires : goal.of_spans-scope-requires
of_spans-scope-requires c = (table_read _ c.in_ok-table.ensures).few

pub returns : goal.returns
returns c = record {
  lent = door_opens c.in_ok-door.ensures;
  read = table_read _ c.in_ok-table.ensures;
  sp = c.in_ok-spans.spans;
  spans_are = c.in_ok-spans.ensures;
  spanned = c.of_spans-scope.ensures;
}

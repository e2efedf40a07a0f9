-- `shapes::rest_kind` meets its contract.
use mathlib.Core.Path.{◌∙◌}
use Rattle.shapes.proofs.TestsLaws.{rest_none}
use Rattle.shapes.proofs.Answers.{is_three, no_three, rest_lost, rest_found}
use Rattle.shapes.proofs.rest_kind.Goals as goal

pub returns-then-ne : goal.returns-then-ne
returns-then-ne c = rest_none c.args.v.now (no_three c.kind_at.result c.kind_at.ensures c.if-ne.ensures)

pub returns-in_err-middle : goal.returns-in_err-middle
returns-in_err-middle c =
    rw c.from_residual.ensures (rest_lost c.args.v.now (is_three c.kind_at.result c.kind_at.ensures c.if-ne.ensures) c.in_err-middle.ensures)

pub returns : goal.returns
returns c = c.kind_at-2.ensures ∙ rest_found c.args.v.now (is_three c.kind_at.result c.kind_at.ensures c.if-ne.ensures) c.in_ok-middle.ensures

-- `sheet::read_records` meets its contract. Assumes nothing.
use mathlib.Core.Path.{sym, ap, ◌∙◌}
use Rattle.value.specs.Result.{map_result}
use Rattle.sheet.specs.Table.{table_of}
use Rattle.sheet.proofs.Sections.{header_none, header_kind, header_cut, header_body}
use Rattle.sheet.proofs.read_records.Goals as goal

pub returns-then-s-eq0 : goal.returns-then-s-eq0
unfolding map_result
returns-then-s-eq0 c = rw (header_none c.args.s.now c.if-s-eq0.true)

pub returns-then-s-ne1 : goal.returns-then-s-ne1
unfolding map_result
returns-then-s-ne1 c = rw (header_kind c.args.s.now c.if-s-eq0.false c.if-s-ne1.true)

pub returns-then-s-lt3 : goal.returns-then-s-lt3
unfolding map_result
returns-then-s-lt3 c = rw (header_cut c.args.s.now c.if-s-eq0.false c.if-s-ne1.false c.if-s-lt3.true)

pub returns : goal.returns
returns c = c.read_sections.ensures ∙ ap (map_result table_of) (sym (header_body c.args.s.now c.if-s-eq0.false c.if-s-ne1.false))

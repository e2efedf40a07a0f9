-- `resolved` meets its contract. Assumes nothing.
use Rattle.parsing.specs.Names.{found_some, found_none}
use Rattle.parsing.specs.Expect.{no_table, not_section, its_section}
use Rattle.parsing.proofs.expect.resolved.Goals as goal

pub returns-then-table-eq0 : goal.returns-then-table-eq0
returns-then-table-eq0 c = rw c.read.ensures (no_table c.args.text.now c.args.table.now c.args.t c.args.c c.if-table-eq0.true)

pub returns-in-None : goal.returns-in-None
returns-in-None c =
    rw c.fault.ensures (not_section c.args.text.now c.args.table.now c.args.t c.args.c c.if-table-eq0.false (found_none c.in-None.ensures))

pub returns-in-Some : goal.returns-in-Some
returns-in-Some c =
    rw c.read-in-Some.ensures
    (its_section c.args.text.now c.args.table.now c.args.t c.args.c c.if-table-eq0.false c.requires.2 (found_some c.in-Some.ensures))

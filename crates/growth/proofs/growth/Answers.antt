-- `growth` meets its contract: a sheet refused, another kind of node, no such variable, too many times, or how many. Assumes nothing.
use Rattle.value.proofs.Numbered.{passed_on}
use Rattle.growth.specs.Tool.{Readied}
use Rattle.growth.proofs.Tool.{no_sheet, ready, tells_87, tells_23, tells_88, tells_times}
use Rattle.growth.proofs.growth.Goals as goal
use Rattle.growth.proofs.growth.Goals.{In_ok-table}

-- WHAT IS KNOWN THERE
read : (c : In_ok-table) → Readied c.args.sheet.now c.in_ok-table.table
read c = ready c.args.sheet.now c.in_ok-table.ensures

pub returns-in_err-table : goal.returns-in_err-table
returns-in_err-table c =
    rw (passed_on c.from_residual.result c.from_residual.ensures.1) (no_sheet c.args.sheet.now c.in_err-table.ensures c.args.variable)

pub all_plain-requires : goal.all_plain-requires
all_plain-requires c = read c

pub returns-then-not-all_plain : goal.returns-then-not-all_plain
returns-then-not-all_plain c = tells_87 (read (goal.at.returns-then-not-all_plain c).In_ok-table) c.args.variable c.all_plain.ensures
    (c.if-not-all_plain.true)

pub returns-then-table-variable : goal.returns-then-table-variable
returns-then-table-variable c =
    tells_23 (read (goal.at.returns-then-table-variable c).In_ok-table) c.args.variable c.all_plain.ensures (c.if-not-all_plain.false)
    c.if-table-variable.true

pub count-r-requires : goal.count-r-requires
count-r-requires c = read (goal.at.count-r-requires c).In_ok-table

pub returns-then-r-gt-MOST : goal.returns-then-r-gt-MOST
returns-then-r-gt-MOST c =
    tells_88 (read (goal.at.returns-then-r-gt-MOST c).In_ok-table) c.args.variable c.all_plain.ensures (c.if-not-all_plain.false) c.if-table-variable.false
    c.count-r.ensures
    c.if-r-gt-MOST.true

pub returns : goal.returns
returns c =
    tells_times (read (goal.at.returns c).In_ok-table) c.args.variable c.all_plain.ensures (c.if-not-all_plain.false) c.if-table-variable.false
    c.count-r.ensures
    c.if-r-gt-MOST.false

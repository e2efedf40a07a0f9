use Rattle.sheet.specs.Table.{first_node}
use Rattle.sheet.proofs.Nodes.{run_none, run_unknown, run_full, run_cut, run_more, refused_table, run_none_table, run_table}
use Rattle.sheet.proofs.read_nodes.Goals as goal

pub loop-at-init : goal.loop-at-init
loop-at-init c = run_none c.args.s.now (first_node c.args.sections)

pub returns-then-width-eq0 : goal.returns-then-width-eq0
returns-then-width-eq0 c =
    refused_table c.args.s.now c.args.k c.args.root c.args.sections
    (run_unknown c.loop-at.invariant c.record_width-width.ensures
    c.loop-at-test.true c.if-width-eq0.true)

pub returns-then-n-eq200 : goal.returns-then-n-eq200
returns-then-n-eq200 c =
    refused_table c.args.s.now c.args.k c.args.root c.args.sections
    (run_full c.loop-at.invariant c.record_width-width.ensures
    c.loop-at-test.true c.if-width-eq0.false c.if-n-eq200.true)

pub returns-then-s-at : goal.returns-then-s-at
returns-then-s-at c =
    refused_table c.args.s.now c.args.k c.args.root c.args.sections
    (run_cut c.loop-at.invariant c.record_width-width.ensures
    c.loop-at-test.true c.if-width-eq0.false c.if-n-eq200.false
    c.if-s-at.true)

pub loop-at-preserved : goal.loop-at-preserved
loop-at-preserved c = run_more c.loop-at.invariant c.record_width-width.ensures
    c.loop-at-test.true c.if-width-eq0.false c.if-n-eq200.false c.if-s-at.false

pub returns-then-n-eq0 : goal.returns-then-n-eq0
returns-then-n-eq0 c = run_none_table c.args.k c.args.root
    c.loop-at.invariant c.loop-at-test.false c.if-n-eq0.true

pub returns : goal.returns
returns c = run_table c.args.k c.args.root c.loop-at.invariant
    c.loop-at-test.false c.if-n-eq0.false

use Rattle.sheet.proofs.Sections.{run_none, run_full, run_cut, run_more, whole_header, refused_table, none_table, nodes_table}
use Rattle.sheet.proofs.read_sections.Goals as goal

pub loop-at-init : goal.loop-at-init
loop-at-init c = (
  whole_header c.args.s.now c.requires
      c.from-k.ensures c.from-root.ensures,
  run_none c.args.s.now,
)

pub returns-then-s-at-ne32 : goal.returns-then-s-at-ne32
returns-then-s-at-ne32 c = nodes_table c.loop-at.invariant.0 c.loop-at.invariant.1
    c.loop-at-test.true c.if-s-at-ne32.true c.read_nodes.ensures

pub returns-then-n-eq8 : goal.returns-then-n-eq8
returns-then-n-eq8 c = refused_table c.loop-at.invariant.0
    (run_full c.loop-at.invariant.1 c.loop-at-test.true c.if-s-at-ne32.false
    c.if-n-eq8.true)

pub returns-then-s-at-eq1 : goal.returns-then-s-at-eq1
returns-then-s-at-eq1 c = refused_table c.loop-at.invariant.0
    (run_cut c.loop-at.invariant.1 c.loop-at-test.true
    c.if-s-at-ne32.false c.if-n-eq8.false c.if-s-at-eq1.true)

pub loop-at-preserved : goal.loop-at-preserved
loop-at-preserved c = (
  c.loop-at.invariant.0,
  run_more c.loop-at.invariant.1
      c.loop-at-test.true c.if-s-at-ne32.false c.if-n-eq8.false c.if-s-at-eq1.false,
)

pub returns : goal.returns
returns c = none_table c.loop-at.invariant.0 c.loop-at.invariant.1 c.loop-at-test.false

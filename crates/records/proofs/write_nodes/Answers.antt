use mathlib.Core.Path.{◌≡◌, sym, ◌∙◌}
use native.Mathlib.Omega.{arith}
use Rattle.std.proofs.Common.{rules}
use Rattle.records.specs.Anew.{within}
use Rattle.records.specs.AnewLaws.{listed_none, listed_more, listed_all, within_whole}
use Rattle.records.proofs.write_nodes.Goals as goal

pub loop-i-init : goal.loop-i-init
loop-i-init c = listed_none c.place-end.ensures

pub loop-i-preserved : goal.loop-i-preserved
loop-i-preserved c =
    let node = c.entry-n.ensures ∙ sym (within_whole 256 c.args.m.order c.loop-i.i (search rules)) in
    let whole = within_whole 200 c.args.t.starts c.entry-n.result (search rules) in
    let start : c.entry-from.result ≡ within 200 c.args.t.starts c.entry-n.result = cc in
    listed_more c.loop-i.invariant (omega arith) node start c.write_record-end.ensures

pub returns : goal.returns
returns c = listed_all c.loop-i.invariant (omega arith)

-- `join::write` meets its contract: the header, the sections of both, the pair, the nodes of both. Assumes nothing.
use native.Mathlib.Omega.{arith}
use Rattle.records.specs.AnewLaws.{bytes_known}
use Rattle.join.specs.JoinWritten.{sizes, wrote_joined}
use Rattle.join.proofs.write.Goals as goal

pub overflow_add-behind : goal.overflow_add-behind
overflow_add-behind c = omega (
  arith,
  (sizes c.requires (bytes_known c.args.first.now c.type_inv.first)
      (bytes_known c.args.second.now c.type_inv.second)).nodes,
)

pub overflow_cast-behind : goal.overflow_cast-behind
overflow_cast-behind c = omega (
  arith,
  (sizes c.requires (bytes_known c.args.first.now c.type_inv.first)
      (bytes_known c.args.second.now c.type_inv.second)).nodes,
)

pub overflow_cast-a : goal.overflow_cast-a
overflow_cast-a c = omega (arith, (sizes c.requires (bytes_known c.args.first.now c.type_inv.first) (bytes_known c.args.second.now c.type_inv.second)).sections)

pub overflow_cast-a-2 : goal.overflow_cast-a-2
overflow_cast-a-2 c = omega (arith, (sizes c.requires (bytes_known c.args.first.now c.type_inv.first) (bytes_known c.args.second.now c.type_inv.second)).k)

pub overflow_add-a : goal.overflow_add-a
overflow_add-a c = let k = sizes c.requires (bytes_known c.args.first.now c.type_inv.first) (bytes_known c.args.second.now c.type_inv.second) in
    omega (arith, k.root, k.nodes)

pub overflow_cast-a-3 : goal.overflow_cast-a-3
overflow_cast-a-3 c = let k = sizes c.requires (bytes_known c.args.first.now c.type_inv.first) (bytes_known c.args.second.now c.type_inv.second) in
    omega (arith, k.root, k.nodes)

pub overflow_add-behind-2 : goal.overflow_add-behind-2
overflow_add-behind-2 c = let k = sizes c.requires (bytes_known c.args.first.now c.type_inv.first) (bytes_known c.args.second.now c.type_inv.second) in
    omega (arith, k.other, k.nodes)

pub overflow_cast-behind-2 : goal.overflow_cast-behind-2
overflow_cast-behind-2 c = let k = sizes c.requires (bytes_known c.args.first.now c.type_inv.first) (bytes_known c.args.second.now c.type_inv.second) in
    omega (arith, k.other, k.nodes)

pub returns : goal.returns
returns c =
    wrote_joined c.requires (bytes_known c.args.first.now c.type_inv.first) (bytes_known c.args.second.now c.type_inv.second) c.raised-m.ensures
    c.raised-n.ensures c.bytes-end.ensures
    c.write_sections-end.ensures c.write_sections-end-2.ensures c.bytes-end-2.ensures c.write_nodes-end.ensures
    c.write_nodes.ensures

-- `numbering::write` meets its contract: the header, the sections, the nodes. Assumes nothing.
use native.Mathlib.Omega.{arith}
use Rattle.numbering.specs.Counting.{fine_sizes}
use Rattle.numbering.specs.Places.{wrote_anew}
use Rattle.numbering.proofs.write.Goals as goal

pub bounds-m-t : goal.bounds-m-t
bounds-m-t c = omega (arith, (fine_sizes c.requires).root)

pub overflow_cast-t : goal.overflow_cast-t
overflow_cast-t c = omega (arith, (fine_sizes c.requires).k)

pub returns : goal.returns
returns c =
    wrote_anew c.args.sheet.now c.args.t c.args.m c.bytes-end.ensures c.write_sections-end.ensures c.write_nodes.ensures

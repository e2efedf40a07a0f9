-- `write` meets its contract: the plan, the list, the sections. Assumes nothing.
use mathlib.Core.Path.{refl}
use native.Mathlib.Omega.{arith}
use Rattle.numbering.specs.Counting.{fine_read, fine_sizes}
use Rattle.printing.specs.Whole.{known_of, roots_of, root_ready, prints}
use Rattle.printing.proofs.write.Goals as goal

pub plain_nodes-plain-requires : goal.plain_nodes-plain-requires
plain_nodes-plain-requires c = omega (arith, (fine_sizes c.requires).nodes)

pub body-end-requires : goal.body-end-requires
body-end-requires c =
    let r = fine_read c.requires in
    root_ready r.1 (known_of r.1 refl refl (c.plain_nodes-plain.ensures r.0 r.1)) refl refl

pub sections-end-requires : goal.sections-end-requires
sections-end-requires c =
    let r = fine_read c.requires in
    record { sheet = r.0; known = known_of r.1 refl refl (c.plain_nodes-plain.ensures r.0 r.1); roots = roots_of r.1 }

pub returns : goal.returns
returns c =
    prints (λ sh q. known_of q refl refl (c.plain_nodes-plain.ensures sh q)) c.plan-end.ensures c.bytes-end.ensures c.body-end.ensures
    c.sections-end.ensures c.byte.ensures

use mathlib.Core.Path.{refl}
use Prim.Native.Nat.{ℕ, ◌≤◌, ◌<◌}
use native.Mathlib.Omega.{arith}
use lib.ListN.{get_or, length-replicate}
use Rattle.numbering.specs.Counting.{fine_read, fine_sizes, Named, named_there}
use Rattle.numbering.specs.Meeting.{meeting_starts, room, next_in, below_few, meeting_next, meeting_ends}
use Rattle.numbering.proofs.meet.Goals as goal
use Rattle.numbering.proofs.meet.Goals.{After-children_at-c, In-loop-top}

-- WHAT IS KNOWN THERE
few : (c : In-loop-top) → c.loop-top.count ≤ 199
few c = let g = c.requires in omega (arith, room g.fine g.once (c.loop-top.invariant g), c.loop-top-test.true)

-- the node that is taken
inside : (c : In-loop-top) → get_or c.loop-top.todo c.loop-top.top 0 < 200
inside c =
    let g = c.requires in
    omega (arith, next_in g.fine g.once (c.loop-top.invariant g) c.loop-top-test.true, (fine_sizes g.fine).nodes)

named : (c : After-children_at-c) →
    Named (fine_read c.requires.fine).0 (get_or c.loop-top.todo c.loop-top.top 0) c.children_at-c.result
named c =
    let g = c.requires in
    named_there g.fine (next_in g.fine g.once (c.loop-top.invariant g) c.loop-top-test.true) refl (rw c.from.ensures at c.children_at-c.ensures)

pub overflow_sub-top : goal.overflow_sub-top
overflow_sub-top c = omega (arith, (fine_sizes c.requires.fine).sections)

pub write_roots-requires : goal.write_roots-requires
write_roots-requires c = omega (arith, (fine_sizes c.requires.fine).root)

pub loop-top-init : goal.loop-top-init
loop-top-init c g = meeting_starts g.fine c.write_roots.ensures (length-replicate {A = ℕ} 256 0)

pub bounds-nodes-count : goal.bounds-nodes-count
bounds-nodes-count c = omega (arith, few (goal.at.bounds-nodes-count c).In-loop-top)

pub overflow_add-count : goal.overflow_add-count
overflow_add-count c = omega (arith, few (goal.at.overflow_add-count c).In-loop-top)

pub offset_bounds-t-from : goal.offset_bounds-t-from
offset_bounds-t-from c = omega (arith, inside (goal.at.offset_bounds-t-from c).In-loop-top)

pub bounds-t-from : goal.bounds-t-from
bounds-t-from c = omega (arith, inside (goal.at.bounds-t-from c).In-loop-top)

pub overflow_sub-top-in-loop-top : goal.overflow_sub-top-in-loop-top
overflow_sub-top-in-loop-top c =
    let g = c.requires in
    let v = c.loop-top.invariant g in
    below_few g.fine g.once v c.loop-top-test.true
    (named_there g.fine (next_in g.fine g.once v c.loop-top-test.true) refl (rw c.from.ensures at c.children_at-c.ensures))

pub shared_ref_as_front-bytes : goal.shared_ref_as_front-bytes
shared_ref_as_front-bytes c = let n = named (goal.at.shared_ref_as_front-bytes c).After-children_at-c in omega (arith, n.few)

pub loop-top-smaller : goal.loop-top-smaller
loop-top-smaller c = omega (arith, few (goal.at.loop-top-smaller c).In-loop-top)

pub loop-top-preserved : goal.loop-top-preserved
loop-top-preserved c g =
    let i = c.loop-top-test.true in
    let v = c.loop-top.invariant g in
    meeting_next g.fine g.once v i (named_there g.fine (next_in g.fine g.once v i) refl (rw c.from.ensures at c.children_at-c.ensures)) refl
    c.bytes.ensures

pub returns : goal.returns
returns c = meeting_ends c.requires.fine c.requires.once (c.loop-top.invariant c.requires) c.loop-top-test.false

-- `blanks` meets its contract: as many are written as have room. Assumes nothing.
use borrow.Rule.Slice.PartMut.{Post-is}
use mathlib.Core.Path.{◌≡◌, ap}
use native.Mathlib.Omega.{arith}
use Prim.Native.Nat.{ℕ, ◌+◌}
use lib.ListN.{replicate}
use Rattle.std.proofs.lemmas.List.{take-replicate, length-replicate}
use Rattle.report.proofs.TextLaws.{wrote_room}
use Rattle.printing.proofs.pieces.blanks.Goals as goal

pub returns : goal.returns
returns c =
    let p = c.place-start.result in
    let n = c.min-count.result in
    let z : c.fill.new.self ≡ replicate n 32 = rw (c.fill.ensures.after (λ y e. e)) (ap (λ k. replicate k 32) (omega arith)) in
    rw (z, Post-is p (p + n) c.args.out.now (omega arith), ← take-replicate {X = ℕ} n c.args.n 32 (omega arith))
    (wrote_room (replicate c.args.n 32) c.args.out.now c.place-start.ensures (rw length-replicate c.min-count.ensures))

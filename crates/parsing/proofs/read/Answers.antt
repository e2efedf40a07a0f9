-- `read` meets its contract. Assumes nothing.
use native.Mathlib.Omega.{arith}
use Rattle.parsing.specs.Calls.{small_told, large_told}
use Rattle.parsing.proofs.read.Goals as goal

pub returns-then-out-lt-OUTPUT : goal.returns-then-out-lt-OUTPUT
returns-then-out-lt-OUTPUT c = let both = small_told c.args.text.now c.args.out.now c.if-out-lt-OUTPUT.true in record { value = both.0; out_after = both.1 }

pub read-requires : goal.read-requires
read-requires c = omega arith

pub returns : goal.returns
returns c =
    let both = large_told c.args.text.now c.args.out.now {out' = c.read.new.out} {r = c.read.result} c.if-out-lt-OUTPUT.false
    (c.read.ensures.value, c.read.ensures.out_after) in
    record { value = both.0; out_after = both.1 }

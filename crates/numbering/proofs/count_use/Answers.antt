-- `numbering::count_use` meets its contract. Assumes nothing.
use mathlib.Core.Path.{sym}
use native.Mathlib.Omega.{arith}
use Rattle.numbering.specs.Counting.{used_out, used_full, used_more}
use Rattle.numbering.proofs.count_use.Goals as goal

pub returns-then-n-ge256 : goal.returns-then-n-ge256
returns-then-n-ge256 c = sym (used_out _ _ (omega arith))

pub returns-then-uses-n-ge2 : goal.returns-then-uses-n-ge2
returns-then-uses-n-ge2 c = sym (used_full _ _ c.if-uses-n-ge2.true)

pub returns : goal.returns
returns c = sym (used_more _ _ c.if-uses-n-ge2.false)

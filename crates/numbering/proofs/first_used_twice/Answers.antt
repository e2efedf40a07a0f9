-- `numbering::first_used_twice` meets its contract. Assumes nothing.
use mathlib.Core.Path.{ap, ◌∙◌}
use native.Mathlib.Omega.{arith}
use Rattle.std.proofs.Common.{rules}
use Rattle.numbering.specs.Counting.{fine_of, fine_sizes, same_sheet, used_twice}
use Rattle.numbering.specs.NumberStages.{twice_found}
use Rattle.numbering.proofs.first_used_twice.Goals as goal

pub returns-then-t-gt200 : goal.returns-then-t-gt200
returns-then-t-gt200 c sh e q = absurd (omega (arith, (fine_sizes (fine_of e q)).nodes, c.if-t-gt200.true))

pub returns : goal.returns
returns c sh e q =
    let f = fine_of e q in
    twice_found f (c.count_uses.ensures f) (search rules) c.lowest.ensures ∙ ap used_twice (same_sheet f e)

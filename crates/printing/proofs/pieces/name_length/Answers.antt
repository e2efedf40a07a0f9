-- `name_length` meets its contract: the name has room in four bytes. Assumes nothing.
use native.Mathlib.Omega.{arith}
use Rattle.syntax.specs.Short.{name_short}
use Rattle.printing.specs.Pieces.{is_sent}
use Rattle.printing.proofs.pieces.name_length.Goals as goal

pub returns : goal.returns
returns c =
    let z = c.name.ensures.end in
    let y = name_short (is_sent c.args.first) c.args.x c.requires in record { value = omega arith; upper_bound = omega arith }

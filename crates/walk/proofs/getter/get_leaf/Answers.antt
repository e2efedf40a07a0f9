-- `get_leaf` meets its contract.
-- Assumes nothing.
use mathlib.Core.Path.{refl}
use native.Mathlib.Omega.{arith}
use Rattle.walk.specs.Get.Leaf.{var_told, constant_told, number_told}
use Rattle.walk.proofs.getter.get_leaf.Goals as goal

pub returns-then-kind-eq16 : goal.returns-then-kind-eq16
returns-then-kind-eq16 c =
    var_told c.if-kind-eq16.true c.requires.kind_asked (rw (← c.number_of.ensures) c.variable.ensures)

pub get_number-requires : goal.get_number-requires
get_number-requires c = let w = c.requires.kind_asked in (omega (arith, w.long, w.room), omega (arith, w.room))

pub returns-then-kind-eq20 : goal.returns-then-kind-eq20
returns-then-kind-eq20 c =
    let g = c.get_number.ensures in
    number_told c.if-kind-eq20.true c.requires.kind_asked g.0 g.1

pub returns : goal.returns
returns c =
    constant_told c.requires.childless c.if-kind-eq16.false c.if-kind-eq20.false c.requires.kind_asked refl c.done.ensures

-- `value::numeral` meets its contract: a number of kind 04, one of kind 06, or an unknown kind.
use native.Mathlib.Omega.{arith}
use Rattle.value.specs.Reader.{small, large}
use Rattle.value.proofs.Reader.{number_begins, wide_begins, reads_unknown}
use Rattle.value.proofs.numeral.Goals as goal

pub number_of-requires : goal.number_of-requires
number_of-requires c =
    let p = c.requires.0 in
    small (number_begins p.byte p.some c.in-4.is (λ i. omega (arith, c.type_inv.s i)))

pub number_of-requires-in-6 : goal.number_of-requires-in-6
number_of-requires-in-6 c =
    let p = c.requires.0 in
    large (wide_begins p.byte p.some c.in-6.is (λ i. omega (arith, c.type_inv.s i)))

pub returns-in_default : goal.returns-in_default
returns-in_default c =
    let p = c.requires.0 in
    reads_unknown (λ e. omega (arith, p.byte)) (λ e. omega (arith, p.some)) (omega (arith, p.no_pair, c.requires.1, c.in_default))

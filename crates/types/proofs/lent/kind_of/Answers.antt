-- `kind_of` meets its contract. Assumes nothing.
use native.Mathlib.Omega.{arith}
use Rattle.typing.specs.Check.{kind_of}
use Rattle.types.specs.Slots.{kind_told}
use Rattle.types.specs.SlotsLaws.{kind_none}
use Rattle.types.proofs.lent.kind_of.Goals as goal

pub returns-in-48 : goal.returns-in-48
unfolding kind_told kind_of
returns-in-48 c = rw c.in-48.is

pub returns-in-49 : goal.returns-in-49
unfolding kind_told kind_of
returns-in-49 c = rw c.in-49.is

pub returns-in-50 : goal.returns-in-50
unfolding kind_told kind_of
returns-in-50 c = rw c.in-50.is

pub returns-in-51 : goal.returns-in-51
unfolding kind_told kind_of
returns-in-51 c = rw c.in-51.is

pub returns-in_default : goal.returns-in_default
returns-in_default c = kind_none _ (λ e. omega arith) (λ e. omega arith) (λ e. omega arith) (λ e. omega arith)

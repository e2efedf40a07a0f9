-- `scalar` meets its contract: a byte decides which it is. Assumes nothing.
use mathlib.Core.Path.{refl}
use native.Mathlib.Omega.{arith}
use Rattle.notation.specs.Grammar.{alse, rue}
use Rattle.value.proofs.Numbered.{passed_on}
use Rattle.json_codec.specs.Turns.{no_false, is_false, no_true, is_true, is_number, is_none, below_digits, above_digits}
use Rattle.json_codec.proofs.scalar.Goals as goal

pub returns-in-48-to-57 : goal.returns-in-48-to-57
returns-in-48-to-57 c l =
    is_number c.requires l c.args.put (omega arith) (omega arith) (rw c.from.ensures at c.number.ensures)

pub returns-in_err-end-in-102 : goal.returns-in_err-end-in-102
unfolding alse
returns-in_err-end-in-102 c l =
    rw (passed_on c.from_residual.result c.from_residual.ensures.1)
    (no_false c.requires l c.args.put c.in-102.is c.spell.ensures c.in_err-end-in-102.was refl)

pub returns-in_ok-end-in-102 : goal.returns-in_ok-end-in-102
unfolding alse
returns-in_ok-end-in-102 c l =
    is_false c.requires l c.args.put c.in-102.is c.spell.ensures c.in_ok-end-in-102.was c.byte.ensures

pub returns-in_err-end-in-116 : goal.returns-in_err-end-in-116
unfolding rue
returns-in_err-end-in-116 c l =
    rw (passed_on c.from_residual-in_err-end-in-116.result c.from_residual-in_err-end-in-116.ensures.1)
    (no_true c.requires l c.args.put c.in-116.is c.spell-in-116.ensures c.in_err-end-in-116.was refl)

pub returns-in_ok-end-in-116 : goal.returns-in_ok-end-in-116
unfolding rue
returns-in_ok-end-in-116 c l =
    is_true c.requires l c.args.put c.in-116.is c.spell-in-116.ensures c.in_ok-end-in-116.was c.byte-in-116.ensures

pub returns-in_default : goal.returns-in_default
returns-in_default c l =
    is_none c.requires l c.args.put (λ e. omega arith) (λ e. omega arith) (below_digits _ (omega arith)) refl

pub returns-in_default-2 : goal.returns-in_default-2
returns-in_default-2 c l =
    is_none c.requires l c.args.put (λ e. omega arith) (λ e. omega arith) (above_digits _ (omega arith)) refl

-- `takes` meets its contract.
-- Assumes nothing.
use Rattle.decisions.specs.DecisionLaws.{taken, plain_first, plain_second, parts_split, parts_list, takes_none}
use mathlib.Core.Path.{refl}
use Rattle.decisions.proofs.Tags.{is_unfitting}
use Rattle.decisions.proofs.takes.Goals as goal

pub returns-then-i-eq2 : goal.returns-then-i-eq2
returns-then-i-eq2 c = let both = taken _ _ _ _ _ (plain_first _ _ _ _ c.fits.ensures c.in-Plain.is c.if-i-eq2.true
    c.second.ensures c.choose.ensures) in record { value = both.0; taken_by = both.1 }

pub returns-then-i-eq2-2 : goal.returns-then-i-eq2-2
returns-then-i-eq2-2 c = let both = taken _ _ _ _ _ (parts_split _ _ _ _ c.fits.ensures c.in-Parts.is c.if-i-eq2-2.true refl) in record {
  value = both.0;
  taken_by = both.1;
}

pub returns-else-i-eq2 : goal.returns-else-i-eq2
returns-else-i-eq2 c = let both = taken _ _ _ _ _ (plain_second _ _ _ _ c.fits.ensures c.in-Plain.is c.if-i-eq2.false c.choose-in-Plain.ensures) in
    record { value = both.0; taken_by = both.1 }

pub returns-else-i-eq2-2 : goal.returns-else-i-eq2-2
returns-else-i-eq2-2 c = let both = taken _ _ _ _ _ (parts_list _ _ _ _ c.fits.ensures c.in-Parts.is c.if-i-eq2-2.false c.choose-in-Parts.ensures) in
    record { value = both.0; taken_by = both.1 }

pub returns-in_default : goal.returns-in_default
returns-in_default c = let both = taken _ _ _ _ _ (takes_none _ _ _ _ c.fits.ensures (is_unfitting _ c.in_default.not-Plain c.in_default.not-Parts)) in
    record { value = both.0; taken_by = both.1 }

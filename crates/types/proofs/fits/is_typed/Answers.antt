-- `is_typed` meets its contract. Assumes nothing.
use Rattle.types.specs.Decided.{var_none, var_types}
use Rattle.types.proofs.fits.is_typed.Goals as goal

pub returns-in-Some : goal.returns-in-Some
returns-in-Some c Γ t r a = var_types a (c.in-Some.ensures Γ r) c.type_in.ensures c.same.ensures

pub returns-in-None : goal.returns-in-None
returns-in-None c Γ t r a = var_none t (c.in-None.ensures Γ r)

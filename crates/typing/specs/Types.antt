-- Types of values (document 02, request 6), and the values of a type.
use Rattle.std.specs.Prelude.{ℕ, ◌≤◌}
use Rattle.value.specs.Value.{Value, Values, vfalse, vtrue, list, number, wide, pair, nil, cons}

pub data Ty : Type 0 where
  truths numbers : Ty
  lists : Ty → Ty
  pairs : Ty → Ty → Ty
  deriving Discrete as Ty-discrete

-- a value of the type, in which each number of kind 06 is one of P
mutual
  pub data Of (P : ℕ → Type 0) : Ty → Value → Type 0 where
    is_false : Of P truths vfalse
    is_true : Of P truths vtrue
    is_list : {t : Ty} {l : Values} → Each P t l → Of P (lists t) (list l)
    is_number : {n : ℕ} → n ≤ 65535 → Of P numbers (number n)
    is_wide : {n : ℕ} → P n → Of P numbers (wide n)
    is_pair : {a b : Ty} {u v : Value} → Of P a u → Of P b v → Of P (pairs a b) (pair u v)

  pub data Each (P : ℕ → Type 0) : Ty → Values → Type 0 where
    is_nil : {t : Ty} → Each P t nil
    is_cons : {t : Ty} {v : Value} {l : Values} → Of P t v → Each P t l → Each P t (cons v l)

-- Laws of the bytes of values: how many they are, and that no value's bytes begin another's.
use Rattle.std.specs.Prelude.{◌≡◌, List, ◌∷◌, ◌++◌, ℕ, ◌/◌, ◌%◌}
use Rattle.value.specs.Value.{Value, Values, vfalse, vtrue, list, number, wide, pair, nil, cons, encode, encodes}

-- a value's bytes with x behind them: the kind byte, then the parts
pub data Opened : Value → List ℕ → List ℕ → Type 0 where
  o_false : {x : List ℕ} → Opened vfalse x (0 ∷ x)
  o_true : {x : List ℕ} → Opened vtrue x (1 ∷ x)
  o_nil : {x : List ℕ} → Opened (list nil) x (2 ∷ x)
  o_cons : {f : Value} {r : Values} {x z : List ℕ} → encode f ++ (encodes r ++ x) ≡ z → Opened (list (cons f r)) x (3 ∷ z)
  o_number : {n : ℕ} {x z : List ℕ} → n / 256 ∷ n % 256 ∷ x ≡ z → Opened (number n) x (4 ∷ z)
  o_wide : {n : ℕ} {x z : List ℕ} → n / 256 / 256 / 256 ∷ n / 256 / 256 % 256 ∷ n / 256 % 256 ∷ n % 256 ∷ x ≡ z → Opened (wide n) x (6 ∷ z)
  o_pair : {a b : Value} {x z : List ℕ} → encode a ++ (encode b ++ x) ≡ z → Opened (pair a b) x (5 ∷ z)

-- Values, their bytes and their size (document 01 and docs/SHEETS.md, "Values").
use Rattle.std.specs.Prelude.{Bool, true, false, List, [], ◌∷◌, ◌++◌, ℕ, suc, ◌+◌, ◌/◌, ◌%◌, ◌≤◌, ◌<◌}
use Rattle.std.proofs.Math.Decide.{ℕ_discrete}

-- A rest is a list by construction. A number of kind 04 is at most 65,535, a wide one, of kind 06, is above that: what reads and makes numbers sees to it.
mutual
  pub data Value : Type 0 where
    vfalse vtrue : Value
    list : Values → Value
    number wide : ℕ → Value
    pair : Value → Value → Value
    deriving Discrete as Value-discrete

  pub data Values : Type 0 where
    nil : Values
    cons : Value → Values → Values

-- the least number of kind 06: two bytes hold no such number
abbrev pub least_wide : ℕ
least_wide = 65536

-- the bytes of a value: its kind, then its body; a number, of two bytes or of four, high byte first
unfoldable mutual
  pub encode : Value → List ℕ
  encode vfalse = 0 ∷ []
  encode vtrue = 1 ∷ []
  encode (list l) = encodes l
  encode (number n) = 4 ∷ n / 256 ∷ n % 256 ∷ []
  encode (wide n) = 6 ∷ n / 256 / 256 / 256 ∷ n / 256 / 256 % 256 ∷ n / 256 % 256 ∷ n % 256 ∷ []
  encode (pair a b) = 5 ∷ (encode a ++ encode b)

  pub encodes : Values → List ℕ
  encodes nil = 2 ∷ []
  encodes (cons v l) = 3 ∷ (encode v ++ encodes l)

-- how many bytes that is (`size-encode`)
unfoldable mutual
  pub size : Value → ℕ
  size vfalse = 1
  size vtrue = 1
  size (list l) = sizes l
  size (number n) = 3
  size (wide n) = 5
  size (pair a b) = suc (size a + size b)

  pub sizes : Values → ℕ
  sizes nil = 1
  sizes (cons v l) = suc (size v + sizes l)

-- a value is at most 256 bytes
abbrev pub Fits : Value → Type 0
Fits v = size v ≤ 256

-- every number in it is one that the bytes of its kind hold, and one of kind 06 is too large for two bytes
mutual
  pub data Encodable : Value → Type 0 where
    e_false : Encodable vfalse
    e_true : Encodable vtrue
    e_list : {l : Values} → Encodables l → Encodable (list l)
    e_number : {n : ℕ} → n ≤ 65535 → Encodable (number n)
    e_wide : {n : ℕ} → 65535 < n → n < 4294967296 → Encodable (wide n)
    e_pair : {a b : Value} → Encodable a → Encodable b → Encodable (pair a b)

  pub data Encodables : Values → Type 0 where
    e_nil : Encodables nil
    e_cons : {v : Value} {l : Values} → Encodable v → Encodables l → Encodables (cons v l)

-- the bytes of several values, one after another
unfoldable pub flat : List Value → List ℕ
flat [] = []
flat (v ∷ vs) = encode v ++ flat vs

-- two values are the same or not
unfoldable pub same_value : Discrete Value
same_value = Value-discrete ℕ_discrete

abbrev pub truth : Bool → Value
truth false = vfalse
truth true = vtrue

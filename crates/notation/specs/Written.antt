-- What is written is a text of the value, of at most 2,048 bytes; what is read is a text of it.
use Rattle.std.specs.Prelude.{◌≡◌, true, List, ◌∷◌, ℕ, ◌-◌, ◌≤◌}
use Rattle.value.specs.Value.{Value, Values, Encodable, Encodables}
use Rattle.notation.specs.Text.{depth, depths}
use Rattle.notation.specs.Grammar.{is_digit}
use Rattle.notation.specs.Texts.{Digits}

-- a text that begins with the digits of m
pub data Leads (m : ℕ) (r : List ℕ) : List ℕ → Type 0 where
  leads : {b : ℕ} {t : List ℕ} → is_digit b ≡ true → Digits (b - 48) m t r → Leads m r (b ∷ t)

abbrev pub Good : ℕ → Value → Type 0
Good l v = Encodable v × (depth v ≤ l)

abbrev pub Goods : ℕ → Values → Type 0
Goods l m = Encodables m × (depths m ≤ l)

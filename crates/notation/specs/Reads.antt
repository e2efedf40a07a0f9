-- What is read is what the grammar says: every text of a value is read as that value, and what is read is a text of it.
use Rattle.std.specs.Prelude.{◌≡◌, false, List, ◌∷◌, ℕ}
use Rattle.value.specs.Value.{Value, Values}
use Rattle.notation.specs.Grammar.{Awaits, value, members, more, token, finished}
use Rattle.notation.specs.Grammar.{white}
use Rattle.notation.specs.Texts.{Spaces}

-- where white space may stand
pub data Spaced : Awaits → Type 0 where
  s_value : {l : ℕ} {k : Value → Awaits} → Spaced (value l k)
  s_members : {l : ℕ} {k : Values → Awaits} → Spaced (members l k)
  s_more : {l : ℕ} {k : Values → Awaits} → Spaced (more l k)
  s_token : {c : ℕ} {w : Awaits} → Spaced (token c w)
  s_finished : {v : Value} → Spaced (finished v)

-- a value begins with no `]`
pub data Begins : List ℕ → Type 0 where
  begins : {b : ℕ} {s t : List ℕ} → Spaces s (b ∷ t) → (b ≡ 0x5D → ⊥) → white b ≡ false → Begins s

-- How far the tests look: how many of a value's bytes each needs.
use Rattle.std.specs.Prelude.{◌≡◌, Bool, List, [], ◌∷◌, ℕ, ◌+◌, get_or, take}
use Rattle.value.specs.Value.{Value, vfalse, vtrue, list, number, wide, pair, nil, cons, encode, size}
use Rattle.value.specs.Tests.{holds}
use Rattle.value.specs.Laws.{Readable}

-- how many of a value's bytes tests 5 and 6 need: the kind byte, and of a list with members all as far as the byte that follows the first
unfoldable pub past_first : Value → ℕ
past_first vfalse = 1
past_first vtrue = 1
past_first (list nil) = 1
past_first (list (cons f r)) = 2 + size f
past_first (number n) = 1
past_first (wide n) = 1
past_first (pair a b) = 1

-- how many test t needs: 0 none, 1 to 4 the kind byte
unfoldable pub need : ℕ → Value → ℕ
need t v = get_or (0 ∷ 1 ∷ 1 ∷ 1 ∷ 1 ∷ past_first v ∷ past_first v ∷ []) t 0

-- the bytes agree with a value's as far as test t needs, whatever follows, or nothing
abbrev pub Agrees : ℕ → Value → List ℕ → Type 0
Agrees t v bs = take (need t v) bs ≡ take (need t v) (encode v)

-- r is what test t says to every value with whose bytes these agree as far as the test needs
abbrev pub Enough : ℕ → List ℕ → Bool → Type 0
Enough t bs r = (v : Value) → Readable v → Agrees t v bs → r ≡ holds t v

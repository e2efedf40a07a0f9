-- The texts of a value: RFC 8259's grammar, with the restrictions of document 02's request 11, as relations. Each relates a text to what stands behind
-- what it is about; white space may stand before every token.
use Rattle.std.specs.Prelude.{◌≡◌, true, false, List, [], ◌∷◌, ℕ, suc, ◌+◌, ◌-◌, ◌*◌}
use Rattle.value.specs.Value.{Value, Values, vfalse, vtrue, list, pair, nil, cons}
use Rattle.notation.specs.Text.{level_limit}
use Rattle.notation.specs.Grammar.{white, is_digit, follows, numeral}

-- white space
pub data Spaces : (s r : List ℕ) → Type 0 where
  none : {r : List ℕ} → Spaces r r
  space : {b : ℕ} {s r : List ℕ} → white b ≡ true → Spaces s r → Spaces (b ∷ s) r

-- a byte, with white space before it
pub data Token (c : ℕ) : (s r : List ℕ) → Type 0 where
  here : {s r : List ℕ} → Spaces s (c ∷ r) → Token c s r

-- no digit stands there
pub data NoDigit : List ℕ → Type 0 where
  n_end : NoDigit []
  n_byte : {b : ℕ} {s : List ℕ} → is_digit b ≡ false → NoDigit (b ∷ s)

-- the digits that follow those that make n: the number is m
pub data Digits : (n m : ℕ) (s r : List ℕ) → Type 0 where
  d_end : {n : ℕ} {r : List ℕ} → NoDigit r → Digits n n r r
  d_more : {n m b : ℕ} {s r : List ℕ} → is_digit b ≡ true → follows n b ≡ true → Digits (10 * n + (b - 48)) m s r → Digits n m (b ∷ s) r

mutual
  -- a value in which arrays and objects nest at most so deep
  pub data Text : (levels : ℕ) → Value → (s r : List ℕ) → Type 0 where
    t_false : {l : ℕ} {s r : List ℕ} → Spaces s (0x66 ∷ 0x61 ∷ 0x6C ∷ 0x73 ∷ 0x65 ∷ r) → Text l vfalse s r
    t_true : {l : ℕ} {s r : List ℕ} → Spaces s (0x74 ∷ 0x72 ∷ 0x75 ∷ 0x65 ∷ r) → Text l vtrue s r
    t_number : {l b n : ℕ} {v : Value} {s t r : List ℕ} → Spaces s (b ∷ t) → is_digit b ≡ true → Digits (b - 48) n t r → numeral n ≡ v → Text l v s r
    t_array : {l : ℕ} {m : Values} {s t r : List ℕ} → Token 0x5B s t → Members l m t r → Text (suc l) (list m) s r
    t_object : {l : ℕ} {a b : Value} {s t t₁ t₂ t₃ r : List ℕ} → Token 0x7B s t → Named 0x61 l a t t₁ → Token 0x2C t₁ t₂ → Named 0x62 l b t₂ t₃ →
        Token 0x7D t₃ r
        → Text (suc l) (pair a b) s r

  -- a member of an object: its name, a colon and its value
  pub data Named : (letter levels : ℕ) → Value → (s r : List ℕ) → Type 0 where
    named : {c l : ℕ} {v : Value} {s t u r : List ℕ} → Token 0x22 s (c ∷ 0x22 ∷ t) → Token 0x3A t u → Text l v u r → Named c l v s r

  -- the members of an array, behind `[`
  pub data Members : (levels : ℕ) → Values → (s r : List ℕ) → Type 0 where
    m_none : {l : ℕ} {s r : List ℕ} → Token 0x5D s r → Members l nil s r
    m_some : {l : ℕ} {v : Value} {m : Values} {s t r : List ℕ} → Text l v s t → More l m t r → Members l (cons v m) s r

  -- those behind a member
  pub data More : (levels : ℕ) → Values → (s r : List ℕ) → Type 0 where
    o_none : {l : ℕ} {s r : List ℕ} → Token 0x5D s r → More l nil s r
    o_some : {l : ℕ} {v : Value} {m : Values} {s t u r : List ℕ} → Token 0x2C s t → Text l v t u → More l m u r → More l (cons v m) s r

-- the whole text is that of v
pub data Whole (v : Value) : List ℕ → Type 0 where
  whole : {s r : List ℕ} → Text level_limit v s r → Spaces r [] → Whole v s

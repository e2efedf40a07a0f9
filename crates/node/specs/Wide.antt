-- The constant of four bytes (1D) in its record.
use Rattle.std.specs.Prelude.{◌≡◌, refl, List, [], ◌∷◌, ℕ, ◌+◌, ◌*◌, ◌/◌, ◌%◌, ◌<◌, get_or}
use Rattle.std.proofs.Common.{arith}
use Rattle.value.specs.Value.{wide, encode}

-- the constant whose record starts at byte n of the sheet s, high byte first, and its bytes as a value
abbrev pub wide_at : List ℕ → ℕ → ℕ
wide_at s n = 256 * (256 * (256 * get_or s (n + 1) 0 + get_or s (n + 2) 0) + get_or s (n + 3) 0) + get_or s (n + 4) 0

abbrev pub wide_bytes : List ℕ → ℕ → List ℕ
wide_bytes s n = encode (wide (wide_at s n))

-- they are the record's, behind the kind
pub wide_bytes_lem : (s : List ℕ) (n : ℕ) {a b c d : ℕ} → a ≡ get_or s (n + 1) 0 → b ≡ get_or s (n + 2) 0 → c ≡ get_or s (n + 3) 0 → d ≡ get_or s (n + 4) 0
    → b < 256 → c < 256 → d < 256 → 6 ∷ a ∷ b ∷ c ∷ d ∷ [] ≡ wide_bytes s n
unfolding encode
wide_bytes_lem s n {a} {b} {c} {d} ea eb ec ed hb hc hd =
    let m = wide_at s n in
    let i : m / 256 / 256 / 256 ≡ a = omega arith in
    let j : m / 256 / 256 % 256 ≡ b = omega arith in
    let k : m / 256 % 256 ≡ c = omega arith in
    let l : m % 256 ≡ d = omega arith in
    rw (i, j, k, l) refl

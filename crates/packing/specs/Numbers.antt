-- Answers as one number of several, each read back as include/lens.h does it.
use Rattle.std.specs.Prelude.{◌≡◌, ℕ, ◌+◌, ◌*◌, ◌/◌, ◌%◌, ◌<◌}
use Rattle.std.proofs.Common.{arith}

-- the answer of a call: the low 8 bits the refusal (0: success), the next 16 the length, the next 8 a count of starts, the upper 32 the steps
pub record Packs (refusal len count steps r : ℕ) : Type 0 where
  pub is : r ≡ refusal + 256 * len + 16777216 * count + 4294967296 * steps
  pub refusal_back : r % 256 ≡ refusal
  pub length_back : r / 256 % 65536 ≡ len
  pub count_back : r / 16777216 % 256 ≡ count
  pub steps_back : r / 4294967296 ≡ steps

-- the answer of a tool: the low 8 bits the refusal (0: success), the next 16 what is told beside it
pub record Tells (number told r : ℕ) : Type 0 where
  pub is : r ≡ number + 256 * told
  pub number_back : r % 256 ≡ number
  pub told_back : r / 256 % 65536 ≡ told

-- the low 16 bits of a number, as what is told has room for
abbrev pub low : ℕ → ℕ
low n = n % 65536

-- a number of 16 bits is told whole
pub tells_whole : {number told r : ℕ} → told < 65536 → Tells number (low told) r → Tells number told r
tells_whole h t = record { is = omega (arith, t.is); number_back = t.number_back; told_back = omega (arith, t.told_back) }

-- why a call is refused: the low 8 bits the refusal, the next 8 the depth, the next 16 one more than the node that wrote first
pub record WhyPacked (refusal depth first r : ℕ) : Type 0 where
  pub is : r ≡ refusal + 256 * depth + 65536 * first
  pub refusal_back : r % 256 ≡ refusal
  pub depth_back : r / 256 % 256 ≡ depth
  pub first_back : r / 65536 % 65536 ≡ first

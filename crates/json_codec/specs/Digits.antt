-- A number's digits, from the last to the first.
use Rattle.std.specs.Prelude.{ℕ, zero, suc, ◌^◌, ◌<◌}
use Rattle.std.proofs.Common.{arith}

-- where a digit is left, so is a place
pub room_left : (m i : ℕ) → 9 < m → m < 10 ^ suc i → 0 < i
room_left m zero h r = absurd (omega arith)
room_left m (suc i) h r = omega arith

-- Whether a new plan stands, in numbers, and what its scratch then holds.
use Rattle.std.specs.Prelude.{◌≡◌, Bool, true, false, List, ℕ, leb}
use Rattle.value.specs.Result.{Result, ok, refusal}
use Rattle.buffers.specs.Buffers.{zeroed}
use Rattle.calls.specs.Calls.{after_refusal}

-- the number of each answer in the papers, 0 for yes and no; and which of the two it is
unfoldable pub code_of : Result Bool → ℕ
code_of (ok b) = 0
code_of (refusal c) = c

unfoldable pub yes_of : Result Bool → ℕ
yes_of (ok true) = 1
yes_of (ok false) = 0
yes_of (refusal c) = 0

-- refusals 2 and 3 do not touch scratch; every other ending zeroes its first 65,536 bytes and touches no others
unfoldable pub cleared : Result Bool → List ℕ → List ℕ
cleared (ok b) s = zeroed s
cleared (refusal c) s = after_refusal (leb c 3) s

-- the call's answer is a: r says so, and scratch s became s'
pub record Accepted (a r : Result Bool) (s s' : List ℕ) : Type 0 where
  pub answer : r ≡ a
  pub scratch : s' ≡ cleared a s

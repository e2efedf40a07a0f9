-- Laws of those definitions, for the code here and for callers.
use Rattle.std.specs.Prelude.{◌≡◌, refl, ℕ, zero, suc, ◌≤◌, ◌<◌}
use Rattle.std.proofs.Common.{arith, lt-ltb, le-ltb}
use Rattle.rules.specs.Numbers.{variable_limit}
use Rattle.scopes.specs.Scopes.{When, in_room, note_of, noted_len, noted_by, slot_of, place_of}

pub when_in : {A P : Type 0} {r x y : A} → P → r ≡ x → When P r x y
when_in p e = record { inside = λ _. e; outside = λ n. absurd (n p) }

pub when_out : {A P : Type 0} {r x y : A} → (P → ⊥) → r ≡ y → When P r x y
when_out n e = record { inside = λ p. absurd (n p); outside = λ _. e }

pub in_room_lem : {x : ℕ} → x < variable_limit → in_room x ≡ x
unfolding in_room
in_room_lem {x} h = rw (lt-ltb x variable_limit h)

pub out_of_room : {x : ℕ} → variable_limit ≤ x → in_room x ≡ 0
unfolding in_room
out_of_room {x} h = rw (le-ltb x variable_limit h)

pub not_written : (note cell start len : ℕ) → note ≡ 0 → record { start = start; len = len } ≡ place_of note cell start len
unfolding place_of
not_written note cell start len e = rw e

pub was_written : (note cell start len : ℕ) → (note ≡ 0 → ⊥) → record { start = slot_of cell; len = noted_len note } ≡ place_of note cell start len
unfolding place_of
was_written zero cell start len n = absurd (n refl)
was_written (suc w) cell start len n = refl

-- a note has what was noted
pub noted : (by len : ℕ) → 1 ≤ len → len ≤ 256 → (note_of by len ≡ 0 → ⊥) × (noted_len (note_of by len) ≡ len) × (noted_by (note_of by len) ≡ by)
unfolding note_of noted_len noted_by
noted by len some few = ((λ e. omega arith), omega arith, omega arith)

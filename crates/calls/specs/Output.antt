-- What a walk's answer becomes for the caller: the output.
use Rattle.std.specs.Prelude.{◌≡◌, List, ℕ, ◌+◌, ◌≤◌, length, drop}
use Rattle.std.proofs.Math.Seq.{paste}
use Rattle.rules.specs.Numbers.{stack_start}
use Rattle.calls.specs.Reply.{Reply, Done, Refused}

-- what a walk built lies within scratch s, and has room in the output o
abbrev pub HasRoom : Reply → (o s : List ℕ) → Type 0
HasRoom (Refused c) o s = Unit {0}
HasRoom (Done len n) o s = (stack_start + len ≤ length s) × (len ≤ length o)

-- its bytes at the front of the output; a refusal writes none
unfoldable pub output_of : Reply → (o s : List ℕ) → List ℕ
output_of (Refused c) o s = o
output_of (Done len n) o s = paste o 0 (drop stack_start s) len

-- A WALK'S ANSWER, CASE BY CASE

module _ {w : Reply} {c : ℕ} (e : w ≡ Refused c) where
  pub kept_refused : (o s : List ℕ) → o ≡ output_of w o s
  unfolding output_of
  kept_refused o s = rw e

module _ {w : Reply} {len n : ℕ} (e : w ≡ Done len n) where
  pub room_done : (o s : List ℕ) → HasRoom w o s → (stack_start + len ≤ length s) × (len ≤ length o)
  room_done o s h = rw e at h

  pub copied_done : (o s : List ℕ) → paste o 0 (drop stack_start s) len ≡ output_of w o s
  unfolding output_of
  copied_done o s = rw e

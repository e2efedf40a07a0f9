-- `hand_bits` meets its contract: behind a success alone. Assumes nothing.
use mathlib.Core.Path.{refl}
use Rattle.std.specs.Prelude.{◌≡◌, ℕ, Result, Ok, Err}
use Rattle.refusal.specs.declared.Refusal.{Refusal}
use Rattle.calls.specs.declared.PutDone.{PutDone}
use Rattle.calls.specs.Reply.{put_told}
use Rattle.lens.specs.HandedOut.{bits_by, bits_or}
use Rattle.lens.proofs.answers.hand_bits.Goals as goal

pub returns-in-Ok : goal.returns-in-Ok
unfolding bits_by
returns-in-Ok c = rw c.in-Ok.is refl

bits_none : (r : Result PutDone Refusal) → ((p : PutDone) → r ≡ Ok p → ⊥) → (old : ℕ) → old ≡ bits_or (put_told r) old
unfolding bits_by
bits_none (Ok p) n old = absurd (n p refl)
bits_none (Err e) n old = refl

pub returns-in_default : goal.returns-in_default
returns-in_default c = bits_none _ c.in_default.not-Ok _

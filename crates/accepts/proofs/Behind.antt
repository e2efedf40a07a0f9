-- Behind the door: scratch is cleared, as is said of a yes, a no and a refusal.
use Rattle.std.specs.Prelude.{◌≡◌, Bool, List, ℕ, length}
use Rattle.std.proofs.Math.Path.{refl}
use Rattle.std.proofs.Common.{◌∙◌}
use borrow.Author.Tests.{lt-leb}
use Rattle.value.specs.Result.{Result, ok, refusal}
use Rattle.rules.specs.Numbers.{scratch_size}
use Rattle.rules.specs.Laws.Answers.{DoorOpens}
use Rattle.walk.specs.Call.{Free}
use Rattle.buffers.specs.Buffers.{zeroed}
use Rattle.calls.specs.Calls.{after_refusal}
use Rattle.calls.specs.CallLaws.{zeros_same}
use Rattle.venue.specs.Accepts.{judged_of, accepts_of}
use Rattle.accepts.specs.Accepts.{cleared, Accepted}
use Rattle.accepts.specs.Calls.{High, judged_high, opened}

cleared_high : (j : Result Bool) (s : List ℕ) → High j → zeroed s ≡ cleared j s
unfolding cleared after_refusal
cleared_high (ok b) s h = refl
cleared_high (refusal c) s h = rw (lt-leb c 3 (h c refl))

pub behind : (sheet old view new : List ℕ) (allowance : ℕ) (s : List ℕ) → DoorOpens 0 0 (length s) allowance
    → {r : Result Bool} → r ≡ judged_of sheet old view new allowance → {a : List ℕ} → Free scratch_size s a → {s' : List ℕ} → s' ≡ zeroed a
    → Accepted (accepts_of sheet old view new allowance (length s)) r s s'
behind sheet old view new allowance s l e {a} f z = rw (opened sheet old view new allowance s l) (record {
  answer = e;
  scratch = z ∙ zeros_same scratch_size s a f.behind ∙ cleared_high _ s (judged_high sheet old view new allowance);
})

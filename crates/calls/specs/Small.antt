-- How large the parts of a reply are at most.
use Rattle.std.specs.Prelude.{◌≡◌, refl, List, ℕ, ◌≤◌, ◌<◌, length}
use Rattle.std.proofs.Common.{arith, le_trans}
use Rattle.rules.specs.Numbers.{allowance_limit, put_output}
use Rattle.rules.specs.Answer.{Answer, refusal, success, get_answer, put_answer}
use Rattle.rules.proofs.Laws.Answers.{get_shows, put_shows, get_steps, put_steps}
use Rattle.rules.proofs.Laws.Trips.{get_short, put_short}
use Rattle.rules.proofs.Laws.Refusals.{Stated, stated_small, get_refusals, put_refusals}
use Rattle.calls.specs.Reply.{Reply, Done, Refused}
use Rattle.calls.specs.Calls.{reply, Answered}

-- a refusal's number is a byte and not 0; a length is at most 4,096, and the steps are at most 1,000,000
abbrev pub Small : Reply → Type 0
Small (Refused c) = (1 ≤ c) × (c < 256)
Small (Done len n) = (len ≤ put_output) × (n ≤ allowance_limit)

small_reply : (a : Answer) → ((c : ℕ) → a ≡ refusal c → Stated c) → ((bs : List ℕ) (n : ℕ) → a ≡ success bs n → (length bs ≤ put_output)
    × (n ≤ allowance_limit))
    → Small (reply a)
unfolding reply
small_reply (refusal c) k h = stated_small c (k c refl)
small_reply (success bs n) k h = h bs n refl

pub small_get : (sheet plan : List ℕ) (allowance output scratch : ℕ) {q : Reply} {o o' s s' : List ℕ}
    → Answered (get_answer sheet plan allowance output scratch) q o o' s s' → Small q
small_get sheet plan allowance output scratch w =
    rw w.answer (small_reply (get_answer sheet plan allowance output scratch) (get_refusals sheet plan allowance output scratch) λ bs n e. (
      omega (arith, get_short sheet plan allowance output scratch bs n e),
      le_trans (get_steps sheet plan allowance output scratch bs n e) (get_shows e).0.few_steps,
    ))

pub small_put : (sheet plan view : List ℕ) (allowance output scratch : ℕ) {q : Reply} {o o' s s' : List ℕ}
    → Answered (put_answer sheet plan view allowance output scratch) q o o' s s' → Small q
small_put sheet plan view allowance output scratch w =
    rw w.answer (small_reply (put_answer sheet plan view allowance output scratch) (put_refusals sheet plan view allowance output scratch) λ bs n e. (
      put_short sheet plan view allowance output scratch bs n e,
      le_trans (put_steps sheet plan allowance output scratch bs n view e) (put_shows e).0.few_steps,
    ))

-- a reply, case by case
pub small_done : {q : Reply} {len n : ℕ} → Small q → q ≡ Done len n → (len ≤ put_output) × (n ≤ allowance_limit)
small_done {q} h e = rw e at h

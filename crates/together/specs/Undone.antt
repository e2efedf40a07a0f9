-- Taking back an edit (document 02, request 13): a get, a put of an edited list, and a put of the first list into the new plan. What the three calls
-- answer together, and what a caller may rely on.
use Rattle.std.specs.Prelude.{◌≡◌, Bool, true, false, List, ℕ, ◌≤◌, eqb, length, take}
use borrow.Author.Tests.{eq-eqb, ne_eqb}
use Rattle.value.specs.Result.{ok}
use Rattle.shapes.specs.Parts.{same_bytes}
use Rattle.sheet.specs.Sheet.{Sheet, read_sheet}
use Rattle.rules.specs.Numbers.{put_output}
use Rattle.rules.specs.Answer.{Answer, refusal, success, put_answer}
use Rattle.undo.specs.Straight.{Straight}
use Rattle.calls.specs.Reply.{Reply, Done, Refused}
use Rattle.together.specs.Trip.{Trip, Kept, Stopped, Broken}
use Rattle.calls.specs.Calls.{written, cleared}
use Rattle.together.specs.RoundTrips.{second_writes, if_both}

-- WHAT ALL THREE ANSWER

-- of the last call, behind a put of n steps: its refusal; kept where it gives the old plan in as many steps; broken where it gives something else
unfoldable pub as_before : List ℕ → ℕ → Answer → Trip
as_before plan n (refusal c) = Stopped c
as_before plan n (success bs m) = if_both (eqb m n) (same_bytes bs plan) n m

-- of the last two: the put's refusal, or what the last one makes of its new plan
unfoldable pub after_put : List ℕ → Answer → (List ℕ → Answer) → Trip
after_put plan (refusal c) f = Stopped c
after_put plan (success new n) f = as_before plan n (f new)

-- of all three: the get's refusal, or what the others make of its list
unfoldable pub taken_back : List ℕ → Answer → Answer → (List ℕ → List ℕ → Answer) → Trip
taken_back plan (refusal c) p f = Stopped c
taken_back plan (success view m) p f = after_put plan p (f view)

-- the last call writes only where both before it succeeded
unfoldable pub third_writes : Answer → Answer → (List ℕ → List ℕ → Answer) → List ℕ → List ℕ
third_writes (refusal c) p f o = o
third_writes (success view m) p f o = second_writes p (λ new n. f view new) o

-- the last call: the first list is put into the new plan
abbrev pub first_into_new : (sheet : List ℕ) (allowance output scratch : ℕ) → List ℕ → List ℕ → Answer
first_into_new sheet allowance output scratch view new = put_answer sheet new view allowance output scratch

-- r is what the three calls answer: the get g, the put p, and f of the list and the new plan. Their outputs o₁, o₂ and o₃ hold their bytes, and
-- scratch is left as the get leaves it
pub record ThreeCalls (plan : List ℕ) (g p : Answer) (f : List ℕ → List ℕ → Answer) (r : Trip) (o₁ o₁' o₂ o₂' o₃ o₃' s s' : List ℕ) : Type 0 where
  pub answer : r ≡ taken_back plan g p f
  pub first : o₁' ≡ written g o₁
  pub second : o₂' ≡ second_writes g (λ view m. p) o₂
  pub third : o₃' ≡ third_writes g p f o₃
  pub scratch : s' ≡ cleared g s

-- WHAT A CALLER MAY RELY ON

-- Kept, of every sheet: the old plan stands at the front of the last output, and both puts took as many steps. Of a sheet that chooses nothing: where
-- the get and the put succeed, Kept and nothing else is answered if the last output is long enough, and Broken is never answered
pub record TakesBack (sheet plan : List ℕ) (g p : Answer) (output : ℕ) (r : Trip) (o₃' : List ℕ) : Type 0 where
  pub kept : (n m : ℕ) → r ≡ Kept n m → (take (length plan) o₃' ≡ plan) × (m ≡ n)
  pub sure : {sh : Sheet} → read_sheet sheet ≡ ok sh → Straight sh
      → (view : List ℕ) (k : ℕ) → g ≡ success view k → (new : List ℕ) (n : ℕ) → p ≡ success new n → put_output ≤ output → r ≡ Kept n n
  pub whole : {sh : Sheet} → read_sheet sheet ≡ ok sh → Straight sh → r ≡ Broken → ⊥

-- THE LAST REPLY, as the code judges it

unfoldable pub replied : ℕ → Reply → List ℕ → List ℕ → Trip
replied n (Refused c) o plan = Stopped c
replied n (Done len m) o plan = if_both (eqb m n) (same_bytes (take len o) plan) n m

module _ (n : ℕ) (r : Reply) (o plan : List ℕ) where
  pub replied_refused : {c : ℕ} → r ≡ Refused c → Stopped c ≡ replied n r o plan
  unfolding replied
  replied_refused e = rw e

  pub replied_other : {len m : ℕ} → r ≡ Done len m → (m ≡ n → ⊥) → Broken ≡ replied n r o plan
  unfolding replied if_both
  replied_other {len} {m} e h = rw (e, ne_eqb m n h)

  module _ {len m : ℕ} (e : r ≡ Done len m) (h : m ≡ n) where
    pub replied_same : {b : Bool} → b ≡ same_bytes (take len o) plan → b ≡ true → Kept n m ≡ replied n r o plan
    unfolding replied if_both
    replied_same p q = rw (e, eq-eqb m n h, ← p, q)

    pub replied_unlike : {b : Bool} → b ≡ same_bytes (take len o) plan → b ≡ false → Broken ≡ replied n r o plan
    unfolding replied if_both
    replied_unlike p q = rw (e, eq-eqb m n h, ← p, q)

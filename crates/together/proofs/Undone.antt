-- Taking back an edit: what shows that three calls answer what is said of them, and that a caller may rely on it.
use Rattle.std.specs.Prelude.{◌≡◌, refl, Bool, true, false, List, ◌++◌, ℕ, ◌≤◌, eqb, length, take, drop}
use Rattle.std.proofs.Common.{sym, ◌∙◌, arith, take_at}
use Rattle.std.proofs.Math.Path.{ap}
use borrow.Author.Tests.{eq-eqb, eqb-true}
use Rattle.value.specs.Result.{ok}
use Rattle.shapes.specs.Parts.{same_bytes}
use Rattle.shapes.proofs.PartsLaws.{same_refl, same_bytes_lem}
use Rattle.sheet.specs.Sheet.{Sheet, read_sheet}
use Rattle.rules.specs.Numbers.{put_output}
use Rattle.rules.specs.Answer.{Answer, refusal, success, get_answer, put_answer}
use Rattle.rules.proofs.Laws.Answers.{put_shows}
use Rattle.undo.specs.Straight.{Straight}
use Rattle.undo.proofs.Calls.{undo}
use Rattle.calls.specs.Reply.{Reply, Done, Refused}
use Rattle.together.specs.Trip.{Trip, Kept, Stopped, Broken}
use Rattle.buffers.specs.Buffers.{zeroed}
use Rattle.calls.specs.Calls.{reply, written, cleared, Answered}
use Rattle.calls.specs.Trips.{success_of}
use Rattle.together.specs.RoundTrips.{second_writes, if_both, refusal_of, cleared-zeroed}
use Rattle.together.specs.Undone.{as_before, after_put, taken_back, third_writes, first_into_new, ThreeCalls, TakesBack, replied}

-- it is what the last call answers
replied_as : {a : Answer} {r : Reply} {o o' s s' : List ℕ} (n : ℕ) (plan : List ℕ) → Answered a r o o' s s' → replied n r o' plan ≡ as_before plan n a
unfolding replied as_before reply written
replied_as {a} {r} {o} {o'} n plan w = go a w.answer w.output
  where
    go : (a : Answer) → r ≡ reply a → o' ≡ written a o → replied n r o' plan ≡ as_before plan n a
    go (refusal c) p q = rw p
    go (success bs m) p q = rw (p, q, take_at bs (drop (length bs) o) (length bs) refl)

-- WHAT SHOWS IT

module _ (plan : List ℕ) {g p : Answer} (f : List ℕ → List ℕ → Answer) {r₁ : Reply} {o₁ o₁' s s₁ : List ℕ} (w₁ : Answered g r₁ o₁ o₁' s s₁) where
  pub get_refused : {c : ℕ} (o₂ o₃ : List ℕ) → r₁ ≡ Refused c → ThreeCalls plan g p f (Stopped c) o₁ o₁' o₂ o₂ o₃ o₃ s s₁
  unfolding taken_back third_writes second_writes
  get_refused o₂ o₃ e = let q = refusal_of w₁ e in
      record { answer = rw q refl; first = w₁.output; second = rw q refl; third = rw q refl; scratch = w₁.scratch }

  module _ {len k : ℕ} (d₁ : r₁ ≡ Done len k) {r₂ : Reply} {o₂ o₂' s₂ : List ℕ} (w₂ : Answered p r₂ o₂ o₂' s₁ s₂) where
    is₁ : g ≡ success (take len o₁') k
    is₁ = success_of w₁ d₁

    -- scratch that the get left zeroed stays so
    zeroed₁ : s₁ ≡ zeroed s
    unfolding cleared
    zeroed₁ = w₁.scratch ∙ ap (λ (a : Answer). cleared a s) is₁

    zeroed₂ : s₂ ≡ zeroed s
    zeroed₂ = w₂.scratch ∙ ap (cleared p) zeroed₁ ∙ cleared-zeroed p s

    as_get : {s' : List ℕ} → s' ≡ zeroed s → s' ≡ cleared g s
    unfolding cleared
    as_get e = e ∙ ap (λ (a : Answer). cleared a s) (sym is₁)

    second_put : o₂' ≡ second_writes g (λ view m. p) o₂
    unfolding second_writes
    second_put = rw is₁ w₂.output

    pub put_refused : {c : ℕ} (o₃ : List ℕ) → r₂ ≡ Refused c → ThreeCalls plan g p f (Stopped c) o₁ o₁' o₂ o₂' o₃ o₃ s s₂
    unfolding taken_back after_put third_writes second_writes
    put_refused o₃ e = let q = refusal_of w₂ e in
        record { answer = rw (is₁, q) refl; first = w₁.output; second = second_put; third = rw (is₁, q) refl; scratch = as_get zeroed₂ }

    module _ {end n : ℕ} (d₂ : r₂ ≡ Done end n) {r₃ : Reply} {o₃ o₃' s₃ : List ℕ} (w₃ : Answered (f (take len o₁') (take end o₂')) r₃ o₃ o₃' s₂ s₃) where
      is₂ : p ≡ success (take end o₂') n
      is₂ = success_of w₂ d₂

      pub all_made : {r : Trip} → r ≡ replied n r₃ o₃' plan → ThreeCalls plan g p f r o₁ o₁' o₂ o₂' o₃ o₃' s s₃
      unfolding taken_back after_put third_writes second_writes
      all_made e = record {
        answer = e ∙ replied_as n plan w₃ ∙ rw (is₁, is₂) refl;
        first = w₁.output;
        second = second_put;
        third = rw (is₁, is₂) w₃.output;
        scratch = as_get (w₃.scratch ∙ ap (cleared (f (take len o₁') (take end o₂'))) zeroed₂ ∙ cleared-zeroed (f (take len o₁') (take end o₂')) s);
      }

-- WHAT FOLLOWS

-- Kept says so of the last call
kept_of : (plan : List ℕ) (g p : Answer) (f : List ℕ → List ℕ → Answer) (o : List ℕ) (n m : ℕ) → taken_back plan g p f ≡ Kept n m
    → (take (length plan) (third_writes g p f o) ≡ plan) × (m ≡ n)
unfolding taken_back after_put as_before if_both third_writes second_writes written
kept_of plan (refusal c) p f o n m e = let z : ◌≡◌ {A = ℕ} 0 1 = cc in absurd (omega arith)
kept_of plan (success view k) (refusal c) f o n m e = let z : ◌≡◌ {A = ℕ} 0 1 = cc in absurd (omega arith)
kept_of plan (success view k) (success new n') f o n m e = go (f view new) e
  where
    both : (bs : List ℕ) (m' : ℕ) (b c : Bool) → b ≡ eqb m' n' → c ≡ same_bytes bs plan → if_both b c n' m' ≡ Kept n m
        → (take (length plan) (bs ++ drop (length bs) o) ≡ plan) × (m ≡ n)
    both bs m' true true h q e =
        let l : bs ≡ plan = same_bytes_lem bs plan (sym q) in
        let y : m' ≡ n' = eqb-true m' n' (sym h) in
        let a : n' ≡ n = cc in
        let b : m' ≡ m = cc in
        (rw l (take_at plan (drop (length plan) o) (length plan) refl), omega arith)
    both bs m' true false h q e = let z : ◌≡◌ {A = ℕ} 0 1 = cc in absurd (omega arith)
    both bs m' false c h q e = let z : ◌≡◌ {A = ℕ} 0 1 = cc in absurd (omega arith)

    go : (a : Answer) → as_before plan n' a ≡ Kept n m → (take (length plan) (written a o) ≡ plan) × (m ≡ n)
    go (refusal c) e = let z : ◌≡◌ {A = ℕ} 0 1 = cc in absurd (omega arith)
    go (success bs m') e = both bs m' (eqb m' n') (same_bytes bs plan) refl refl e

-- where the last call gives the old plan in as many steps, it is kept
sure_of : (plan : List ℕ) {g p : Answer} (f : List ℕ → List ℕ → Answer) {view new : List ℕ} {k n : ℕ} → g ≡ success view k → p ≡ success new n
    → f view new ≡ success plan n → taken_back plan g p f ≡ Kept n n
unfolding taken_back after_put as_before if_both
sure_of plan f {n = n} eg ep ef = rw (eg, ep, ef, eq-eqb n n refl, same_refl plan)

-- and where it gives nothing else, it is not broken
whole_of : (plan : List ℕ) (g p : Answer) (f : List ℕ → List ℕ → Answer)
    → ((view new bs : List ℕ) (k n m : ℕ) → g ≡ success view k → p ≡ success new n → f view new ≡ success bs m → f view new ≡ success plan n)
    → taken_back plan g p f ≡ Broken → ⊥
unfolding taken_back after_put as_before
whole_of plan (refusal c) p f h e = let z : ◌≡◌ {A = ℕ} 0 1 = cc in omega arith
whole_of plan (success view k) (refusal c) f h e = let z : ◌≡◌ {A = ℕ} 0 1 = cc in omega arith
whole_of plan (success view k) (success new n) f h e = go (f view new) refl e
  where
    go : (a : Answer) → f view new ≡ a → as_before plan n a ≡ Broken → ⊥
    go (refusal c) q e = let z : ◌≡◌ {A = ℕ} 0 1 = cc in omega arith
    go (success bs m) q e =
        let y = sure_of plan f {view = view} {new = new} {k = k} {n = n} refl refl (h view new bs k n m refl refl q) in
        let z : ◌≡◌ {A = ℕ} 0 1 = cc in
        omega arith

module _ (sheet plan edited : List ℕ) (reading allowance l₁ l₂ l₃ ls : ℕ) where
  abbrev g : Answer
  g = get_answer sheet plan reading l₁ ls

  abbrev p : Answer
  p = put_answer sheet plan edited allowance l₂ ls

  law : {sh : Sheet} → read_sheet sheet ≡ ok sh → Straight sh → (view new : List ℕ) (k n : ℕ) → g ≡ success view k → p ≡ success new n → put_output ≤ l₃
      → first_into_new sheet allowance l₃ ls view new ≡ success plan n
  law es st view new k n eg ep h = undo sheet plan reading l₁ ls view k eg edited allowance l₂ ls new n ep l₃ ls h (put_shows ep).0.scratch_long es st

  -- what the three calls answer is what a caller may rely on
  pub relies : {r : Trip} {o₁ o₁' o₂ o₂' o₃ o₃' s s' : List ℕ} → ThreeCalls plan g p (first_into_new sheet allowance l₃ ls) r o₁ o₁' o₂ o₂' o₃ o₃' s s'
      → ThreeCalls plan g p (first_into_new sheet allowance l₃ ls) r o₁ o₁' o₂ o₂' o₃ o₃' s s' × TakesBack sheet plan g p l₃ r o₃'
  relies {o₃ = o₃} c = (
    c,
    record {
      kept = λ n m e. rw c.third (kept_of plan g p (first_into_new sheet allowance l₃ ls) o₃ n m (sym c.answer ∙ e));
      sure = λ es st view k eg new n ep h. c.answer ∙ sure_of plan (first_into_new sheet allowance l₃ ls) eg ep (law es st view new k n eg ep h);
      whole = λ es st e. whole_of plan g p (first_into_new sheet allowance l₃ ls)
          (λ view new bs k n m eg ep q. law es st view new k n eg ep (put_shows q).0.output_long) (sym c.answer ∙ e);
    },
  )

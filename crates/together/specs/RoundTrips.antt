-- Two calls one after the other: what they answer together, and what a list put back, or one read out and put back, may rely on.
use Rattle.std.proofs.Math.Path.{◌≡◌, ap}
use Rattle.std.specs.Prelude.{refl, Bool, true, false, ℕ, ◌*◌, ◌≤◌, ◌<◌, leb, length, take, drop, replicate}
use Rattle.std.proofs.Common.{sym, ◌∙◌, take_at, drop_at}
use mathlib.Core.List.{List, ◌++◌}
use native.Mathlib.Omega.{arith}
use borrow.Author.Tests.{le-leb, lt-leb}
use Rattle.std.proofs.lemmas.List.{length-replicate}
use Rattle.shapes.specs.Parts.{same_bytes}
use Rattle.shapes.proofs.PartsLaws.{same_refl}
use Rattle.rules.specs.Numbers.{allowance_limit, factor, scratch_size, get_output, put_output}
use Rattle.rules.specs.Answer.{Answer, refusal, success, get_answer, put_answer}
use Rattle.calls.specs.Reply.{Reply, Done, Refused}
use Rattle.together.specs.Trip.{Trip, Kept, Stopped, Broken}
use Rattle.buffers.specs.Buffers.{zeros, zeroed}
use Rattle.calls.specs.Calls.{reply, written, cleared, after_refusal, Answered}
use Rattle.calls.specs.Trips.{success_of}

-- WHAT BOTH ANSWER

-- the first call's refusal, or the second's; or the steps of both. No case of it is Broken
unfoldable pub second : ℕ → Answer → Trip
second n (refusal c) = Stopped c
second n (success bs m) = Kept n m

unfoldable pub trip : Answer → (List ℕ → ℕ → Answer) → Trip
trip (refusal c) f = Stopped c
trip (success bs n) f = second n (f bs n)

-- the second call writes only where the first succeeded
unfoldable pub second_writes : Answer → (List ℕ → ℕ → Answer) → List ℕ → List ℕ
second_writes (refusal c) f o = o
second_writes (success bs n) f o = written (f bs n) o

-- put, then get of the new plan; get, then put of its list under 48 × its steps
abbrev pub back_and_out : (sheet : List ℕ) (allowance output scratch : ℕ) → List ℕ → ℕ → Answer
back_and_out sheet allowance output scratch new n = get_answer sheet new allowance output scratch

abbrev pub out_and_back : (sheet plan : List ℕ) (output scratch : ℕ) → List ℕ → ℕ → Answer
out_and_back sheet plan output scratch view n = put_answer sheet plan view (factor * n) output scratch

-- r is what both calls answer; the first's output o₁ and the second's o₂ hold their bytes, and scratch is left as the first call leaves it
pub record Tripped (a : Answer) (f : List ℕ → ℕ → Answer) (r : Trip) (o₁ o₁' o₂ o₂' s s' : List ℕ) : Type 0 where
  pub answer : r ≡ trip a f
  pub first : o₁' ≡ written a o₁
  pub then_written : o₂' ≡ second_writes a f o₂
  pub scratch : s' ≡ cleared a s

-- WHAT A CALLER MAY RELY ON

-- Kept: these bytes stand at the front of the second output, in at most so many steps; a first call that succeeds is answered by Kept and
-- nothing else, where the second is lent what it needs; and Broken is never answered
pub record RoundTrip (a : Answer) (bytes : List ℕ) (most : ℕ → ℕ) (Lends : ℕ → Type 0) (r : Trip) (o₂' : List ℕ) : Type 0 where
  pub kept : (n m : ℕ) → r ≡ Kept n m → (take (length bytes) o₂' ≡ bytes) × (m ≤ most n)
  pub sure : (bs : List ℕ) (n : ℕ) → a ≡ success bs n → Lends n → (m : ℕ) × (r ≡ Kept n m)
  pub whole : r ≡ Broken → ⊥

-- a list put back is read out again, in no more steps
abbrev pub ListStands : (sheet plan view : List ℕ) (allowance output₁ output₂ scratch : ℕ) → Trip → List ℕ → Type 0
ListStands sheet plan view allowance output₁ output₂ scratch =
    RoundTrip (put_answer sheet plan view allowance output₁ scratch) view (λ n. n) (λ n. get_output ≤ output₂)

-- a list read out in n steps and put back unedited gives the old plan, in at most 48 × n steps
abbrev pub PlanStays : (sheet plan : List ℕ) (allowance output₁ output₂ scratch : ℕ) → Trip → List ℕ → Type 0
PlanStays sheet plan allowance output₁ output₂ scratch =
    RoundTrip (get_answer sheet plan allowance output₁ scratch) plan (λ n. factor * n) (λ n. (put_output ≤ output₂) × (factor * n ≤ allowance_limit))

-- THE VERDICT ON THE SECOND CALL, as the code makes it: kept where it gives these very bytes in at most so many steps

unfoldable pub if_both : Bool → Bool → ℕ → ℕ → Trip
if_both true true n m = Kept n m
if_both true false n m = Broken
if_both false b n m = Broken

unfoldable pub verdict : ℕ → Reply → ℕ → List ℕ → List ℕ → Trip
verdict n (Refused c) most o bytes = Broken
verdict n (Done len m) most o bytes = if_both (leb m most) (same_bytes (take len o) bytes) n m

module _ (n : ℕ) (r : Reply) (most : ℕ) (o bytes : List ℕ) where
  pub verdict_refused : {c : ℕ} → r ≡ Refused c → Broken ≡ verdict n r most o bytes
  unfolding verdict
  verdict_refused e = rw e

  pub verdict_more : {len m : ℕ} → r ≡ Done len m → most < m → Broken ≡ verdict n r most o bytes
  unfolding verdict if_both
  verdict_more {len} {m} e h = rw (e, lt-leb m most h)

  module _ {len m : ℕ} (e : r ≡ Done len m) (h : m ≤ most) where
    pub verdict_same : {b : Bool} → b ≡ same_bytes (take len o) bytes → b ≡ true → Kept n m ≡ verdict n r most o bytes
    unfolding verdict if_both
    verdict_same p q = rw (e, le-leb m most h, ← p, q)

    pub verdict_other : {b : Bool} → b ≡ same_bytes (take len o) bytes → b ≡ false → Broken ≡ verdict n r most o bytes
    unfolding verdict if_both
    verdict_other p q = rw (e, le-leb m most h, ← p, q)

-- WHAT SHOWS IT

pub refusal_of : {a : Answer} {r : Reply} {o o' s s' : List ℕ} → Answered a r o o' s s' → {c : ℕ} → r ≡ Refused c → a ≡ refusal c
unfolding reply
refusal_of {a} {r} w {c} e = go a w.answer
  where
    go : (a : Answer) → r ≡ reply a → a ≡ refusal c
    go (refusal k) p = let z : k ≡ c = cc in ap refusal z
    go (success bs m) p = let z : ◌≡◌ {A = ℕ} 0 1 = cc in absurd (omega arith)

-- scratch that is zeroed stays so
zeros_twice : (n : ℕ) (s : List ℕ) → zeros n (zeros n s) ≡ zeros n s
unfolding zeros
zeros_twice n s = ap (λ (l : List ℕ). replicate n 0 ++ l) (drop_at (replicate n 0) (drop n s) n (length-replicate n 0))

pub cleared-zeroed : (a : Answer) (s : List ℕ) → cleared a (zeroed s) ≡ zeroed s
unfolding cleared after_refusal
cleared-zeroed (refusal c) s = go (leb c 3)
  where
    go : (b : Bool) → after_refusal b (zeroed s) ≡ zeroed s
    go true = refl
    go false = zeros_twice scratch_size s
cleared-zeroed (success bs n) s = zeros_twice scratch_size s

-- a success that is known stands at the front of the output, and is judged as kept
front_of : {r : Reply} {o o' s s' bytes : List ℕ} {m : ℕ} → Answered (success bytes m) r o o' s s' → take (length bytes) o' ≡ bytes
unfolding written
front_of {o = o} {bytes = bytes} w = rw w.output (take_at bytes (drop (length bytes) o) (length bytes) refl)

verdict_kept : {r : Reply} {o o' s s' bytes : List ℕ} {m most : ℕ} (n : ℕ) → Answered (success bytes m) r o o' s s' → m ≤ most
    → verdict n r most o' bytes ≡ Kept n m
unfolding verdict if_both reply
verdict_kept {bytes = bytes} {m = m} {most = most} n w h = rw (w.answer, le-leb m most h, front_of w, same_refl bytes)

module _ {a : Answer} (f : List ℕ → ℕ → Answer) (bytes : List ℕ) (most : ℕ → ℕ) (Lends : ℕ → Type 0)
    {r₁ : Reply} {o₁ o₁' s s₁ : List ℕ} (w₁ : Answered a r₁ o₁ o₁' s s₁) where
  abbrev Both : Trip → (o₂ o₂' s₂ : List ℕ) → Type 0
  Both r o₂ o₂' s₂ = Tripped a f r o₁ o₁' o₂ o₂' s s₂ × RoundTrip a bytes most Lends r o₂'

  pub first_refused : {c : ℕ} (o₂ : List ℕ) → r₁ ≡ Refused c → Both (Stopped c) o₂ o₂ s₁
  unfolding trip second_writes
  first_refused {c} o₂ e = let q = refusal_of w₁ e in (
    record { answer = rw q refl; first = w₁.output; then_written = rw q refl; scratch = w₁.scratch },
    record {
      kept = λ n m k. absurd (let z : ◌≡◌ {A = ℕ} 0 1 = cc in omega arith);
      sure = λ bs n k l. absurd (let z : ◌≡◌ {A = ℕ} 0 1 = cc in omega arith);
      whole = λ k. let z : ◌≡◌ {A = ℕ} 0 1 = cc in omega arith;
    },
  )

  module _ {len n : ℕ} (d : r₁ ≡ Done len n) (law : Lends n → (m : ℕ) × (f (take len o₁') n ≡ success bytes m) × (m ≤ most n)) where
    is : a ≡ success (take len o₁') n
    is = success_of w₁ d

    -- the door is shut to the second call
    pub second_shut : {c : ℕ} (o₂ : List ℕ) → f (take len o₁') n ≡ refusal c → Both (Stopped c) o₂ o₂ s₁
    unfolding trip second second_writes written
    second_shut {c} o₂ e = (
      record { answer = rw (is, e) refl; first = w₁.output; then_written = rw (is, e) refl; scratch = w₁.scratch },
      record {
        kept = λ n m k. absurd (let z : ◌≡◌ {A = ℕ} 0 1 = cc in omega arith);
        sure = λ bs k p l. absurd (never p l);
        whole = λ k. let z : ◌≡◌ {A = ℕ} 0 1 = cc in omega arith;
      },
    )
      where
        never : {bs : List ℕ} {k : ℕ} → a ≡ success bs k → Lends k → ⊥
        never {bs} {k} p l =
            let q = is in
            let y : k ≡ n = cc in
            let (m, g, h) = law (rw y at l) in
            let z : ◌≡◌ {A = ℕ} 0 1 = cc in
            omega arith

    -- it was made
    module _ {r₂ : Reply} {o₂ o₂' s₂ : List ℕ} (w₂ : Answered (f (take len o₁') n) r₂ o₂ o₂' s₁ s₂) where
      left_zeroed : s₂ ≡ cleared a s
      unfolding cleared
      left_zeroed =
          let z : s₁ ≡ zeroed s = w₁.scratch ∙ ap (λ (x : Answer). cleared x s) is in
          w₂.scratch ∙ ap (cleared (f (take len o₁') n)) z ∙ cleared-zeroed (f (take len o₁') n) s ∙ ap (λ (x : Answer). cleared x s) (sym is)

      pub second_judged : {r : Trip} → Lends n → r ≡ verdict n r₂ (most n) o₂' bytes → Both r o₂ o₂' s₂
      unfolding trip second second_writes
      second_judged {r} l e =
          let (m, g, h) = law l in
          let v = rw g at w₂ in
          let k : r ≡ Kept n m = e ∙ verdict_kept n v h in (
            record { answer = k ∙ rw (is, g) refl; first = w₁.output; then_written = rw is w₂.output; scratch = left_zeroed },
            record {
              kept = λ n' m' q. (front_of v, bound h k q);
              sure = λ bs n' p l'. (m, sure_as p k);
              whole = λ q. let z : ◌≡◌ {A = ℕ} 0 1 = cc in omega arith;
            },
          )
        where
          bound : {m n' m' : ℕ} → m ≤ most n → r ≡ Kept n m → r ≡ Kept n' m' → m' ≤ most n'
          bound {m} {n'} {m'} h k q = let y : n ≡ n' = cc in let x : m ≡ m' = cc in rw (← y, ← x) h

          sure_as : {bs : List ℕ} {m n' : ℕ} → a ≡ success bs n' → r ≡ Kept n m → r ≡ Kept n' m
          sure_as {n' = n'} p k = let q = is in let y : n ≡ n' = cc in cc

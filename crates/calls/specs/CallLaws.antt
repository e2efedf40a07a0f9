-- What shows that a call was answered: refused at the door, refused behind it, or done.
use Rattle.std.specs.Prelude.{◌≡◌, List, ◌++◌, ℕ, ◌≤◌, ◌<◌, length, take}
use Rattle.std.proofs.Math.Path.{refl, ap}
use Rattle.std.proofs.Common.{sym, ◌∙◌, zero-add, arith, length-append}
use Rattle.std.proofs.Math.Bool.{false}
use borrow.Author.Tests.{lt-leb}
use Rattle.std.proofs.Math.Dec.{leb}
use Rattle.std.proofs.Math.ListN.{drop}
use Rattle.std.proofs.Math.Seq.{paste}
use Rattle.std.specs.Prelude.{Result as Code, Ok, Err}
use Rattle.refusal.specs.declared.Refusal.{Refusal}
use Rattle.refusal.specs.Refusal.{number_of}
use Rattle.rules.specs.Outcome.{Out, done, refused}
use Rattle.rules.specs.Answer.{Answer, refusal, success, answer, door}
use Rattle.rules.specs.Laws.Answers.{DoorOpens}
use Rattle.rules.proofs.Laws.Answers.{door_open}
use Rattle.rules.proofs.Laws.Refusals.{Lists, l_refused, listed_above}
use Rattle.calls.specs.Reply.{Reply, Done, Refused}
use Rattle.buffers.specs.Buffers.{zeros, zeroed}
use Rattle.arena.specs.Door.{shut, Judges, door_opens, door_stays, past_output, Door, opens, shuts, door_cases}
use Rattle.calls.specs.Calls.{reply, written, cleared, after_refusal, Answered}

-- scratch that was only changed within its first n bytes is cleared to the same bytes
pub zeros_same : (n : ℕ) (s a : List ℕ) → drop n a ≡ drop n s → zeros n a ≡ zeros n s
unfolding zeros
zeros_same n s a e = rw e

-- THE DOOR

-- a refusal of the code's is what shut says
pub refused_shut : (need output scratch allowance : ℕ) (x : Refusal) → number_of x ≡ shut need output scratch allowance
    → (number_of x ≡ shut need output scratch allowance) × (number_of x ≡ 0 → ⊥)
refused_shut need output scratch allowance x e = (e, λ z. door_stays x e (door_opens (sym e ∙ z)))

-- where its answer is no refusal, all is lent
pub lent_else : {need output scratch allowance : ℕ} (r : Code Unit Refusal) → Judges need output scratch allowance r
    → ((e : Refusal) → r ≡ Err e → ⊥) → DoorOpens need output scratch allowance
lent_else (Ok x) e n = door_opens e
lent_else (Err x) e n = absurd (n x refl)

-- where the output will do, the door of a call is that of the walk
pub judges_past : {need output : ℕ} → need ≤ output → (scratch allowance : ℕ) (r : Code Unit Refusal) → Judges 0 0 scratch allowance r
    → Judges need output scratch allowance r
judges_past h scratch allowance (Ok x) e = sym (past_output h scratch allowance) ∙ e
judges_past h scratch allowance (Err x) e = e ∙ past_output h scratch allowance

module _ (need : ℕ) (o s : List ℕ) (allowance : ℕ) (w : Out (List ℕ)) where
  abbrev Call : Answer
  Call = answer (door need (length o) (length s) allowance w)

  pub shut_call : {c : ℕ} → c ≡ shut need (length o) (length s) allowance → (c ≡ 0 → ⊥) → Answered Call (Refused c) o o s s
  unfolding answer reply written cleared after_refusal
  shut_call e n = go (rw e door_cases) n
    where
      go : {k : ℕ} → Door need (length o) (length s) allowance k → (k ≡ 0 → ⊥) → Answered Call (Refused k) o o s s
      go (opens l) z = absurd (z refl)
      go (shuts h l f) z = rw (f w) (record { answer = refl; output = refl; scratch = rw l refl })

  -- BEHIND IT

  high : {c n : ℕ} → Lists w → w ≡ refused c n → 3 < c
  high {c} {n} l e = go (rw e at l)
    where
      go : Lists {A = List ℕ} (refused c n) → 3 < c
      go (l_refused h) = listed_above c h

  pub refused_behind : DoorOpens need (length o) (length s) allowance → Lists w → {c n : ℕ} → w ≡ refused c n
      → {s' : List ℕ} → s' ≡ zeroed s → Answered Call (Refused c) o o s s'
  unfolding answer reply written cleared after_refusal
  refused_behind l h {c} {n} e {s'} z =
      let k : leb c 3 ≡ false = lt-leb c 3 (high h e) in
      rw (door_open {o = w} l, e) (record { answer = refl; output = refl; scratch = rw k z })

  pub done_behind : DoorOpens need (length o) (length s) allowance → {bs : List ℕ} {n len : ℕ} → w ≡ done bs n → len ≡ length bs
      → {o' s' : List ℕ} → o' ≡ bs ++ drop len o → s' ≡ zeroed s → Answered Call (Done len n) o o' s s'
  unfolding answer reply written cleared
  done_behind l {bs} {n} {len} e q {o'} {s'} p z =
      rw (door_open {o = w} l, e) (record { answer = ap (λ k. Done k n) q; output = p ∙ ap (λ (k : ℕ). bs ++ drop k o) q; scratch = z })

-- bytes of scratch at the front of the output
pub at_front : (o t bs : List ℕ) (from len : ℕ) → take len (drop from t) ≡ bs → paste o 0 (drop from t) len ≡ bs ++ drop len o
at_front o t bs from len e = rw (e, zero-add)

-- a success lies within the output
pub done_inside : {a : Answer} {r : Reply} {o o' s s' : List ℕ} → Answered a r o o' s s' → {len n : ℕ} → r ≡ Done len n → len ≤ length o'
unfolding reply written
done_inside {a} {r} {o} {o'} w {len} {n} e = go a w.answer w.output
  where
    go : (a : Answer) → r ≡ reply a → o' ≡ written a o → len ≤ length o'
    go (refusal c) p q = let z : ◌≡◌ {A = ℕ} 0 1 = cc in absurd (omega arith)
    go (success bs m) p q = let l : length bs ≡ len = cc in rw (q, length-append) (omega arith)

-- the bytes of a reply lie within its output
abbrev pub Within : Reply → List ℕ → Type 0
Within (Refused c) o = Unit {0}
Within (Done len n) o = len ≤ length o

pub reply_within : {a : Answer} {q : Reply} {o o' s s' : List ℕ} → Answered a q o o' s s' → Within q o'
reply_within {q = q} {o' = o'} w = go q refl
  where
    go : (p : Reply) → q ≡ p → Within p o'
    go (Refused c) e = tt
    go (Done len n) e = done_inside w e

pub within-done : (o : List ℕ) {q : Reply} {len n : ℕ} → Within q o → q ≡ Done len n → len ≤ length o
within-done o h e = rw e at h

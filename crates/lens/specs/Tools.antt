-- What the tools answer, for other languages: one number, the low 8 bits the refusal (0: success), the next 16 what is told beside it.
use Rattle.std.specs.Prelude.{◌≡◌, refl, Bool, List, ℕ, ◌≤◌, ◌<◌, length}
use Rattle.std.proofs.Common.{arith}
use Rattle.value.specs.Result.{Result, ok}
use Rattle.value.specs.Result.{map_result}
use Rattle.value.specs.Numbered.{numbered}
use Rattle.std.specs.Prelude.{Ok, Err}
use Rattle.made.specs.Made.{Made, written, Makes, code_of as made_code, length_of, done_front}
use Rattle.accepts.specs.Accepts.{cleared, Accepted, code_of as verdict_code, yes_of}
use Rattle.typing.specs.Check.{Verdict}
use Rattle.typing.specs.Check as Check
use Rattle.types.specs.Checked.{code_of as check_code, node_told}
use Rattle.growth.specs.Tool.{code_of as growing_code, times_of}
use Rattle.preorder.specs.NumberAnswer.{Answer}
use Rattle.numbering.specs.Replies.{Reply, Done, Refused, Twice, reply_of, output_of, code_of, value_of}
use Rattle.packing.specs.Numbers.{Tells, tells_whole}
use Rattle.telling.specs.Tools.{MadeTold, NumberTold, VerdictTold}

-- the numbering's answer is a: the number r says so, and the output o became o'
pub record NumberPacked (a : Answer) (r : ℕ) (o o' : List ℕ) : Type 0 where
  pub answer : Tells (code_of (reply_of a)) (value_of (reply_of a)) r
  pub output : o' ≡ output_of a o

-- the number of each answer of a tool (crate `made`), 0 for a success; and the length of what was made
unfoldable pub number_made : Result (List ℕ) → ℕ
number_made (ok bs) = 0
number_made (Result.refusal c) = c

unfoldable pub length_made : Result (List ℕ) → ℕ
length_made (ok bs) = length bs
length_made (Result.refusal c) = 0

-- a tool's answer is a (crate `made`): the number r says so, the length of what was made beside it, and the output o became o'
pub record MadePacked (a : Result (List ℕ)) (r : ℕ) (o o' : List ℕ) : Type 0 where
  pub answer : Tells (number_made a) (length_made a) r
  pub output : o' ≡ written a o

-- the growth's report is a
abbrev pub GrowthPacked : Result ℕ → ℕ → Type 0
GrowthPacked a r = Tells (growing_code a) (times_of a) r

-- the checker's answer is a: the number r says so, 1 beside it for yes, and scratch s became s'
pub record VerdictPacked (a : Result Bool) (r : ℕ) (s s' : List ℕ) : Type 0 where
  pub answer : Tells (verdict_code a) (yes_of a) r
  pub scratch : s' ≡ cleared a s

-- the check's verdict is v: the number r says so, and the node of 81 and 82 beside it
abbrev pub CheckPacked : Verdict → ℕ → Type 0
CheckPacked v r = Tells (check_code v) (node_told v) r

-- WHAT SHOWS IT

made_told : (q : Made) (a : Result (List ℕ)) → numbered q ≡ map_result length a → (made_code q ≡ number_made a) × (length_of q ≡ length_made a)
unfolding map_result made_code length_of number_made length_made
made_told (Ok n) (ok bs) e = (refl, cc)
made_told (Ok n) (Result.refusal c) e = absurd (cc)
made_told (Err x) (ok bs) e = absurd (cc)
made_told (Err x) (Result.refusal c) e = (cc, refl)

pub made_packed : {a : Result (List ℕ)} {q : Made} {r : ℕ} {o o' : List ℕ} → Makes a q o o' → length_of q < 65536 → MadeTold q r → MadePacked a r o o'
made_packed {a} {q} m h t =
    let (e, f) = made_told q a m.answer in
    record { answer = rw (e, f) at (tells_whole h t); output = m.output }

-- what was made is no longer than any success of the answer
pub made_inside : (k : ℕ) {a : Result (List ℕ)} {q : Made} {o o' : List ℕ} → Makes a q o o' → ((u : List ℕ) → a ≡ ok u → length u ≤ k) → length_of q ≤ k
unfolding length_of
made_inside k {q = q} m h = go q refl
  where
    go : (p : Made) → q ≡ p → length_of p ≤ k
    go (Ok n) e = let f = done_front m e in omega (arith, h f.bytes f.is, f.long)
    go (Err c) e = omega arith

pub number_packed : {a : Answer} {q : Reply} {r : ℕ} {o o' : List ℕ} → (q ≡ reply_of a) × (o' ≡ output_of a o) → value_of q < 65536 → NumberTold q r
    → NumberPacked a r o o'
number_packed (e, f) h t = record { answer = rw e at (tells_whole h t); output = f }

-- what is told is at most k, where each length and each node is
pub told_inside : (k : ℕ) {q : Reply} → ((n : ℕ) → q ≡ Done n → n ≤ k) → ((n : ℕ) → q ≡ Twice n → n ≤ k) → value_of q ≤ k
unfolding value_of
told_inside k {q} h g = go q refl
  where
    go : (p : Reply) → q ≡ p → value_of p ≤ k
    go (Done n) e = h n e
    go (Refused c) e = omega arith
    go (Twice n) e = g n e

pub verdict_packed : {a v : Result Bool} {r : ℕ} {s s' : List ℕ} → Accepted a v s s' → VerdictTold v r → VerdictPacked a r s s'
verdict_packed x t = record { answer = rw x.answer at t; scratch = x.scratch }

-- CASE BY CASE

module _ {a : Result ℕ} {r : ℕ} where
  pub growth_times : {n : ℕ} → ok n ≡ a → Tells 0 n r → GrowthPacked a r
  unfolding growing_code times_of
  growth_times e t = rw (← e) t

  pub growth_refused : {c : ℕ} → Result.refusal c ≡ a → Tells c 0 r → GrowthPacked a r
  unfolding growing_code times_of
  growth_refused e t = rw (← e) t

module _ {v : Verdict} {r : ℕ} where
  pub check-passes : Check.passes ≡ v → Tells 0 0 r → CheckPacked v r
  unfolding check_code node_told
  check-passes e t = rw (← e) t

  pub check_refused : {c : ℕ} → Check.refused c ≡ v → Tells c 0 r → CheckPacked v r
  unfolding check_code node_told
  check_refused e t = rw (← e) t

  pub check_at : {c n : ℕ} → Check.refused_at c n ≡ v → Tells c n r → CheckPacked v r
  unfolding check_code node_told
  check_at e t = rw (← e) t

-- What `number` replies and what its output then holds, of each answer.
use Rattle.std.specs.Prelude.{◌≡◌, refl, List, ◌++◌, ℕ, ◌≤◌, length, drop, Result, Ok, Err}
use Rattle.std.proofs.Common.{ap}
use Rattle.refusal.specs.Refusal.{number_of}
use Rattle.report.specs.Writing.{Wrote, wrote_front}
use Rattle.preorder.specs.NumberAnswer.{Answer, done, refused, twice}
use Rattle.numbering.specs.declared.Fault.{Fault}
use Rattle.numbering.specs.declared.Fault.TheVariants as fault

-- what is replied: the length of the sheet, a refusal's number, or the lowest node that is used twice
pub data Reply : Type 0 where
  Done : ℕ → Reply
  Refused : ℕ → Reply
  Twice : ℕ → Reply

-- and by what the code replies it
abbrev pub told : Result ℕ Fault → Reply
told (Ok n) = Done n
told (Err (fault.Refused e)) = Refused (number_of e)
told (Err (fault.Twice n)) = Twice n

-- a success is its length
unfoldable pub reply_of : Answer → Reply
reply_of (done t) = Done (length t)
reply_of (refused c) = Refused c
reply_of (twice n) = Twice n

-- the output: the sheet at its front and what was there behind it; a refusal writes nothing
unfoldable pub output_of : Answer → List ℕ → List ℕ
output_of (done t) b = t ++ drop (length t) b
output_of (refused c) b = b
output_of (twice n) b = b

-- the number of each case in document 02: 0 for a success
unfoldable pub code_of : Reply → ℕ
code_of (Done n) = 0
code_of (Refused c) = c
code_of (Twice n) = 81

-- and what it tells beside the number: the length of the sheet, the node
unfoldable pub value_of : Reply → ℕ
value_of (Done n) = n
value_of (Refused c) = 0
value_of (Twice n) = n

-- CASE BY CASE

abbrev pub Answers : Answer → Reply → (b b' : List ℕ) → Type 0
Answers a r b b' = (r ≡ reply_of a) × (b' ≡ output_of a b)

pub answers_no : (a : Answer) (b : List ℕ) {c : ℕ} → a ≡ refused c → Answers a (Refused c) b b
unfolding reply_of output_of
answers_no a b e = rw e (refl, refl)

pub answers_twice : (a : Answer) (b : List ℕ) {n : ℕ} → a ≡ twice n → Answers a (Twice n) b b
unfolding reply_of output_of
answers_twice a b e = rw e (refl, refl)

pub answers_done : (a : Answer) {t : List ℕ} {n : ℕ} {b b' : List ℕ} → a ≡ done t → Wrote t 0 b b' n → length t ≤ length b → Answers a (Done n) b b'
unfolding reply_of output_of
answers_done a e w h =
    let f = wrote_front w h in
    rw e (ap Done f.long, rw (← f.long) f.made)

-- One number for an answer: the low 8 bits the refusal (0: success), the next 16 the length, the next 8 a count of starts, the upper 32 the steps.
use Rattle.std.specs.Prelude.{◌≡◌, Bool, true, false, List, ℕ, ◌+◌, ◌*◌, ◌/◌, ◌%◌, eqb, length}
use Rattle.std.proofs.Common.{ap, ap₂, arith, eq-eqb, ne_eqb}
use Rattle.rules.specs.Answer.{Answer, refusal, success}
use Rattle.calls.specs.Reply.{Reply, Done, Refused}
use Rattle.calls.specs.Calls.{reply, written, cleared, Answered}
use Rattle.calls.specs.Small.{Small}
use Rattle.packing.specs.Numbers.{Packs}

unfoldable pub packed : Answer → ℕ
packed (refusal c) = c
packed (success bs n) = 256 * length bs + 4294967296 * n

-- the number taken apart, as include/lens.h does it
unfoldable pub apart : Bool → ℕ → Reply
apart true r = Done (r / 256 % 65536) (r / 4294967296)
apart false r = Refused (r % 256)

unfoldable pub unpacked : ℕ → Reply
unpacked r = apart (eqb (r % 256) 0) r

-- the count of starts; 0 in an answer that tells of none
abbrev pub count_of : ℕ → ℕ
count_of r = r / 16777216 % 256

-- the call's answer is a: the number r says so, and output and scratch hold what document 01 says
pub record Packed (a : Answer) (r : ℕ) (o o' s s' : List ℕ) : Type 0 where
  pub answer : r ≡ packed a
  pub output : o' ≡ written a o
  pub scratch : s' ≡ cleared a s

-- WHAT SHOWS IT

-- the parts of a reply
unfoldable pub refusal_of : Reply → ℕ
refusal_of (Refused c) = c
refusal_of (Done len n) = 0

unfoldable pub length_of : Reply → ℕ
length_of (Refused c) = 0
length_of (Done len n) = len

unfoldable pub steps_of : Reply → ℕ
steps_of (Refused c) = 0
steps_of (Done len n) = n

-- the number r has the parts of the reply q and a count k of starts
abbrev pub ReplyPacked : Reply → (k r : ℕ) → Type 0
ReplyPacked q k r = Packs (refusal_of q) (length_of q) k (steps_of q) r

pub reply_refused : {q : Reply} {c k r : ℕ} → q ≡ Refused c → Packs c 0 k 0 r → ReplyPacked q k r
unfolding refusal_of length_of steps_of
reply_refused e p = rw e p

pub reply_done : {q : Reply} {len n k r : ℕ} → q ≡ Done len n → Packs 0 len k n r → ReplyPacked q k r
unfolding refusal_of length_of steps_of
reply_done e p = rw e p

-- what is packed is read back, beside any count
pub packed_back : (q : Reply) {k r : ℕ} → Small q → ReplyPacked q k r → unpacked r ≡ q
unfolding unpacked apart refusal_of length_of steps_of
packed_back (Refused c) {r = r} h p = rw (ne_eqb (r % 256) 0 (λ z. omega (arith, p.refusal_back))) (ap Refused p.refusal_back)
packed_back (Done len n) {r = r} h p = rw (eq-eqb (r % 256) 0 p.refusal_back) (ap₂ Done p.length_back p.steps_back)

pub packed_counted : (a : Answer) {q : Reply} {k r : ℕ} → q ≡ reply a → ReplyPacked q k r → r ≡ packed a + 16777216 * k
unfolding packed reply refusal_of length_of steps_of
packed_counted (refusal c) e p = omega (arith, (rw e at p).is)
packed_counted (success bs n) e p = omega (arith, (rw e at p).is)

pub pack_answered : {a : Answer} {q : Reply} {r : ℕ} {o o' s s' : List ℕ} → Answered a q o o' s s' → ReplyPacked q 0 r → Packed a r o o' s s'
pack_answered {a} w p = record { answer = omega (arith, packed_counted a w.answer p); output = w.output; scratch = w.scratch }

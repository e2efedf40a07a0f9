-- What the calls for other languages give in numbers that the caller lends: starts, with a count of them in the answer, and bits.
use Rattle.std.specs.Prelude.{◌≡◌, List, ◌++◌, ℕ, ◌+◌, ◌*◌, ◌%◌, ◌≤◌, min, length, drop}
use Rattle.std.proofs.Math.Path.{ap}
use Rattle.std.proofs.Common.{refl, ◌∙◌, arith}
use Rattle.starts.specs.declared.Starts.{Starts}
use Rattle.value.specs.Result.{Result}
use Rattle.starts.specs.Starts.{no_starts, load_of, starts_in, numbers}
use Rattle.starts.proofs.StartsLaws.{load_few}
use Rattle.rules.specs.Answer.{Answer, refusal, success, put_answer}
use Rattle.rules.specs.Bits.{put_written}
use Rattle.calls.specs.Reply.{Reply, Done, Refused, PutReply}
use Rattle.calls.specs.Calls.{reply, written, cleared, new_starts, new_written, PutAnswered}
use Rattle.calls.specs.Small.{Small, small_put}
use Rattle.packing.specs.Numbers.{Packs}
use Rattle.packing.specs.HandedOut.{handed, handed_over, handed_front}
use Rattle.lens.specs.Packing.{packed, unpacked, count_of, ReplyPacked, packed_back, packed_counted}

-- the starts at the front of the caller's numbers t; those behind them do not change, and where there is no start none does
unfoldable pub handed_out : Starts → List ℕ → List ℕ
handed_out s t = numbers s ++ drop s.count t

-- an answer with a count of starts: the 8 bits behind the length
abbrev pub counted : ℕ → Starts → ℕ
counted r s = r + 16777216 * s.count

-- a put's answer is a, for this sheet: the number r says so and how many starts there are; output, scratch and the caller's numbers became
-- o', s' and t'
pub record PackedPut (sheet : List ℕ) (a : Answer) (r : ℕ) (o o' s s' t t' : List ℕ) : Type 0 where
  pub answer : r ≡ counted (packed a) (new_starts sheet a)
  pub output : o' ≡ written a o
  pub scratch : s' ≡ cleared a s
  pub starts : t' ≡ handed_out (new_starts sheet a) t
  pub count_back : count_of r ≡ (new_starts sheet a).count

-- the caller's number: the bits of a success; with a refusal it is what it was
unfoldable pub written_or : (bits : ℕ) → Answer → ℕ → ℕ
written_or bits (refusal c) old = old
written_or bits (success new n) old = bits

-- the number of a refusal, 0 for starts that are loaded
unfoldable pub load_code : Result Starts → ℕ
load_code (Result.ok s) = 0
load_code (Result.refusal c) = c

-- loading gave l
pub record PackedLoad (l : Result Starts) (r : ℕ) (t t' : List ℕ) : Type 0 where
  pub answer : r ≡ counted (load_code l) (starts_in l)
  pub starts : t' ≡ handed_out (starts_in l) t
  pub refusal_back : r % 256 ≡ load_code l
  pub count_back : count_of r ≡ (starts_in l).count

-- what a put gives is q: the number r says so and how many starts there are, and they stand at the front of the caller's numbers
pub record PutHanded (q : PutReply) (r : ℕ) (t t' : List ℕ) : Type 0 where
  pub packed : ReplyPacked q.reply q.starts.count r
  pub starts : t' ≡ handed_out q.starts t

-- the bits of a put that is done; else what was there
unfoldable pub bits_by : Reply → (bits old : ℕ) → ℕ
bits_by (Done len n) bits old = bits
bits_by (Refused c) bits old = old

abbrev pub bits_or : PutReply → ℕ → ℕ
bits_or q old = bits_by q.reply q.written old

-- WHAT SHOWS IT

-- where there is room for all starts
pub starts_handed : (s : Starts) (t : List ℕ) {n : ℕ} {t' : List ℕ} → t' ≡ handed_over (min n (min (length s.at) (length t))) s.at t
    → n ≡ s.count → length s.at ≡ 16 → s.count ≤ 16 → s.count ≤ length t → t' ≡ handed_out s t
unfolding handed handed_out
starts_handed s t {n} e count places few room =
    let m : min n (min (length s.at) (length t)) ≡ s.count = omega arith in (rw m at e) ∙ handed_front s.count s.at t (omega arith)

-- no start
pub none_handed : (t : List ℕ) → t ≡ handed_out no_starts t
unfolding handed_out no_starts
none_handed t = refl

-- what was loaded, with its count
pub few_loaded : (sheet plan : List ℕ) {s : Starts} → Result.ok s ≡ load_of sheet plan → s.count ≤ 16
unfolding starts_in
few_loaded sheet plan {s} e = rw (← e) at (load_few sheet plan)

pub counted_load : (s : Starts) {r : ℕ} → Packs 0 0 s.count 0 r → {t t' : List ℕ} → t' ≡ handed_out s t → PackedLoad (Result.ok s) r t t'
unfolding load_code starts_in
counted_load s p h = record { answer = omega (arith, p.is); starts = h; refusal_back = p.refusal_back; count_back = p.count_back }

pub refused_load : (c : ℕ) {r : ℕ} → Packs c 0 0 0 r → (t : List ℕ) → PackedLoad (Result.refusal c) r t t
unfolding load_code starts_in no_starts
refused_load c p t = record { answer = omega (arith, p.is); starts = none_handed t; refusal_back = p.refusal_back; count_back = p.count_back }

-- a put's answer with its count
module _ (sheet plan view : List ℕ) (allowance output scratch : ℕ) {q : PutReply} {o o' s s' : List ℕ}
    (w : PutAnswered sheet plan view allowance (put_answer sheet plan view allowance output scratch) q o o' s s') {r : ℕ}
    (p : ReplyPacked q.reply q.starts.count r) where
  small : Small q.reply
  small = small_put sheet plan view allowance output scratch w.call

  pub counted_put : {t t' : List ℕ} → t' ≡ handed_out q.starts t → PackedPut sheet (put_answer sheet plan view allowance output scratch) r o o' s s' t t'
  counted_put {t} h =
      let a = put_answer sheet plan view allowance output scratch in
      record {
        answer = packed_counted a w.call.answer p ∙ ap (λ (y : Starts). counted (packed a) y) w.starts;
        output = w.call.output;
        scratch = w.call.scratch;
        starts = h ∙ ap (λ (y : Starts). handed_out y t) w.starts;
        count_back = p.count_back ∙ ap (λ (y : Starts). y.count) w.starts;
      }

  pub counted_back : unpacked r ≡ q.reply
  counted_back = packed_back q.reply small p

  -- the bits are handed out behind a success alone
  pub bits_put : (old : ℕ) {new : ℕ} → new ≡ bits_or q old
      → new ≡ written_or (put_written sheet plan view allowance) (put_answer sheet plan view allowance output scratch) old
  unfolding written_or new_written reply bits_by
  bits_put old f = f ∙ go (put_answer sheet plan view allowance output scratch) w.call.answer w.written
    where
      go : (a : Answer) → q.reply ≡ reply a → q.written ≡ new_written sheet plan view allowance a
          → bits_by q.reply q.written old ≡ written_or (put_written sheet plan view allowance) a old
      go (refusal c) g h = rw g refl
      go (success bs n) g h = rw (g, h) refl

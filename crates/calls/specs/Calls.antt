-- What a call answers, as the code has it, and what its output and scratch then hold: document 01, "Where each refusal is met".
use Rattle.std.specs.Prelude.{◌≡◌, Bool, true, false, List, ◌++◌, ℕ, leb, length, drop}
use Rattle.rules.specs.Answer.{Answer, refusal, success}
use Rattle.rules.specs.Bits.{put_written}
use Rattle.starts.specs.declared.Starts.{Starts}
use Rattle.starts.specs.Starts.{no_starts, load_of, starts_in}
use Rattle.calls.specs.Reply.{Reply, Done, Refused, PutReply}
use Rattle.buffers.specs.Buffers.{zeroed}

-- a refusal is its number; a success is how many bytes and how many steps
unfoldable pub reply : Answer → Reply
reply (refusal c) = Refused c
reply (success bs n) = Done (length bs) n

-- the bytes stand at the front of the output, and those behind them do not change; a refusal writes none
unfoldable pub written : Answer → List ℕ → List ℕ
written (refusal c) o = o
written (success bs n) o = bs ++ drop (length bs) o

-- refusals 1 to 3 do not touch scratch; every other ending zeroes its first 65,536 bytes and touches no others
unfoldable pub after_refusal : Bool → List ℕ → List ℕ
after_refusal true s = s
after_refusal false s = zeroed s

unfoldable pub cleared : Answer → List ℕ → List ℕ
cleared (refusal c) s = after_refusal (leb c 3) s
cleared (success bs n) s = zeroed s

-- the call's answer is a: r says so, and output o and scratch s became o' and s'
pub record Answered (a : Answer) (r : Reply) (o o' s s' : List ℕ) : Type 0 where
  pub answer : r ≡ reply a
  pub output : o' ≡ written a o
  pub scratch : s' ≡ cleared a s

-- WHAT A PUT GIVES BESIDE ITS REPLY

-- the starts of the new plan's values, as loading the new plan gives them; no start with a refusal
unfoldable pub new_starts : (sheet : List ℕ) → Answer → Starts
new_starts sheet (refusal c) = no_starts
new_starts sheet (success new n) = starts_in (load_of sheet new)

-- which plan variables took a view; no bit with a refusal
unfoldable pub new_written : (sheet plan view : List ℕ) (allowance : ℕ) → Answer → ℕ
new_written sheet plan view allowance (refusal c) = 0
new_written sheet plan view allowance (success new n) = put_written sheet plan view allowance

-- the answer of a put with these arguments is a: its reply says so, output and scratch became o' and s', the starts are those of the new plan, and
-- the bits tell which plan variables took a view
pub record PutAnswered (sheet plan view : List ℕ) (allowance : ℕ) (a : Answer) (r : PutReply) (o o' s s' : List ℕ) : Type 0 where
  pub call : Answered a r.reply o o' s s'
  pub starts : r.starts ≡ new_starts sheet a
  pub written : r.written ≡ new_written sheet plan view allowance a

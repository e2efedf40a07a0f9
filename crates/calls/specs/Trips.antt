-- Demand 3 of document 01, of the answers that calls give.
use Rattle.std.specs.Prelude.{◌≡◌, List, ℕ, ◌*◌, ◌≤◌, length, take, drop}
use Rattle.std.proofs.Common.{arith, take_at}
use Rattle.rules.specs.Numbers.{allowance_limit, factor, scratch_size, get_output, put_output}
use Rattle.rules.specs.Answer.{Answer, refusal, success, get_answer, put_answer}
use Rattle.rules.proofs.Laws.Trips.{consistency, acceptability}
use Rattle.calls.specs.Reply.{Reply, Done, PutReply}
use Rattle.calls.specs.Calls.{reply, written, Answered, new_starts, new_written, PutAnswered}

-- a list that was taken back stands: the get of the new plan, the bytes at the front of the output, under the same sheet and allowance
-- succeeds, gives exactly that list, in no more steps
pub record Consistent (sheet view : List ℕ) (allowance : ℕ) (r : Reply) (o' : List ℕ) : Type 0 where
  pub stands : (len n : ℕ) → r ≡ Done len n → (output scratch : ℕ) → get_output ≤ output → scratch_size ≤ scratch
      → (g : ℕ) × (get_answer sheet (take len o') allowance output scratch ≡ success view g) × (g ≤ n)

-- a list sent back unedited moves nothing: under every allowance from 48 × n to 1,000,000 its put succeeds and gives the old plan
pub record Acceptable (sheet plan : List ℕ) (r : Reply) (o' : List ℕ) : Type 0 where
  pub unmoved : (len n : ℕ) → r ≡ Done len n → (b output scratch : ℕ) → factor * n ≤ b → b ≤ allowance_limit → put_output ≤ output → scratch_size ≤ scratch
      → (p : ℕ) × (put_answer sheet plan (take len o') b output scratch ≡ success plan p)

-- a success is at the front of the output
pub success_of : {a : Answer} {r : Reply} {o o' s s' : List ℕ} → Answered a r o o' s s' → {len n : ℕ} → r ≡ Done len n → (a ≡ success (take len o') n)
unfolding reply written
success_of {a} {r} {o} {o'} w {len} {n} e = go a w.answer w.output
  where
    go : (a : Answer) → r ≡ reply a → o' ≡ written a o → a ≡ success (take len o') n
    go (refusal c) p q = let z : ◌≡◌ {A = ℕ} 0 1 = cc in absurd (omega arith)
    go (success bs m) p q =
        let l : length bs ≡ len = cc in
        let k : m ≡ n = cc in
        rw (q, take_at bs (drop (length bs) o) len l, k)

pub put_consistent : (sheet plan view : List ℕ) (allowance output scratch : ℕ) {r : Reply} {o o' s s' : List ℕ}
    → Answered (put_answer sheet plan view allowance output scratch) r o o' s s' → Consistent sheet view allowance r o'
put_consistent sheet plan view allowance output scratch {o' = o'} w = record {
  stands = λ len n e output' scratch' ho hs. consistency sheet plan view allowance output scratch (take len o') n (success_of w e) output' scratch' ho hs;
}

pub get_acceptable : (sheet plan : List ℕ) (allowance output scratch : ℕ) {r : Reply} {o o' s s' : List ℕ}
    → Answered (get_answer sheet plan allowance output scratch) r o o' s s' → Acceptable sheet plan r o'
get_acceptable sheet plan allowance output scratch {o' = o'} w = record {
  unmoved = λ len n e b output' scratch' hn hb ho hs.
      acceptability sheet plan allowance output scratch (take len o') n (success_of w e) b output' scratch' hn hb ho hs;
}

-- both clauses of a call's contract
pub with_acceptable : (sheet plan : List ℕ) (allowance output scratch : ℕ) {r : Reply} {o o' s s' : List ℕ}
    → Answered (get_answer sheet plan allowance output scratch) r o o' s s'
    → Answered (get_answer sheet plan allowance output scratch) r o o' s s' × Acceptable sheet plan r o'
with_acceptable sheet plan allowance output scratch w = (w, get_acceptable sheet plan allowance output scratch w)

pub with_consistent : (sheet plan view : List ℕ) (allowance output scratch : ℕ) {r : PutReply} {o o' s s' : List ℕ}
    → Answered (put_answer sheet plan view allowance output scratch) r.reply o o' s s'
    → r.starts ≡ new_starts sheet (put_answer sheet plan view allowance output scratch)
    → r.written ≡ new_written sheet plan view allowance (put_answer sheet plan view allowance output scratch)
    → PutAnswered sheet plan view allowance (put_answer sheet plan view allowance output scratch) r o o' s s' × Consistent sheet view allowance r.reply o'
with_consistent sheet plan view allowance output scratch w e f =
    (record { call = w; starts = e; written = f }, put_consistent sheet plan view allowance output scratch w)

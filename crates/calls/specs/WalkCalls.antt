-- From the walk's answer to the call's, for get and for put.
use Rattle.std.specs.Prelude.{◌≡◌, ℕ, ◌≤◌, length, take, drop}
use Rattle.std.proofs.Math.Path.{refl, ap}
use Rattle.std.proofs.Common.{sym, ◌∙◌, arith}
use mathlib.Core.List.{List}
use Rattle.std.proofs.Math.Seq.{paste}
use Rattle.rules.specs.Numbers.{scratch_size, stack_start, get_output, put_output}
use Rattle.rules.specs.Outcome.{Out, done, refused}
use Rattle.rules.specs.Answer.{Answer, refusal, success, answer, door, get_bytes, get_answer, put_bytes, put_answer}
use Rattle.rules.specs.Laws.Answers.{DoorOpens}
use Rattle.rules.proofs.Laws.Answers.{door_open}
use Rattle.rules.proofs.Laws.Refusals.{Lists, lists_get_bytes, lists_put_bytes}
use Rattle.starts.specs.Starts.{no_starts, load_of, starts_in}
use Rattle.std.specs.Prelude.{Ok, Err}
use Rattle.walk.specs.Reply.{Reply as WalkReply}
use Rattle.walk.specs.Call
use Rattle.walk.specs.Call.{WalkCall}
use Rattle.calls.specs.Reply.{Reply, Done, Refused, told}
use Rattle.buffers.specs.Buffers.{zeroed}
use Rattle.arena.specs.Door.{shut}
use Rattle.walk.specs.Call.NewStarts.{new_starts as walk_new_starts}
use Rattle.walk.specs.Call.Bits.{new_written as walk_new_written}
use Rattle.calls.specs.Calls.{reply, Answered, new_starts, new_written}
use Rattle.calls.specs.Output.{HasRoom, output_of}
use Rattle.calls.specs.CallLaws.{zeros_same, shut_call, refused_behind, done_behind, at_front}

-- what a walk says, in numbers: the bytes of its outcome, at most `most`, stand at 32,256 of the arena a
pub data Says (most : ℕ) (a : List ℕ) (r : Reply) : Out (List ℕ) → Type 0 where
  says_done : {bs : List ℕ} {n : ℕ} (len : ℕ) → r ≡ Done len n → len ≡ length bs → len ≤ most → take len (drop stack_start a) ≡ bs → Says most a r (done bs n)
  says_refused : {c n : ℕ} → r ≡ Refused c → Says most a r (refused c n)

pub told_says : {most : ℕ} {a : List ℕ} {r : WalkReply} {o : Out (List ℕ)} → Call.Says most a r o → Says most a (told r) o
told_says (Call.says_done len e l h p) = says_done len (ap told e) l h p
told_says (Call.says_refused e f) = says_refused (ap told e ∙ ap Refused f)

-- what a walk that is done says
pub record SaysDone (most : ℕ) (a : List ℕ) (len n : ℕ) (o : Out (List ℕ)) : Type 0 where
  pub bytes : List ℕ
  pub is : o ≡ done bytes n
  pub long : len ≡ length bytes
  pub short : len ≤ most
  pub stands : take len (drop stack_start a) ≡ bytes

pub said_done : {most : ℕ} {a : List ℕ} {r : Reply} {o : Out (List ℕ)} {len n : ℕ} → Says most a r o → r ≡ Done len n → SaysDone most a len n o
said_done {a = a} {len = len} {n = n} (says_done {bs = bs} {n = m} k e l h p) d =
    let q : k ≡ len = cc in
    let z : m ≡ n = cc in
    record { bytes = bs; is = ap (done bs) z; long = sym q ∙ l; short = rw q at h; stands = ap (λ (i : ℕ). take i (drop stack_start a)) (sym q) ∙ p }
said_done (says_refused e) d = let z : ◌≡◌ {A = ℕ} 0 1 = cc in absurd (omega arith)

pub said_refused : {most : ℕ} {a : List ℕ} {r : Reply} {o : Out (List ℕ)} {c : ℕ} → Says most a r o → r ≡ Refused c → (n : ℕ) × (o ≡ refused c n)
said_refused (says_done k e l h p) d = let z : ◌≡◌ {A = ℕ} 0 1 = cc in absurd (omega arith)
said_refused {c = c} (says_refused {c = k} {n = n} e) d = let q : k ≡ c = cc in (n, ap (λ x. refused x n) q)

-- the answer a is that of a walk that gives w, behind a door that needs so many bytes of output
pub record Behind (need : ℕ) (w : Out (List ℕ)) (allowance : ℕ) (o s : List ℕ) (a : Answer) : Type 0 where
  pub is : a ≡ answer (door need (length o) (length s) allowance w)
  pub small : need ≤ put_output
  pub listed : Lists w

pub get_behind : (sheet plan : List ℕ) (allowance : ℕ) (o s : List ℕ)
    → Behind get_output (get_bytes sheet plan allowance) allowance o s (get_answer sheet plan allowance (length o) (length s))
unfolding get_answer
get_behind sheet plan allowance o s = record { is = refl; small = omega arith; listed = lists_get_bytes sheet plan allowance }

pub put_behind : (sheet plan view : List ℕ) (allowance : ℕ) (o s : List ℕ)
    → Behind put_output (put_bytes sheet plan view allowance) allowance o s (put_answer sheet plan view allowance (length o) (length s))
unfolding put_answer
put_behind sheet plan view allowance o s = record { is = refl; small = omega arith; listed = lists_put_bytes sheet plan view allowance }

-- there is no start with a refusal
pub none_refused : (sheet : List ℕ) (x : Answer) {c : ℕ} → Refused c ≡ reply x → no_starts ≡ new_starts sheet x
unfolding reply new_starts
none_refused sheet (refusal c) e = refl
none_refused sheet (success bs n) e = let z : ◌≡◌ {A = ℕ} 0 1 = cc in absurd (omega arith)

-- and no bit
pub clear_refused : (sheet plan view : List ℕ) (allowance : ℕ) (x : Answer) {c : ℕ} → Refused c ≡ reply x → 0 ≡ new_written sheet plan view allowance x
unfolding reply new_written
clear_refused sheet plan view allowance (refusal c) e = refl
clear_refused sheet plan view allowance (success bs n) e = let z : ◌≡◌ {A = ℕ} 0 1 = cc in absurd (omega arith)

-- what is lent to a call is lent to its walk
pub inside : {need output scratch allowance : ℕ} → DoorOpens need output scratch allowance → DoorOpens 0 0 scratch allowance
inside l = record { output_long = omega arith; scratch_long = l.scratch_long; some_steps = l.some_steps; few_steps = l.few_steps }

-- THE RETURNS OF A CALL
module _ {need : ℕ} {w : Out (List ℕ)} {allowance : ℕ} {o s : List ℕ} {x : Answer} (b : Behind need w allowance o s x) where
  pub call_shut : {c : ℕ} → c ≡ shut need (length o) (length s) allowance → (c ≡ 0 → ⊥) → Answered x (Refused c) o o s s
  call_shut e n = rw b.is (shut_call need o s allowance w e n)

  module _ (l : DoorOpens need (length o) (length s) allowance) {U : Type 0} {a : List ℕ} {r : WalkReply} (g : WalkCall U need w allowance s a r) where
    says : Says need a (told r) w
    says = told_says (g.says (inside l))

    call_refused : {c : ℕ} {s' : List ℕ} → told r ≡ Refused c → s' ≡ zeroed a → Answered x (Refused c) o o s s'
    call_refused e z = rw b.is (refused_behind need o s allowance w l b.listed (said_refused says e).1 (z ∙ zeros_same scratch_size s a g.free.behind))

    call_done : {len n : ℕ} {o' s' : List ℕ} → told r ≡ Done len n → o' ≡ paste o 0 (drop stack_start a) len → s' ≡ zeroed a
        → Answered x (Done len n) o o' s s'
    call_done {len} e p z =
        let d = said_done says e in
        let q = p ∙ at_front o a d.bytes stack_start len d.stands in
        rw b.is (done_behind need o s allowance w l d.is d.long q (z ∙ zeros_same scratch_size s a g.free.behind))

    -- what the walk's answer asks of the buffers, and what becomes of it
    pub call_fits : (scratch_size ≤ length a) × HasRoom (told r) o a
    call_fits = (omega (arith, g.free.long, l.scratch_long), go (told r) refl)
      where
        go : (t : Reply) → told r ≡ t → HasRoom t o a
        go (Refused c) e = tt
        go (Done len n) e =
            let d = said_done says e in
            (omega (arith, d.short, b.small, g.free.long, l.scratch_long), omega (arith, d.short, l.output_long))

    pub call_told : {q : Reply} {o' s' : List ℕ} → q ≡ told r → o' ≡ output_of (told r) o a → s' ≡ zeroed a → Answered x q o o' s s'
    unfolding output_of
    call_told {q} {o'} {s'} e p z = go (told r) refl
      where
        go : (t : Reply) → told r ≡ t → Answered x q o o' s s'
        go (Refused c) h = rw (e ∙ h, p ∙ ap (λ (t : Reply). output_of t o a) h) (call_refused h z)
        go (Done len n) h = rw (e ∙ h) (call_done h (p ∙ ap (λ (t : Reply). output_of t o a) h) z)

    -- the starts that a walk gives beside its answer are those of the call
    pub call_starts : (sheet : List ℕ) → walk_new_starts sheet a r ≡ new_starts sheet x
    unfolding answer new_starts walk_new_starts
    call_starts sheet = go r refl
      where
        go : (t : WalkReply) → r ≡ t → walk_new_starts sheet a r ≡ new_starts sheet x
        go (Err e) h = rw (h, b.is, door_open {o = w} l, (said_refused says (ap told h)).1)
        go (Ok y) h =
            let d = said_done says (ap told h) in
            rw (h, b.is, door_open {o = w} l, d.is) (ap (λ (new : List ℕ). starts_in (load_of sheet new)) d.stands)

    -- and so are the bits
    pub call_written : (sheet plan view : List ℕ) (k : ℕ) → walk_new_written sheet plan view k r ≡ new_written sheet plan view k x
    unfolding answer new_written walk_new_written
    call_written sheet plan view k = go r refl
      where
        go : (t : WalkReply) → r ≡ t → walk_new_written sheet plan view k r ≡ new_written sheet plan view k x
        go (Err e) h = rw (h, b.is, door_open {o = w} l, (said_refused says (ap told h)).1)
        go (Ok y) h = rw (h, b.is, door_open {o = w} l, (said_done says (ap told h)).is)

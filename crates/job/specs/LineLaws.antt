-- Laws of the program's line: how long it is, that 8,193 bytes of the input decide it, and what shows it of the code.
use Rattle.std.specs.Prelude.{Bool, true, false, cond, Option, Some, None, ◌≡◌, List, [], ℕ, ◌+◌, ◌≤◌, ◌<◌, leb, length, take, drop}
use Rattle.std.proofs.Math.Path.{refl}
use Rattle.std.proofs.Common.{sym, ap, arith, le-leb, length-take-le, take_all}
use Rattle.std.proofs.Math.Decide.{dec_le}
use Rattle.std.proofs.lemmas.Bool.{lt-leb}
use Rattle.std.proofs.Math.Seq.{take-append_seam}
use Rattle.rules.specs.Outcome.{when, given}
use Rattle.rules.specs.Numbers.{scratch_size, get_output, put_output}
use Rattle.rules.specs.Answer.{Answer, refusal, success, door, get_answer, put_answer}
use Rattle.calls.specs.Reply.{Reply, Done, Refused}
use Rattle.calls.specs.Calls.{reply, written, cleared, Answered}
use Rattle.calls.specs.Small.{Small, small_get, small_put}
use Rattle.report.specs.Text.{refusal_line, success_line}
use Rattle.report.proofs.TextLaws.{refusal_length, success_length}
use Rattle.report.specs.Writing.{Wrote, Front, wrote_front, wrote_text}
use Rattle.inputs.specs.Numbers.{input_limit}
use Rattle.inputs.specs.declared.fields.Fields.{Fields}
use Rattle.inputs.specs.declared.Job.{Job}
use Rattle.inputs.specs.declared.Job.TheVariants.{Get, Put}
use Rattle.inputs.specs.Format.{sheet_of, plan_of, view_of, job_of}
use Rattle.job.specs.Line.{line_limit, answer_of, job_answer, answer_line, job_line, reply_line, Printed, cleared_by, BuffersAfter}

-- HOW LONG A LINE IS

fits : (a : Answer) → Small (reply a) → length (answer_line a) ≤ line_limit
unfolding answer_line reply
fits (refusal c) s = omega (arith, refusal_length c s.1)
fits (success bs n) s = omega (arith, s.0, success_length n bs s.1)

-- a call that answers a, on buffers of no bytes
answered : (a : Answer) → Answered a (reply a) [] (written a []) [] (cleared a [])
answered a = record { answer = refl; output = refl; scratch = refl }

fits_get : (sheet plan : List ℕ) (allowance output scratch : ℕ) → length (answer_line (get_answer sheet plan allowance output scratch)) ≤ line_limit
fits_get sheet plan allowance output scratch = fits _ (small_get sheet plan allowance output scratch (answered _))

fits_put : (sheet plan view : List ℕ) (allowance output scratch : ℕ) → length (answer_line (put_answer sheet plan view allowance output scratch)) ≤ line_limit
fits_put sheet plan view allowance output scratch = fits _ (small_put sheet plan view allowance output scratch (answered _))

fits_refusal : (c : ℕ) → c < 256 → length (answer_line (refusal c)) ≤ line_limit
unfolding answer_line
fits_refusal c h = omega (arith, refusal_length c h)

fits_job : (bs : List ℕ) (j : Option Job) → length (answer_line (answer_of bs j)) ≤ line_limit
unfolding answer_of
fits_job bs (Some (Get f)) = fits_get _ _ f.allowance get_output scratch_size
fits_job bs (Some (Put f)) = fits_put _ _ _ f.allowance put_output scratch_size
fits_job bs None = fits_refusal 60 (omega arith)

pub line_fits : (bs : List ℕ) → length (job_line bs) ≤ line_limit
unfolding job_line job_answer
line_fits bs = go (leb (length bs) input_limit)
  where
    go : (p : Bool) → length (answer_line (cond p (answer_of bs (job_of bs)) (refusal 61))) ≤ line_limit
    go true = fits_job bs (job_of bs)
    go false = fits_refusal 61 (omega arith)

-- THE FIRST 8,193 BYTES DECIDE IT
pub line_front : (bs : List ℕ) → job_line (take (input_limit + 1) bs) ≡ job_line bs
unfolding job_line job_answer
line_front bs = go (dec_le (length bs) (input_limit + 1))
  where
    go : Dec (length bs ≤ input_limit + 1) → job_line (take (input_limit + 1) bs) ≡ job_line bs
    go (yes h) = rw (take_all (input_limit + 1) bs h)
    go (no h) = rw (length-take-le (input_limit + 1) bs (omega arith), lt-leb (length bs) input_limit (omega arith))

-- WHAT SHOWS IT OF THE CODE

module _ {a : Answer} {q : Reply} {o o' s s' : List ℕ} (w : Answered a q o o' s s') where
  reply_line_lem : reply_line q o' ≡ answer_line a
  unfolding reply_line answer_line reply written
  reply_line_lem = go a w.answer w.output
    where
      go : (a : Answer) → q ≡ reply a → o' ≡ written a o → reply_line q o' ≡ answer_line a
      go (refusal c) e p = rw e
      go (success bs n) e p = rw (e, p, take-append_seam bs (drop (length bs) o))

  pub said : {t t' : List ℕ} {r : ℕ} → Wrote (reply_line q o') 0 t t' r → length (answer_line a) ≤ length t → Printed a r t t' o o' s s'
  said l h = record { text = wrote_front (wrote_text l reply_line_lem) h; output = w.output; scratch = w.scratch }

-- a reply, case by case
pub line_refused : (o : List ℕ) {q : Reply} {c : ℕ} → q ≡ Refused c → refusal_line c ≡ reply_line q o
unfolding reply_line
line_refused o e = rw e

pub line_done : (o : List ℕ) {q : Reply} {len n : ℕ} → q ≡ Done len n → success_line n (take len o) ≡ reply_line q o
unfolding reply_line
line_done o e = rw e

more_output : (sheet plan : List ℕ) (allowance : ℕ) → get_answer sheet plan allowance put_output scratch_size ≡ get_answer sheet plan allowance get_output
    scratch_size
unfolding get_answer door given when dec_le
more_output sheet plan allowance = refl

-- a call on buffers of the sizes that the program lends
module _ {o s t : List ℕ} (eo : length o ≡ put_output) (es : length s ≡ scratch_size) (et : length t ≡ line_limit) (sheet plan : List ℕ) (allowance : ℕ)
    {q : Reply} {o' s' t' : List ℕ} {r : ℕ} where
  -- a get is lent more than the 256 bytes that it needs
  pub said_get : Answered (get_answer sheet plan allowance (length o) (length s)) q o o' s s' → Wrote (reply_line q o') 0 t t' r
      → Printed (get_answer sheet plan allowance get_output scratch_size) r t t' o o' s s'
  said_get w l = said (rw (eo, es, more_output sheet plan allowance) at w) l (rw et (fits_get sheet plan allowance get_output scratch_size))

  pub said_put : (view : List ℕ) → Answered (put_answer sheet plan view allowance (length o) (length s)) q o o' s s' → Wrote (reply_line q o') 0 t t' r
      → Printed (put_answer sheet plan view allowance put_output scratch_size) r t t' o o' s s'
  said_put view w l = said (rw (eo, es) at w) l (rw et (fits_put sheet plan view allowance put_output scratch_size))

-- an input: over 8,192 bytes, no job, a get, a put
module _ (bs : List ℕ) where
  answer_over : input_limit < length bs → job_answer bs ≡ refusal 61
  unfolding job_answer
  answer_over h = rw (lt-leb (length bs) input_limit h)

  answer_job : {i j : Option Job} → length bs ≤ input_limit → i ≡ job_of bs → i ≡ j → job_answer bs ≡ answer_of bs j
  unfolding job_answer
  answer_job h e q = rw (le-leb (length bs) input_limit h, ← e, q)

  lent_over : (o s : List ℕ) → input_limit < length bs → BuffersAfter bs o o s s
  unfolding written
  lent_over o s h = record { output = rw (answer_over h); scratch = rw (lt-leb (length bs) input_limit h) }

  lent_job : {i j : Option Job} → length bs ≤ input_limit → i ≡ job_of bs → i ≡ j → {o o' s s' : List ℕ}
      → o' ≡ written (answer_of bs j) o → s' ≡ cleared_by bs j s → BuffersAfter bs o o' s s'
  lent_job h e q p z = record { output = rw (answer_job h e q) p; scratch = rw (le-leb (length bs) input_limit h, ← e, q) z }

  module _ {t t' : List ℕ} {r : ℕ} where
    line_wrote : (c : ℕ) → length t ≡ line_limit → job_answer bs ≡ refusal c → Wrote (refusal_line c) 0 t t' r → Front (job_line bs) t t' r
    unfolding job_line answer_line
    line_wrote c et e l = wrote_front (wrote_text l (sym (ap answer_line e))) (rw et (line_fits bs))

    line_said : {a : Answer} → job_answer bs ≡ a → Front (answer_line a) t t' r → Front (job_line bs) t t' r
    unfolding job_line
    line_said e f = rw e f

    pub prints_over : {o s : List ℕ} → length t ≡ line_limit → input_limit < length bs → Wrote (refusal_line 61) 0 t t' r
        → Front (job_line bs) t t' r × BuffersAfter bs o o s s
    prints_over {o} {s} et h l = (line_wrote 61 et (answer_over h) l, lent_over o s h)

    module _ {j : Option Job} (h : length bs ≤ input_limit) (e : j ≡ job_of bs) where
      pub prints_none : {o s : List ℕ} → length t ≡ line_limit → j ≡ None → Wrote (refusal_line 60) 0 t t' r → Front (job_line bs) t t' r
          × BuffersAfter bs o o s s
      unfolding answer_of written cleared_by
      prints_none et q l = (line_wrote 60 et (answer_job h e q) l, lent_job h e q refl refl)

      module _ {f : Fields} {sheet plan : List ℕ} (es : sheet ≡ sheet_of bs f) (ep : plan ≡ plan_of bs f) {o o' s s' : List ℕ} where
        pub prints_get : j ≡ Some (Get f) → Printed (get_answer sheet plan f.allowance get_output scratch_size) r t t' o o' s s'
            → Front (job_line bs) t t' r × BuffersAfter bs o o' s s'
        unfolding answer_of cleared_by
        prints_get q w =
            let v : Printed (answer_of bs (Some (Get f))) r t t' o o' s s' = rw (es, ep) at w in
            (line_said (answer_job h e q) v.text, lent_job h e q v.output v.scratch)

        pub prints_put : {view : List ℕ} → j ≡ Some (Put f) → view ≡ view_of bs f
            → Printed (put_answer sheet plan view f.allowance put_output scratch_size) r t t' o o' s s' → Front (job_line bs) t t' r × BuffersAfter bs o o' s s'
        unfolding answer_of cleared_by
        prints_put q ev w =
            let v : Printed (answer_of bs (Some (Put f))) r t t' o o' s s' = rw (es, ep, ev) at w in
            (line_said (answer_job h e q) v.text, lent_job h e q v.output v.scratch)

-- Laws of the line of a put (letters S and W): how long it is, and what shows it of the code.
use Rattle.std.specs.Prelude.{◌≡◌, refl, Bool, true, false, List, [], ◌∷◌, map, ℕ, ◌≤◌, length, take, drop}
use Rattle.std.proofs.Common.{sym, ap, ◌∙◌, arith, length-append}
use Rattle.std.proofs.Math.Path.{ap₂}
use Rattle.std.proofs.Math.Seq.{take-append_seam}
use Rattle.rules.specs.Numbers.{scratch_size, put_output}
use Rattle.rules.specs.Answer.{Answer, refusal, success, put_answer}
use Rattle.calls.specs.Reply.{PutReply}
use Rattle.calls.specs.Reply.{Reply, Done, Refused}
use Rattle.calls.specs.Calls.{reply, written, cleared, new_starts, new_written, Answered, PutAnswered}
use Rattle.calls.specs.Small.{Small, small_put}
use Rattle.report.specs.Text.{words, hex_of, decimal_of, refusal_line, ok_line}
use Rattle.report.proofs.TextLaws.{hex_length, decimal_length, ok_length}
use Rattle.report.specs.Writing.{Wrote, wrote_text}
use Rattle.starts.specs.declared.Starts.{Starts}
use Rattle.inputs.specs.Numbers.{input_limit}
use Rattle.words.specs.Numbers.{line_limit}
use Rattle.inputs.specs.declared.fields.Fields.{Fields}
use Rattle.std.specs.Prelude.{Option, Some, None}
use Rattle.inputs.specs.Format.{fields_of, sheet_of, plan_of, view_of}
use Rattle.words.specs.Answers.{bits_word}
use Rattle.words.proofs.Starts.{kept, kept_all}
use Rattle.letters.specs.LookupLaws.{fits_refusal, starts-length}
use Rattle.walking.specs.Endings.{Ending, made, says, besides, put_line, puts, output_after, scratch_after, Ended, reply_line}

-- HOW LONG IT IS

-- what stands behind the new plan: its starts, or four digits
besides-length : (bits : Bool) (sheet new : List ℕ) (n written : ℕ) → length new ≤ input_limit
    → length (words (besides bits (new_starts sheet (success new n)) written)) ≤ 80
unfolding besides bits_word new_starts words
besides-length false sheet new n written h = starts-length sheet new h
besides-length true sheet new n written h = simp (length-append, hex_length) (omega arith)

fits_put : (bits : Bool) (sheet : List ℕ) (written : ℕ) (a : Answer) → Small (reply a) → length (put_line (besides bits (new_starts sheet a) written) a) ≤
    line_limit
unfolding put_line reply words
fits_put bits sheet written (refusal c) s = fits_refusal c s.1
fits_put bits sheet written (success new n) s =
    let m = besides-length bits sheet new n written (omega arith) in
    simp (ok_length, length-append, hex_length) (omega (arith, m, decimal_length n 6 (omega arith)))

pub fits_puts : (bits : Bool) (bs : List ℕ) (t : Option Fields) → length (puts bits bs t).line ≤ line_limit
unfolding puts
fits_puts bits bs None = fits_refusal 60 (omega arith)
fits_puts bits bs (Some f) =
    let sheet = sheet_of bs f in
    fits_put bits sheet _ _ (small_put sheet (plan_of bs f) (view_of bs f) f.allowance put_output scratch_size {o = []} {s = []} answered)
  where
    answered : {x : Answer} → Answered x (reply x) [] (written x []) [] (cleared x [])
    answered = record { answer = refl; output = refl; scratch = refl }

-- WHAT SHOWS IT

pub put_cut : (bits : Bool) (bs : List ℕ) {t : Option Fields} → t ≡ fields_of bs → t ≡ None → puts bits bs (fields_of bs) ≡ says (refusal_line 60)
unfolding puts
put_cut bits bs e q = rw (sym e ∙ q)

-- the line of a put whose answer is a, and the call
abbrev put_ending : (bits : Bool) (sheet plan view : List ℕ) (allowance : ℕ) → Answer → Ending
put_ending bits sheet plan view allowance a =
    record { line = put_line (besides bits (new_starts sheet a) (new_written sheet plan view allowance a)) a; call = made a }

pub put_whole : (bits : Bool) (bs : List ℕ) {t : Option Fields} → t ≡ fields_of bs → {f : Fields} → t ≡ Some f → {sheet plan view : List ℕ}
    → sheet ≡ sheet_of bs f → plan ≡ plan_of bs f → view ≡ view_of bs f → {x y : ℕ} → x ≡ put_output → y ≡ scratch_size
    → puts bits bs (fields_of bs) ≡ put_ending bits sheet plan view f.allowance (put_answer sheet plan view f.allowance x y)
unfolding puts
put_whole bits bs e q es ep ev ex ey = rw (sym e ∙ q, es, ep, ev, ex, ey)

-- what stands behind the new plan
pub besides_bits : {bits : Bool} → bits ≡ true → (s : Starts) (b : ℕ) → bits_word b ∷ [] ≡ besides bits s b
unfolding besides
besides_bits e s b = rw e

pub besides_starts : {bits : Bool} → bits ≡ false → (s : Starts) (b : ℕ) → s.count ≤ 16 → map decimal_of (kept s) ≡ besides bits s b
unfolding besides
besides_starts e s b h = rw e (ap (map decimal_of) (kept_all s h))

-- a reply, case by case
pub line_refused : (ws : List (List ℕ)) (o : List ℕ) {q : Reply} {c : ℕ} → q ≡ Refused c → refusal_line c ≡ reply_line q ws o
unfolding reply_line
line_refused ws o e = rw e

pub line_done : (ws : List (List ℕ)) (o : List ℕ) {q : Reply} {len n : ℕ} → q ≡ Done len n
    → ok_line (decimal_of n ∷ hex_of (take len o) ∷ ws) ≡ reply_line q ws o
unfolding reply_line
line_done ws o e = rw e

module _ (bits : Bool) {sheet plan view : List ℕ} {allowance : ℕ} {a : Answer} {p : PutReply} {o o' s s' : List ℕ}
    (w : PutAnswered sheet plan view allowance a p o o' s s') where
  reply_line_lem : (ws : List (List ℕ)) → reply_line p.reply ws o' ≡ put_line ws a
  unfolding reply_line put_line reply written
  reply_line_lem ws = go a w.call.answer w.call.output
    where
      go : (a : Answer) {q : Reply} → q ≡ reply a → o' ≡ written a o → reply_line q ws o' ≡ put_line ws a
      go (refusal c) e f = rw e
      go (success bs n) e f = rw (e, f, take-append_seam bs (drop (length bs) o))

  pub ended_put : {t t' : List ℕ} {r : ℕ} → Wrote (reply_line p.reply (besides bits p.starts p.written) o') 0 t t' r
      → Ended (put_ending bits sheet plan view allowance a) r t t' o o' s s'
  unfolding output_after scratch_after
  ended_put l = record {
    text = wrote_text l (reply_line_lem _ ∙ ap₂ (λ (x : Starts) (y : ℕ). put_line (besides bits x y) a) w.starts w.written);
    output = w.call.output;
    scratch = w.call.scratch;
  }

-- a line that no call was made for
pub said : {l : List ℕ} {r : ℕ} {t t' o s : List ℕ} → Wrote l 0 t t' r → Ended (says l) r t t' o o s s
unfolding output_after scratch_after
said w = record { text = w; output = refl; scratch = refl }

pub ended_as : {e e' : Ending} {r : ℕ} {t t' o o' s s' : List ℕ} → e ≡ e' → Ended e' r t t' o o' s s' → Ended e r t t' o o' s s'
ended_as q w = rw q w

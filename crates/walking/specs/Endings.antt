-- What an input comes to whose letter walks: its line, and the call that is made for it. An input is a letter, then fields (docs/TOOLS.md).
use Rattle.std.specs.Prelude.{◌≡◌, Bool, true, false, cond, List, [], ◌∷◌, map, ℕ, ◌+◌, leb, length, take, drop}
use Rattle.rules.specs.Numbers.{scratch_size, put_output}
use Rattle.value.specs.Result.{Result, ok, refusal}
use Rattle.rules.specs.Answer.{Answer, success, put_answer}
use Rattle.rules.specs.Explain.Calls.{Explanation, why_get, why_put}
use Rattle.calls.specs.Reply.{Reply, Done, Refused}
use Rattle.calls.specs.Calls.{written, cleared, new_starts, new_written}
use Rattle.explaining.specs.Explain.{why_cleared}
use Rattle.venue.specs.Accepts.{accepts_of}
use Rattle.accepts.specs.Accepts.{cleared as judged_cleared}
use Rattle.report.specs.Text.{hex_of, decimal_of, refusal_line, ok_line}
use Rattle.report.specs.Writing.{Wrote}
use Rattle.starts.specs.declared.Starts.{Starts}
use Rattle.starts.specs.Starts.{numbers}
use Rattle.inputs.specs.declared.fields.Fields.{Fields}
use Rattle.std.specs.Prelude.{Option, Some, None}
use Rattle.inputs.specs.declared.Job.{Job}
use Rattle.inputs.specs.declared.Job.TheVariants.{Get, Put}
use Rattle.inputs.specs.Format.{two, part, sheet_of, plan_of, view_of, job_of, job_number}
use Rattle.words.specs.Answers.{bits_word}
use Rattle.walking.specs.Explanations.{why_line}

-- what an input comes to: the line, and the call on output and scratch that was made for it, or on scratch alone, where one was
pub data Call : Type 0 where
  none : Call
  made : Answer → Call
  asked : Explanation → Call
  judged : Result Bool → Call

pub record Ending : Type 0 where
  pub line : List ℕ
  pub call : Call

abbrev pub says : List ℕ → Ending
says l = record { line = l; call = none }

-- S and W: the fields of a put, as document 01's program has them behind another letter: the steps, the new plan, and behind it what else a put
-- tells: S the starts of the new plan's values, W which variables took a view

unfoldable pub besides : (bits : Bool) → Starts → (written : ℕ) → List (List ℕ)
besides false s b = map decimal_of (numbers s)
besides true s b = bits_word b ∷ []

-- with these words behind the new plan
unfoldable pub put_line : (ws : List (List ℕ)) → Answer → List ℕ
put_line ws (Answer.refusal c) = refusal_line c
put_line ws (success new n) = ok_line (decimal_of n ∷ hex_of new ∷ ws)

unfoldable pub puts : (bits : Bool) → List ℕ → Option Fields → Ending
puts bits bs None = says (refusal_line 60)
puts bits bs (Some f) =
    let sheet = sheet_of bs f in
    let plan = plan_of bs f in
    let view = view_of bs f in
    let answer = put_answer sheet plan view f.allowance put_output scratch_size in
    record { line = put_line (besides bits (new_starts sheet answer) (new_written sheet plan view f.allowance answer)) answer; call = made answer }

-- Y: a job of document 01's program: why it is refused

abbrev pub explains : Explanation → Ending
explains e = record { line = why_line e; call = asked e }

unfoldable pub why_by : List ℕ → Option Job → Ending
why_by bs (Some (Get f)) = explains (why_get (sheet_of bs f) (plan_of bs f) f.allowance scratch_size)
why_by bs (Some (Put f)) = explains (why_put (sheet_of bs f) (plan_of bs f) (view_of bs f) f.allowance scratch_size)
why_by bs None = says (refusal_line (job_number None))

unfoldable pub whys : List ℕ → Ending
whys bs = why_by bs (job_of bs)

-- C: the fields of a put, whose last is a list behind its length in two bytes and then a new plan: whether that plan stands

unfoldable pub yes_line : Result Bool → List ℕ
yes_line (ok true) = ok_line ((0x79 ∷ 0x65 ∷ 0x73 ∷ []) ∷ [])
yes_line (ok false) = ok_line ((0x6E ∷ 0x6F ∷ []) ∷ [])
yes_line (refusal c) = refusal_line c

abbrev pub judges : Result Bool → Ending
judges a = record { line = yes_line a; call = judged a }

unfoldable pub checks_by : List ℕ → Fields → (rest : List ℕ) → Ending
checks_by bs f rest =
    let n = two rest 0 in
    cond (leb (2 + n) (length rest))
    (judges (accepts_of (sheet_of bs f) (plan_of bs f) (part rest 2 n) (drop (2 + n) rest) f.allowance scratch_size)) (says (refusal_line 60))

unfoldable pub checks : List ℕ → Option Fields → Ending
checks bs None = says (refusal_line 60)
checks bs (Some f) = checks_by bs f (view_of bs f)

-- WHAT THE CODE LEAVES

-- output and scratch are as the call leaves them; where none is made, as they were
unfoldable pub output_after : Call → List ℕ → List ℕ
output_after none o = o
output_after (made a) o = written a o
output_after (asked e) o = o
output_after (judged a) o = o

unfoldable pub scratch_after : Call → List ℕ → List ℕ
scratch_after none s = s
scratch_after (made a) s = cleared a s
scratch_after (asked e) s = why_cleared e s
scratch_after (judged a) s = judged_cleared a s

-- the line of e was written from the front of the text t on, which became t', and r is the place behind it
pub record Ended (e : Ending) (r : ℕ) (t t' o o' s s' : List ℕ) : Type 0 where
  pub text : Wrote e.line 0 t t' r
  pub output : o' ≡ output_after e.call o
  pub scratch : s' ≡ scratch_after e.call s

-- the line of a put's reply whose bytes are at the front of the output, with these words behind them
unfoldable pub reply_line : Reply → (ws : List (List ℕ)) → List ℕ → List ℕ
reply_line (Refused c) ws o = refusal_line c
reply_line (Done len n) ws o = ok_line (decimal_of n ∷ hex_of (take len o) ∷ ws)

-- The program of document 01: from the bytes of its input to the bytes of the line that it prints.
use Rattle.std.specs.Prelude.{◌≡◌, cond, Option, Some, None, List, ℕ, leb, length, take}
use Rattle.rules.specs.Numbers.{scratch_size, get_output, put_output}
use Rattle.rules.specs.Answer.{Answer, refusal, success, get_answer, put_answer}
use Rattle.calls.specs.Reply.{Reply, Done, Refused}
use Rattle.calls.specs.Calls.{written, cleared}
use Rattle.report.specs.Text.{refusal_line, success_line}
use Rattle.report.specs.Writing.{Front}
use Rattle.inputs.specs.Numbers.{input_limit}
use Rattle.inputs.specs.declared.Job.{Job}
use Rattle.inputs.specs.declared.Job.TheVariants.{Get, Put}
use Rattle.inputs.specs.Format.{sheet_of, plan_of, view_of, job_of, job_number}

-- the most bytes of a line, by the name that the code has for it (src/lib.rt)
abbrev pub line_limit : ℕ
line_limit = 8204

-- a job's answer: what the call answers on buffers of the sizes that document 01 asks for, or the number of what is no job
unfoldable pub answer_of : List ℕ → Option Job → Answer
answer_of bs (Some (Get f)) = get_answer (sheet_of bs f) (plan_of bs f) f.allowance get_output scratch_size
answer_of bs (Some (Put f)) = put_answer (sheet_of bs f) (plan_of bs f) (view_of bs f) f.allowance put_output scratch_size
answer_of bs None = refusal (job_number None)

-- over 8,192 bytes: 61, whatever they are
unfoldable pub job_answer : List ℕ → Answer
job_answer bs = cond (leb (length bs) input_limit) (answer_of bs (job_of bs)) (refusal 61)

unfoldable pub answer_line : Answer → List ℕ
answer_line (refusal c) = refusal_line c
answer_line (success bs n) = success_line n bs

-- THE LINE THAT THE PROGRAM PRINTS FOR AN INPUT
unfoldable pub job_line : List ℕ → List ℕ
job_line bs = answer_line (job_answer bs)

-- WHAT THE CODE LEAVES

-- the line of a reply whose bytes are at the front of the output
unfoldable pub reply_line : Reply → List ℕ → List ℕ
reply_line (Refused c) o = refusal_line c
reply_line (Done len n) o = success_line n (take len o)

-- a call with the answer a: its line is at the front of the text t, which became t', and r is the line's length; output and scratch are as
-- the call leaves them
pub record Printed (a : Answer) (r : ℕ) (t t' o o' s s' : List ℕ) : Type 0 where
  pub text : Front (answer_line a) t t' r
  pub output : o' ≡ written a o
  pub scratch : s' ≡ cleared a s

-- the buffers of an input's calls: what makes no call leaves both as they were
unfoldable pub cleared_by : List ℕ → Option Job → List ℕ → List ℕ
cleared_by bs (Some (Get f)) s = cleared (answer_of bs (Some (Get f))) s
cleared_by bs (Some (Put f)) s = cleared (answer_of bs (Some (Put f))) s
cleared_by bs None s = s

pub record BuffersAfter (bs o o' s s' : List ℕ) : Type 0 where
  pub output : o' ≡ written (job_answer bs) o
  pub scratch : s' ≡ cond (leb (length bs) input_limit) (cleared_by bs (job_of bs) s) s

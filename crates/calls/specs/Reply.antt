-- What a call answers, in numbers; and what a put gives beside it.
use Rattle.std.specs.Prelude.{ℕ, Result as Answer, Ok, Err}
use Rattle.refusal.specs.declared.Refusal.{Refusal}
use Rattle.refusal.specs.Refusal.{number_of}
use Rattle.starts.specs.declared.Starts.{Starts}
use Rattle.starts.specs.Starts.{no_starts}
use Rattle.walk.specs.declared.Done.{Done as Walked}
use Rattle.calls.specs.declared.PutDone.{PutDone}

-- how many bytes and how many steps, or a refusal's number
pub data Reply : Type 0 where
  Done : (len steps : ℕ) → Reply
  Refused : (code : ℕ) → Reply

abbrev pub told : Answer Walked Refusal → Reply
told (Ok d) = Done d.len d.steps
told (Err e) = Refused (number_of e)

-- the reply, where the values of the new plan start, and which plan variables took a view
pub record PutReply : Type 0 where
  pub reply : Reply
  pub starts : Starts
  pub written : ℕ

-- with a refusal there is no start, and no bit is set
abbrev pub put_told : Answer PutDone Refusal → PutReply
put_told (Ok p) = record { reply = Done p.done.len p.done.steps; starts = p.starts; written = p.written }
put_told (Err e) = record { reply = Refused (number_of e); starts = no_starts; written = 0 }

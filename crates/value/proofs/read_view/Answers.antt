-- `value::read_view` meets its contract: one value, and nothing behind it. Assumes nothing.
use Rattle.std.specs.Prelude.{Some, Ok}
use Rattle.value.proofs.Progress.{NextIs, as_malformed, as_too_long, as_missing, next_is, view_refused, view_more, view_read}
use Rattle.value.proofs.read_view.Goals as goal
use Rattle.value.proofs.read_view.Goals.{In-Some-Ok}

-- a value is next
next : (c : In-Some-Ok) → NextIs 30 c.args.s.now (Some (Ok c.in-Some-Ok.n))
next c = next_is 30 c.args.s.now (cc)

pub returns-in-None : goal.returns-in-None
returns-in-None c = view_refused as_missing (next_is 30 c.args.s.now (cc))

pub returns-in-Some-Err-Malformed : goal.returns-in-Some-Err-Malformed
returns-in-Some-Err-Malformed c = view_refused as_malformed (next_is 30 c.args.s.now (cc))

pub returns-in-Some-Err-TooLong : goal.returns-in-Some-Err-TooLong
returns-in-Some-Err-TooLong c = view_refused as_too_long (next_is 30 c.args.s.now (cc))

pub returns-then-n-s : goal.returns-then-n-s
returns-then-n-s c = view_more (next (goal.at.returns-then-n-s c).In-Some-Ok) c.if-n-s.true

pub returns-else-n-s : goal.returns-else-n-s
returns-else-n-s c = view_read (next (goal.at.returns-else-n-s c).In-Some-Ok) c.if-n-s.false

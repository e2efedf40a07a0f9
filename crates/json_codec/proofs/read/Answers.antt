-- `read` meets its contract: each way that the text is answered. Assumes nothing.
use mathlib.Core.Path.{refl}
use Rattle.std.specs.Prelude.{List, ℕ, ◌++◌, drop}
use Rattle.std.proofs.Common.{ap}
use Rattle.value.proofs.Numbered.{passed_on}
use Rattle.json_codec.specs.Returns.{read_short, read_refused, read_more, read_long, read_done, read_at}
use Rattle.json_codec.proofs.read.Goals as goal

pub returns-then-out-lt-VALUE : goal.returns-then-out-lt-VALUE
returns-then-out-lt-VALUE c = read_short c.args.text.now c.args.out.now c.if-out-lt-VALUE.true

pub skip-requires : goal.skip-requires
skip-requires c = (read_at c.value.ensures c.in_ok-end.was).0

pub returns-then-skip-text : goal.returns-then-skip-text
returns-then-skip-text c =
    read_more c.args.text.now c.args.out.now c.if-out-lt-VALUE.false c.value.ensures c.in_ok-end.was
    c.skip.ensures c.if-skip-text.true

pub returns-then-n-gt-VALUE : goal.returns-then-n-gt-VALUE
returns-then-n-gt-VALUE c =
    read_long c.args.text.now c.args.out.now c.if-out-lt-VALUE.false c.value.ensures c.in_ok-end.was
    c.skip.ensures c.if-skip-text.false
    refl c.if-n-gt-VALUE.true

pub returns-in_err-end : goal.returns-in_err-end
returns-in_err-end c =
    rw (passed_on c.from_residual.result c.from_residual.ensures.1)
    (read_refused c.args.text.now c.args.out.now c.if-out-lt-VALUE.false c.value.ensures c.in_err-end.was)

pub returns : goal.returns
returns c =
    read_done c.args.text.now c.args.out.now c.if-out-lt-VALUE.false c.value.ensures
    c.in_ok-end.was
    c.skip.ensures c.if-skip-text.false
    refl c.if-n-gt-VALUE.false (ap (λ (l : List ℕ). l ++ drop c.in_ok-end.end.put c.args.out.now) c.copy_from_slice.ensures.after)

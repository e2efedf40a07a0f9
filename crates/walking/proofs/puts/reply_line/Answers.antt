-- `reply_line` meets its contract: a case for each case of the reply. Assumes nothing.
use mathlib.Core.Path.{refl, sym, ap}
use Rattle.std.proofs.Common.{length-take-le}
use Rattle.calls.specs.CallLaws.{within-done}
use Rattle.calls.specs.Reply.{put_told}
use mathlib.Core.List.{[], ◌∷◌}
use lib.ListN.{take}
use Rattle.report.specs.Text.{decimal_of, hex_of}
use Rattle.report.proofs.TextLaws.{wrote_words, wrote_ok}
use Rattle.report.specs.Writing.{wrote_text}
use Rattle.walking.specs.Endings.{besides}
use Rattle.walking.specs.PutLaws.{line_refused, line_done}
use Rattle.walking.proofs.puts.reply_line.Goals as goal

pub slice_bounds-hex_word-end : goal.slice_bounds-hex_word-end
slice_bounds-hex_word-end c = sym (length-take-le _ _ (within-done c.args.out.now c.requires.0 (ap (λ x. (put_told x).reply) c.in-Ok.is)))

pub besides_words-end-requires : goal.besides_words-end-requires
besides_words-end-requires c = rw c.in-Ok.is at c.requires.1

pub returns-in-Err : goal.returns-in-Err
returns-in-Err c =
    wrote_text (rw (c.from.ensures, c.number.ensures) at c.refusal.ensures)
    (line_refused _ c.args.out.now (ap (λ x. (put_told x).reply) c.in-Err.is))

pub returns-in-Ok : goal.returns-in-Ok
returns-in-Ok c =
    let n = decimal_of c.in-Ok.put.done.steps in
    let p = hex_of (take c.in-Ok.put.done.len c.args.out.now) in
    let s = besides c.args.bits c.in-Ok.put.starts c.in-Ok.put.written in
    rw c.in-Ok.is (wrote_text
    (wrote_ok (n ∷ p ∷ s) c.bytes-end.ensures
    (wrote_words (n ∷ []) (p ∷ s) c.decimal_word-end.ensures (wrote_words (p ∷ []) s c.hex_word-end.ensures c.besides_words-end.ensures))
    c.byte.ensures)
    (line_done s c.args.out.now refl))

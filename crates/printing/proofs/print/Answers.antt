-- `print` meets its contract: the refusals in their order, or the text. Assumes nothing.
use mathlib.Core.Path.{refl}
use native.Mathlib.Omega.{arith}
use Rattle.value.proofs.Numbered.{passed_on}
use Rattle.records.specs.AnewLaws.{bytes_known}
use Rattle.printing.specs.Answer.{no_room, no_text, unread, is_done}
use Rattle.printing.proofs.print.Goals as goal

pub returns-then-out-lt-OUTPUT : goal.returns-then-out-lt-OUTPUT
returns-then-out-lt-OUTPUT c = let both = no_room _ _ c.if-out-lt-OUTPUT.true in record { value = both.0; out_after = both.1 }

pub returns-in_err-number : goal.returns-in_err-number
returns-in_err-number c =
    let both = no_text _ _ c.if-out-lt-OUTPUT.false (omega arith) _ c.in_err-number.ensures.value in
    record { value = rw (passed_on c.from_residual.result c.from_residual.ensures.1) both.0; out_after = both.1 }

pub returns-in_err-t : goal.returns-in_err-t
returns-in_err-t c =
    let both = unread _ _ c.if-out-lt-OUTPUT.false c.in_err-t.ensures in
    record { value = rw (passed_on c.from_residual-in_err-t.result c.from_residual-in_err-t.ensures.1) both.0; out_after = both.1 }

pub write-requires : goal.write-requires
write-requires c = record { table = c.in_ok-t.ensures }

pub returns : goal.returns
returns c =
    let both = is_done _ _ c.if-out-lt-OUTPUT.false (omega arith) c.in_ok-number.ensures.value refl (record { table = c.in_ok-t.ensures })
    (bytes_known c.args.sheet.now c.type_inv.sheet) c.write.ensures in
    record { value = both.0; out_after = both.1 }

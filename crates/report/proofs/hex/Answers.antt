use native.Mathlib.Omega.{arith}
use Rattle.report.specs.Text.{hex_of}
use Rattle.report.proofs.TextLaws.{hex_more}
use Rattle.report.specs.Writing.{wrote_then, wrote_text}
use Rattle.report.proofs.hex.Goals as goal

pub loop-b-init : goal.loop-b-init
unfolding hex_of
loop-b-init c = c.place-end.ensures

pub loop-b-preserved : goal.loop-b-preserved
loop-b-preserved c =
    let bytes = c.args.bytes.now in
    wrote_text (wrote_then c.loop-b.invariant c.hex_byte-end.ensures) (hex_more bytes c.loop-b.b-index (omega arith))

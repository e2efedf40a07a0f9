-- `symbol` meets its contract. Assumes nothing.
use mathlib.Core.Path.{refl}
use Rattle.parsing.specs.Names.{fails}
use Rattle.parsing.specs.Expect.{goes, symbol_other, symbol_read}
use Rattle.parsing.proofs.expect.symbol.Goals as goal

pub returns-then-not-is : goal.returns-then-not-is
returns-then-not-is c =
    rw c.fault.ensures (goes _ c.if-c-ne0.false refl
    (symbol_other c.args.c c.next-t.ensures c.args.detail c.args.mark c.requires (fails c.is.ensures c.if-not-is.true)))

pub returns : goal.returns
returns c =
    rw c.read.ensures (goes _ c.if-c-ne0.false refl
    (symbol_read c.args.c c.next-t.ensures c.args.detail c.args.mark c.requires (c.is.ensures.0 c.if-not-is.false)))

-- `fault_line` meets its contract: the words of the line, one behind another. Assumes nothing.
use native.Mathlib.Omega.{arith}
use Rattle.letters.specs.SheetTextLaws.{wrote_fault, fault_fits}
use Rattle.letters.proofs.sheet_texts.fault_line.Goals as goal

pub returns : goal.returns
returns c = record {
  wrote = wrote_fault _ _ _ c.bytes-end.ensures (rw c.from.ensures at c.decimal_word-end.ensures) c.decimal_word-end-2.ensures
      (rw c.from-2.ensures at c.decimal_word-end-3.ensures)
      c.byte.ensures;
  detail_len_bound = fault_fits _ _ _ (omega arith) (omega arith) (omega arith);
}

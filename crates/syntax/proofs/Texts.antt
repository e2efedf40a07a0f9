-- SHEETS AS TEXT, whole calls on bytes: what is printed of a sheet reads back as the sheet that request 12 writes, in whatever layout.
use Rattle.std.specs.Prelude.{◌≡◌, List, ℕ, length}
use Rattle.std.proofs.Common.{sym, ap, ◌∙◌, arith, le-ltb}
use Rattle.sheet.specs.Sheet.{Sheet}
use Rattle.sheet.specs.Laws.{Ranges, sheet_ranges}
use Rattle.sheet.specs.Rows.{sheet_written}
use Rattle.sheet.proofs.Written.{Bytes}
use Rattle.preorder.specs.Numbering.{numbered}
use Rattle.preorder.specs.NumberingLaws.{Once, uses}
use Rattle.preorder.specs.Uses.{lowest_twice}
use Rattle.preorder.proofs.Uses.{once_all}
use Rattle.preorder.specs.NumberAnswer.{done, number_answer}
use Rattle.preorder.proofs.NumberingCalls.{numbered_told}
use Rattle.syntax.specs.Reader.{says, placed, sheet_of}
use Rattle.syntax.specs.Printer.{tokens_in, sheet_said}
use Rattle.syntax.proofs.TextLaws.{sheet_read}
use Rattle.tokens.specs.Laid.{Laid}
use Rattle.tokens.proofs.Laid.{laid_read}
use Rattle.syntax.specs.Setting.{fit_laid}
use Rattle.syntax.proofs.Setting.{fit_sheet}
use Rattle.syntax.specs.Texts.{text_of, Smalls, sheet_printed, printed_bytes, sheet_smalls}

pub printed_laid : (sh : Sheet) → Laid (tokens_in (sheet_said sh)) (text_of sh)
unfolding text_of
printed_laid sh = fit_laid (fit_sheet sh)

module _ {sh : Sheet} (r : Ranges sh) (small : Smalls sh) (once : Once (uses sh)) where
  -- any text with its tokens, with other blanks, lines and comments, says the sheet
  pub read_laid : {s : List ℕ} → Laid (tokens_in (sheet_said sh)) s → sheet_of s ≡ says (sheet_written (numbered sh))
  unfolding sheet_of placed
  read_laid l = rw (laid_read l, sheet_read r small once)

  -- and so does the text that is printed
  pub read_printed : sheet_of (text_of sh) ≡ says (sheet_written (numbered sh))
  read_printed = read_laid (printed_laid sh)

pub round_trip : (s : List ℕ) (n : ℕ) {t : List ℕ} → Bytes s → number_answer s n ≡ done t → (x : List ℕ) × (printed_bytes s ≡ done x) × (sheet_of x ≡ says t)
unfolding printed_bytes sheet_printed
round_trip s n b e =
    let h = numbered_told s n e in
    let sh = h.sheet in (
      text_of sh,
      rw (h.read, le-ltb (lowest_twice sh) (length sh.nodes) (omega (arith, once_all sh h.once))),
      read_printed (sheet_ranges s h.read) (sheet_smalls s b h.read) h.once ∙ ap says (sym h.written),
    )

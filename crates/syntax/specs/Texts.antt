-- SHEETS AS TEXT, whole calls on bytes: what is printed of a sheet reads back as the sheet that request 12 writes, in whatever layout.
use Rattle.std.specs.Prelude.{◌≡◌, cond, List, ℕ, ◌<◌, ltb, length}
use Rattle.std.proofs.Common.{arith}
use Rattle.value.specs.Result.{Result, ok, refusal}
use Rattle.node.specs.Kinds.{row}
use Rattle.sheet.specs.Sheet.{Sheet, read_sheet}
use Rattle.sheet.specs.Laws.{node_made}
use Rattle.sheet.specs.Rows.{Small}
use Rattle.sheet.proofs.Written.{Bytes, read_small}
use Rattle.preorder.specs.Numbering.{node_of}
use Rattle.preorder.specs.Uses.{lowest_twice}
use Rattle.preorder.specs.NumberAnswer.{Answer, done, twice}
use Rattle.preorder.specs.NumberAnswer.{refused as unread}
use Rattle.tokens.specs.Tokens.{between, tokens}
use Rattle.syntax.specs.Reader.{Out, fault, sheet_of_tokens, says, refused, placed, sheet_of}
use Rattle.syntax.specs.Reader.{ok as read}
use Rattle.syntax.specs.Printer.{sheet_said}
use Rattle.syntax.specs.Setting.{text_in}

-- THE TEXT OF A SHEET
unfoldable pub text_of : Sheet → List ℕ
text_of sh = text_in (sheet_said sh)

-- each number of a node is as small as its bytes can say
abbrev pub Smalls : Sheet → Type 0
Smalls sh = (n : ℕ) → n < length sh.nodes → Small (row (node_of sh n)).body

no_says : {c p d : ℕ} {b : List ℕ} → refused c p d ≡ says b → ⊥
no_says e = let z : ◌≡◌ {A = ℕ} 0 1 = cc in omega arith

-- LAYOUT: two texts with the same tokens say the same sheet
pub same_tokens : (s s' : List ℕ) {b : List ℕ} → tokens between s ≡ tokens between s' → sheet_of s ≡ says b → sheet_of s' ≡ says b
unfolding sheet_of placed
same_tokens s s' {b} e h = go (sheet_of_tokens (tokens between s')) (rw e at h)
  where
    go : (o : Out Sheet) → placed s o ≡ says b → placed s' o ≡ says b
    go (read sh) q = q
    go (fault c l i d) q = absurd (no_says q)

-- ON BYTES: the sheet's own refusals; then 81, with the lowest node that is used twice; or the text
unfoldable pub sheet_printed : Result Sheet → Answer
sheet_printed (refusal c) = unread c
sheet_printed (ok sh) = cond (ltb (lowest_twice sh) (length sh.nodes)) (twice (lowest_twice sh)) (done (text_of sh))

unfoldable pub printed_bytes : List ℕ → Answer
printed_bytes s = sheet_printed (read_sheet s)

pub sheet_smalls : (s : List ℕ) {sh : Sheet} → Bytes s → read_sheet s ≡ ok sh → Smalls sh
sheet_smalls s b e n h = read_small (node_made s e n h) b

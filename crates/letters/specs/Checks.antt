-- The check of a sheet beside lent types (letter T of `tools`).
use Rattle.std.specs.Prelude.{◌≡◌, refl, Bool, true, false, cond, List, [], ◌∷◌, ℕ, ◌+◌, ◌≤◌, ◌<◌, leb, length, drop}
use Rattle.std.proofs.Math.Path.{sym}
use Rattle.std.proofs.Common.{arith}
use borrow.Author.Tests.{le-leb, lt-leb}
use Rattle.value.specs.Result.{ok}
use Rattle.sheet.specs.Sheet.{Sheet, read_sheet}
use Rattle.sheet.specs.Laws.{sheet_ranges}
use Rattle.report.specs.Text.{words, refusal_line, ok_line}
use Rattle.report.proofs.TextLaws.{ok_length}
use Rattle.words.specs.Numbers.{line_limit}
use Rattle.inputs.specs.Format.{two, part}
use Rattle.words.specs.Answers.{node_line}
use Rattle.typing.specs.Check.{Verdict, passes, refused, refused_at, check}
use Rattle.typing.proofs.CheckLaws.{Says, all_right, used_twice, not_right}
use Rattle.typing.proofs.Calls.{Judges, no_sheet, no_types, judged, check_judges}
use Rattle.letters.specs.LoadLaws.{sheet_small}
use Rattle.letters.specs.LookupLaws.{fits_refusal}
use Rattle.letters.specs.SheetLaws.{fits_node}

-- T: a sheet behind its length in two bytes, then types: whether it passes; 81 and 82 name the lowest node at fault

unfoldable pub judged_line : Verdict → List ℕ
judged_line passes = ok_line []
judged_line (refused c) = refusal_line c
judged_line (refused_at c n) = node_line c n

unfoldable pub types_line : List ℕ → List ℕ
types_line bs =
    let n = two bs 1 in
    cond (leb (3 + n) (length bs)) (judged_line (check (part bs 3 n) (drop (3 + n) bs))) (refusal_line 60)

-- HOW LONG IT IS

fits_judged : (s t : List ℕ) → length (judged_line (check s t)) ≤ line_limit
unfolding judged_line words
fits_judged s t = go (check_judges s t)
  where
    says : (sh : Sheet) → read_sheet s ≡ ok sh → {l : _} {v : Verdict} → Says sh l v → length (judged_line v) ≤ line_limit
    says sh e (all_right o p) = rw ok_length (omega arith)
    says sh e (used_twice {n} a b o) = fits_node 81 n (omega arith) (omega (arith, (sheet_ranges s e).few_nodes))
    says sh e (not_right {n} a o u b) = fits_node 82 n (omega arith) (omega (arith, (sheet_ranges s e).few_nodes))

    go : {v : Verdict} → Judges s t v → length (judged_line v) ≤ line_limit
    go (no_sheet {c} e) = fits_refusal c (sheet_small s e)
    go (no_types sh e q) = fits_refusal 80 (omega arith)
    go (judged sh l e q y) = says sh e y

pub fits_types : (bs : List ℕ) → length (types_line bs) ≤ line_limit
unfolding types_line
fits_types bs = go (leb (3 + two bs 1) (length bs))
  where
    go : (p : Bool) → let n = two bs 1 in length (cond p (judged_line (check (part bs 3 n) (drop (3 + n) bs))) (refusal_line 60)) ≤ line_limit
    go true = fits_judged _ _
    go false = fits_refusal 60 (omega arith)

-- WHAT SHOWS IT OF THE CODE

pub passes_text : 0x6F ∷ 0x6B ∷ 0x0A ∷ [] ≡ ok_line []
unfolding ok_line words
passes_text = refl

-- an answer of the check, case by case
module _ {v : Verdict} where
  pub checked_passes : passes ≡ v → ok_line [] ≡ judged_line v
  unfolding judged_line
  checked_passes e = rw (← e)

  pub checked_refused : {c : ℕ} → refused c ≡ v → refusal_line c ≡ judged_line v
  unfolding judged_line
  checked_refused e = rw (← e)

  pub checked_at : {c n : ℕ} → refused_at c n ≡ v → node_line c n ≡ judged_line v
  unfolding judged_line
  checked_at e = rw (← e)

module _ (bs : List ℕ) {n : ℕ} (en : n ≡ two bs 1) where
  pub types_cut : length bs < 3 + n → refusal_line 60 ≡ types_line bs
  unfolding types_line
  types_cut h = sym (rw (← en, lt-leb (3 + n) (length bs) h))

  pub types_whole : 3 + n ≤ length bs → {s t : List ℕ} → s ≡ part bs 3 n → t ≡ drop (3 + n) bs → judged_line (check s t) ≡ types_line bs
  unfolding types_line
  types_whole h {s} {t} es et = sym (rw (← en, le-leb (3 + n) (length bs) h, ← es, ← et))

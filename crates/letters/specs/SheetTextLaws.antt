-- Laws of the lines of letters A and U: how long they are, and what shows them of the code.
use Rattle.std.specs.Prelude.{◌≡◌, refl, Bool, true, false, cond, List, [], ◌∷◌, ℕ, ◌^◌, ◌≤◌, ◌<◌, ltb, length, take, drop}
use Rattle.std.proofs.Common.{sym, ap, ◌∙◌, arith, length-append, length-take}
use Rattle.std.proofs.Math.Path.{ap₂}
use Rattle.std.proofs.Math.Seq.{take-append_seam}
use Rattle.value.specs.Result.{Result, ok, refusal}
use Rattle.report.specs.Text.{hex_of, words, decimal_of, refusal_line, ok_line}
use Rattle.report.proofs.TextLaws.{decimal_length, wrote_words}
use Rattle.report.specs.Writing.{Wrote}
use Rattle.words.specs.Numbers.{line_limit}
use Rattle.words.specs.Answers.{no_line}
use Rattle.words.proofs.AnswersLaws.{wrote_no}
use Rattle.sheet.specs.Sheet.{Sheet, read_sheet}
use Rattle.sheet.proofs.Written.{Bytes, drop_bytes}
use Rattle.preorder.specs.Uses.{lowest_twice}
use Rattle.preorder.specs.NumberAnswer.{Answer, done, refused, twice}
use Rattle.numbering.specs.Replies as numbering
use Rattle.syntax.specs.Texts.{text_of, sheet_printed, printed_bytes}
use Rattle.parsing.specs.declared.Reading.{Reading}
use Rattle.parsing.specs.declared.Reading.TheVariants.{Done, Refused, At}
use Rattle.parsing.specs.Answer.{ReadAnswer, sheet, small, met, read_answer, reply_of, output_of}
use Rattle.printing.specs.Answer.{print_answer, print_room}
use Rattle.printing.specs.Small.{text_inside, node_inside}
use Rattle.letters.specs.LoadLaws.{sheet_small}
use Rattle.letters.specs.LookupLaws.{fits_refusal}
use Rattle.letters.specs.Sheets.{numbered_line}
use Rattle.letters.specs.SheetLaws.{fits_node, fits_part, number_reply, reply_line_lem}
use Rattle.letters.specs.SheetTexts.{fault_line, said_line, read_line, print_line}

-- HOW LONG A LINE IS

pub fault_fits : (n p d : ℕ) → n < 256 → p < 2 ^ 64 → d < 256 → length (fault_line n p d) ≤ line_limit
unfolding fault_line no_line words
fault_fits n p d h k l = simp length-append (omega (
  arith,
  decimal_length n 2 (omega arith),
  decimal_length p 19 (omega arith),
  decimal_length d 2 (omega arith),
))

pub done_fits : (k : ℕ) (o : List ℕ) → k ≤ 1619 → length (ok_line (hex_of (take k o) ∷ [])) ≤ line_limit
done_fits k o h = fits_part (take k o) (omega (arith, length-take k o))

pub fits_as : {x y : List ℕ} → x ≡ y → length x ≤ line_limit → length y ≤ line_limit
fits_as e h = rw (← e) h

print_small : (s : List ℕ) {c : ℕ} → printed_bytes s ≡ refused c → c < 256
unfolding printed_bytes sheet_printed
print_small s {c} e = go (read_sheet s) refl e
  where
    once : (sh : Sheet) (b : Bool) → cond b (twice (lowest_twice sh)) (done (text_of sh)) ≡ refused c → c < 256
    once sh true e = let z : ◌≡◌ {A = ℕ} 0 1 = cc in absurd (omega arith)
    once sh false e = let z : ◌≡◌ {A = ℕ} 0 1 = cc in absurd (omega arith)

    go : (r : Result Sheet) → read_sheet s ≡ r → sheet_printed r ≡ refused c → c < 256
    go (ok sh) q e = once sh (ltb (lowest_twice sh) (length sh.nodes)) e
    go (refusal d) q e = let z : d ≡ c = cc in rw (← z) (sheet_small s q)

pub fits_print : (bs : List ℕ) → Bytes bs → length (print_line bs) ≤ line_limit
unfolding print_line numbered_line numbering.reply_of
fits_print bs bytes = go (print_answer (drop 1 bs) 16384) refl
  where
    go : (a : Answer) → print_answer (drop 1 bs) 16384 ≡ a → length (numbered_line a) ≤ line_limit
    go (done t) e = fits_part t (text_inside (drop 1 bs) 16384 refl (drop_bytes 1 bs bytes) (ap numbering.reply_of e))
    go (refused c) e = fits_refusal c (print_small (drop 1 bs) (sym (print_room (drop 1 bs) 16384 (omega arith)) ∙ e))
    go (twice n) e = fits_node 81 n (omega arith) (node_inside (drop 1 bs) 16384 refl (ap numbering.reply_of e))

-- WHAT SHOWS IT OF THE CODE

-- a fault, word by word
pub wrote_fault : (n p d : ℕ) {i₁ i₂ i₃ i₄ r : ℕ} {b b₁ b₂ b₃ b₄ b₅ : List ℕ} → Wrote (0x6E ∷ 0x6F ∷ []) 0 b b₁ i₁
    → Wrote (words (decimal_of n ∷ [])) i₁ b₁ b₂ i₂ → Wrote (words (decimal_of p ∷ [])) i₂ b₂ b₃ i₃ → Wrote (words (decimal_of d ∷ [])) i₃ b₃ b₄ i₄
    → Wrote (0x0A ∷ []) i₄ b₄ b₅ r → Wrote (fault_line n p d) 0 b b₅ r
unfolding fault_line
wrote_fault n p d w c q e feed =
    let N = decimal_of n in
    let P = decimal_of p in
    let D = decimal_of d in
    wrote_no (N ∷ P ∷ D ∷ []) w (wrote_words (N ∷ []) (P ∷ D ∷ []) c (wrote_words (P ∷ []) (D ∷ []) q e)) feed

-- the line of what `read` replied, with its output
unfoldable pub read_reply : Reading → List ℕ → List ℕ
read_reply (Done k) o = ok_line (hex_of (take k o) ∷ [])
read_reply (Refused c) o = refusal_line c
read_reply (At n p d) o = fault_line n p d

said_reply : (a : ReadAnswer) (o : List ℕ) {o' : List ℕ} {r : Reading} → r ≡ reply_of a → o' ≡ output_of a o → read_reply r o' ≡ said_line a
unfolding read_reply said_line reply_of output_of
said_reply (sheet b) o e f = rw (e, f) (ap (λ (x : List ℕ). ok_line (hex_of x ∷ [])) (take-append_seam b (drop (length b) o)))
said_reply small o e f = rw e refl
said_reply (met n p d) o e f = rw e refl

module _ (bs : List ℕ) {s : List ℕ} {n : ℕ} (es : s ≡ drop 1 bs) where
  pub read_is : n ≡ 2048 → (o : List ℕ) {o' : List ℕ} {r : Reading} → (r ≡ reply_of (read_answer s n)) × (o' ≡ output_of (read_answer s n) o)
      → read_reply r o' ≡ read_line bs
  unfolding read_line
  read_is en o (e, f) = said_reply (read_answer s n) o e f ∙ ap₂ (λ x k. said_line (read_answer x k)) es en

  pub print_is : n ≡ 16384 → (o : List ℕ) {o' : List ℕ} {r : numbering.Reply}
      → (r ≡ numbering.reply_of (print_answer s n)) × (o' ≡ numbering.output_of (print_answer s n) o) → number_reply r o' ≡ print_line bs
  unfolding print_line
  print_is en o (e, f) = reply_line_lem (print_answer s n) o e f ∙ ap₂ (λ x k. numbered_line (print_answer x k)) es en

module _ (o : List ℕ) {r : Reading} where
  pub read_done : {k : ℕ} → r ≡ Done k → ok_line (hex_of (take k o) ∷ []) ≡ read_reply r o
  unfolding read_reply
  read_done e = rw e

  pub read_refused : {c : ℕ} → r ≡ Refused c → refusal_line c ≡ read_reply r o
  unfolding read_reply
  read_refused e = rw e

  pub read_fault : {n p d : ℕ} → r ≡ At n p d → fault_line n p d ≡ read_reply r o
  unfolding read_reply
  read_fault e = rw e

-- What `print` replies is small: the length of a text, and the number of a node.
use Rattle.std.proofs.Math.Path.{◌≡◌, refl}
use Rattle.std.proofs.Common.{sym, ◌∙◌, arith}
use Rattle.std.specs.Prelude.{Bool, List, ℕ, ◌≤◌, ◌<◌}
use Rattle.std.proofs.Math.Bool.{true, false, cond}
use Rattle.std.proofs.Math.Decide.{dec_lt}
use Rattle.std.proofs.Math.Dec.{ltb}
use Rattle.std.proofs.Math.ListN.{length}
use borrow.Author.Tests.{ltb-true}
use Rattle.value.specs.Result.{Result, ok, refusal}
use Rattle.sheet.specs.Sheet.{Sheet, read_sheet}
use Rattle.sheet.specs.Laws.{sheet_ranges}
use Rattle.sheet.proofs.Written.{Bytes}
use Rattle.preorder.specs.Uses.{lowest_twice}
use Rattle.preorder.specs.NumberAnswer.{Answer, done, refused, twice}
use Rattle.syntax.specs.Texts.{text_of, sheet_printed, printed_bytes}
use Rattle.syntax.proofs.Short.{printed_short}
use Rattle.numbering.specs.Replies.{Reply, Done, Twice, reply_of}
use Rattle.printing.specs.Answer.{print_answer, print_1, print_room}

module _ (s : List ℕ) (n : ℕ) where
  done_bytes : {t : List ℕ} → print_answer s n ≡ done t → printed_bytes s ≡ done t
  done_bytes {t} e = go (dec_lt n 16384)
    where
      go : Dec (n < 16384) → printed_bytes s ≡ done t
      go (yes h) = let q = print_1 s n h in let z : ◌≡◌ {A = ℕ} 0 1 = cc in absurd (omega arith)
      go (no h) = sym (print_room s n (omega arith)) ∙ e

  twice_bytes : {k : ℕ} → print_answer s n ≡ twice k → printed_bytes s ≡ twice k
  twice_bytes {k} e = go (dec_lt n 16384)
    where
      go : Dec (n < 16384) → printed_bytes s ≡ twice k
      go (yes h) = let q = print_1 s n h in let z : ◌≡◌ {A = ℕ} 0 1 = cc in absurd (omega arith)
      go (no h) = sym (print_room s n (omega arith)) ∙ e

  twice_small : {k : ℕ} → printed_bytes s ≡ twice k → k < 200
  unfolding printed_bytes sheet_printed
  twice_small {k} e = go (read_sheet s) refl e
    where
      pass : (sh : Sheet) → read_sheet s ≡ ok sh → (b : Bool) → ltb (lowest_twice sh) (length sh.nodes) ≡ b
          → cond b (twice (lowest_twice sh)) (done (text_of sh)) ≡ twice k → k < 200
      pass sh q true o z =
          let w : lowest_twice sh ≡ k = cc in
          omega (arith, ltb-true (lowest_twice sh) (length sh.nodes) o, (sheet_ranges s q).few_nodes)
      pass sh q false o z = let w : ◌≡◌ {A = ℕ} 0 1 = cc in absurd (omega arith)

      go : (x : Result Sheet) → read_sheet s ≡ x → sheet_printed x ≡ twice k → k < 200
      go (ok sh) q z = pass sh q (ltb (lowest_twice sh) (length sh.nodes)) refl z
      go (refusal c) q z = let w : ◌≡◌ {A = ℕ} 0 1 = cc in absurd (omega arith)

  module _ {r : Reply} (e : r ≡ reply_of (print_answer s n)) where
    pub text_inside : {k : ℕ} → Bytes s → r ≡ Done k → k ≤ 16384
    unfolding reply_of
    text_inside {k} small f = go (print_answer s n) refl (sym e ∙ f)
      where
        go : (a : Answer) → print_answer s n ≡ a → reply_of a ≡ Done k → k ≤ 16384
        go (done t) q z = let w : k ≡ length t = cc in omega (arith, printed_short s small (done_bytes q))
        go (refused c) q z = let w : ◌≡◌ {A = ℕ} 0 1 = cc in absurd (omega arith)
        go (twice m) q z = let w : ◌≡◌ {A = ℕ} 0 1 = cc in absurd (omega arith)

    pub node_inside : {k : ℕ} → r ≡ Twice k → k < 200
    unfolding reply_of
    node_inside {k} f = go (print_answer s n) refl (sym e ∙ f)
      where
        go : (a : Answer) → print_answer s n ≡ a → reply_of a ≡ Twice k → k < 200
        go (done t) q z = let w : ◌≡◌ {A = ℕ} 0 1 = cc in absurd (omega arith)
        go (refused c) q z = let w : ◌≡◌ {A = ℕ} 0 1 = cc in absurd (omega arith)
        go (twice m) q z = let w : m ≡ k = cc in omega (arith, twice_small (twice_bytes q))

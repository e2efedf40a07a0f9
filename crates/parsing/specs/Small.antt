-- What `read` replies is small: the length of a sheet.
use Rattle.std.proofs.Math.Path.{◌≡◌, refl}
use Rattle.std.proofs.Common.{sym, ap, ◌∙◌, arith}
use Rattle.std.specs.Prelude.{Bool, true, false, cond, leb}
use mathlib.Core.List.{List}
use Prim.Native.Nat.{ℕ, ◌≤◌}
use Rattle.std.proofs.Math.ListN.{length}
use Rattle.sheet.proofs.Ranging.{written_short}
use Rattle.syntax.specs.Reader.{Said, says, refused, sheet_of}
use Rattle.syntax.specs.Trees.{trees_ranges}
use Rattle.syntax.proofs.TextsBack.{read_met}
use Rattle.parsing.specs.declared.Reading.{Reading}
use Rattle.parsing.specs.declared.Reading.TheVariants.{Done}
use Rattle.parsing.specs.Answer.{ReadAnswer, sheet, small, met, answer_of, read_answer, reply_of}

pub said_short : (t : List ℕ) {b : List ℕ} → sheet_of t ≡ says b → length b ≤ 1619
said_short t e =
    let r = read_met t e in
    let m = r.met in
    rw r.written (written_short (trees_ranges m.trees m.root m.k m.few_nodes m.few_sections))

module _ (t : List ℕ) (n : ℕ) where
  pub sheet_short : {b : List ℕ} → read_answer t n ≡ sheet b → length b ≤ 1619
  unfolding read_answer answer_of
  sheet_short {b} e = pass (leb 2048 n) e
    where
      of : ReadAnswer → List ℕ
      of (sheet x) = x
      of small = b
      of (met c p d) = b

      go : (x : Said) → sheet_of t ≡ x → answer_of x ≡ sheet b → length b ≤ 1619
      go (says y) q z = let w : y ≡ b = ap of z in said_short t (q ∙ ap says w)
      go (refused c p d) q z = let w : ◌≡◌ {A = ℕ} 0 1 = cc in absurd (omega arith)

      pass : (p : Bool) → cond p (answer_of (sheet_of t)) small ≡ sheet b → length b ≤ 1619
      pass true z = go (sheet_of t) refl z
      pass false z = let w : ◌≡◌ {A = ℕ} 0 1 = cc in absurd (omega arith)

  pub sheet_inside : {r : Reading} {k : ℕ} → r ≡ reply_of (read_answer t n) → r ≡ Done k → k ≤ 1619
  unfolding reply_of
  sheet_inside {r} {k} e f = go (read_answer t n) refl (sym e ∙ f)
    where
      go : (a : ReadAnswer) → read_answer t n ≡ a → reply_of a ≡ Done k → k ≤ 1619
      go (sheet b) q z = let w : length b ≡ k = cc in omega (arith, sheet_short q)
      go small q z = let w : ◌≡◌ {A = ℕ} 0 1 = cc in absurd (omega arith)
      go (met c p d) q z = let w : ◌≡◌ {A = ℕ} 0 1 = cc in absurd (omega arith)

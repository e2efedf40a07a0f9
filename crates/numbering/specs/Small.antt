-- What `number` replies is small: the length of a sheet, and the number of a node.
use Rattle.std.proofs.Math.Path.{◌≡◌, refl}
use Rattle.std.proofs.Common.{sym, ◌∙◌, arith}
use Rattle.std.specs.Prelude.{List, ℕ, ◌≤◌, ◌<◌}
use Rattle.std.proofs.Math.ListN.{length}
use Rattle.sheet.specs.Laws.{sheet_ranges}
use Rattle.preorder.specs.NumberAnswer.{Answer, done, refused, twice, number_answer}
use Rattle.preorder.proofs.NumberingCalls.{numbered_told, numbered_short}
use Rattle.preorder.proofs.UsedTwice.{twice_told}
use Rattle.numbering.specs.Replies.{Reply, Done, Twice, reply_of}

module _ (s : List ℕ) (n : ℕ) where
  twice_small : {k : ℕ} → number_answer s n ≡ twice k → k < 200
  twice_small e = let u = twice_told s n e in omega (arith, u.inside, (sheet_ranges s u.read).few_nodes)

  module _ {r : Reply} (e : r ≡ reply_of (number_answer s n)) where
    pub sheet_inside : {k : ℕ} → r ≡ Done k → k ≤ 1619
    unfolding reply_of
    sheet_inside {k} f = go (number_answer s n) refl (sym e ∙ f)
      where
        go : (a : Answer) → number_answer s n ≡ a → reply_of a ≡ Done k → k ≤ 1619
        go (done t) q z = let w : k ≡ length t = cc in omega (arith, numbered_short (numbered_told s n q))
        go (refused c) q z = let w : ◌≡◌ {A = ℕ} 0 1 = cc in absurd (omega arith)
        go (twice m) q z = let w : ◌≡◌ {A = ℕ} 0 1 = cc in absurd (omega arith)

    pub node_inside : {k : ℕ} → r ≡ Twice k → k < 200
    unfolding reply_of
    node_inside {k} f = go (number_answer s n) refl (sym e ∙ f)
      where
        go : (a : Answer) → number_answer s n ≡ a → reply_of a ≡ Twice k → k < 200
        go (done t) q z = let w : ◌≡◌ {A = ℕ} 0 1 = cc in absurd (omega arith)
        go (refused c) q z = let w : ◌≡◌ {A = ℕ} 0 1 = cc in absurd (omega arith)
        go (twice m) q z = let w : m ≡ k = cc in rw (← w) (twice_small q)

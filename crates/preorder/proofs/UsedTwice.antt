-- What 81 tells: the node is used twice as a child or a root, and none below it is.
use Rattle.std.specs.Prelude.{◌≡◌, refl, Bool, true, false, cond, List, ℕ, zero, suc, ◌+◌, ◌≤◌, ◌<◌, leb, ltb, length}
use Rattle.std.proofs.Common.{ap, arith, ltb-true}
use Rattle.std.proofs.Math.Decide.{ℕ_discrete, dec_le}
use Rattle.value.specs.Result.{Result, ok, refusal}
use Rattle.sheet.specs.Sheet.{Sheet, read_sheet}
use Rattle.sheet.specs.Rows.{sheet_written}
use Rattle.preorder.specs.Numbering.{numbered}
use Rattle.preorder.specs.NumberingLaws.{uses}
use Rattle.preorder.specs.Uses.{times, lowest_from, lowest_twice, lowest_here, lowest_later}
use Rattle.preorder.specs.NumberAnswer.{done, refused, twice, sheet_answer, number_answer}
use Rattle.preorder.specs.UsedTwice.{UsedTwice}

lowest_found : (n left : ℕ) (l : List ℕ) → lowest_from n left l < n + left → 2 ≤ times (lowest_from n left l) l
unfolding lowest_from
lowest_found n zero l h = absurd (omega arith)
lowest_found n (suc left) l h = go (dec_le 2 (times n l)) (λ z. lowest_found (suc n) left l z)
  where
    go : Dec (2 ≤ times n l) → (lowest_from (suc n) left l < suc n + left → 2 ≤ times (lowest_from (suc n) left l) l) → 2 ≤ times (lowest_from n (suc left) l) l
    go (yes y) f = let e : lowest_from n (suc left) l ≡ n = lowest_here n left l y in omega (arith, ap (λ k. times k l) e)
    go (no y) f =
        let e : lowest_from n (suc left) l ≡ lowest_from (suc n) left l = lowest_later n left l (omega arith) in
        omega (arith, ap (λ k. times k l) e, f (omega arith))

lowest_below : (n left : ℕ) (l : List ℕ) (j : ℕ) → n ≤ j → j < lowest_from n left l → times j l ≤ 1
unfolding lowest_from
lowest_below n zero l j a b = absurd (omega arith)
lowest_below n (suc left) l j a b = go (dec_le 2 (times n l)) (ℕ_discrete n j) (λ c d. lowest_below (suc n) left l j c d)
  where
    go : Dec (2 ≤ times n l) → Dec (n ≡ j) → (suc n ≤ j → j < lowest_from (suc n) left l → times j l ≤ 1) → times j l ≤ 1
    go (yes y) q f = absurd (omega (arith, lowest_here n left l y))
    go (no y) (yes q) f = omega (arith, ap (λ k. times k l) q)
    go (no y) (no q) f = let e : lowest_from n (suc left) l ≡ lowest_from (suc n) left l = lowest_later n left l (omega arith) in f (omega arith) (omega arith)

pub twice_told : (s : List ℕ) (n : ℕ) {k : ℕ} → number_answer s n ≡ twice k → UsedTwice s k
unfolding number_answer sheet_answer lowest_twice
twice_told s n {k} e = pass (leb 2048 n) e
  where
    told : (sh : Sheet) → read_sheet s ≡ ok sh → (b : Bool) → ltb (lowest_twice sh) (length sh.nodes) ≡ b
        → cond b (twice (lowest_twice sh)) (done (sheet_written (numbered sh))) ≡ twice k → UsedTwice s k
    told sh q true o e =
        let z : k ≡ lowest_twice sh = cc in
        let i = ltb-true (lowest_twice sh) (length sh.nodes) o in
        rw z (record {
          sheet = sh;
          read = q;
          inside = i;
          used = lowest_found 0 (length sh.nodes) (uses sh) (omega arith);
          lowest = λ j h. lowest_below 0 (length sh.nodes) (uses sh) j (omega arith) h;
        })
    told sh q false o e = let z : ◌≡◌ {A = ℕ} 0 1 = cc in absurd (omega arith)

    go : (r : Result Sheet) → read_sheet s ≡ r → sheet_answer r ≡ twice k → UsedTwice s k
    go (ok sh) q e = told sh q (ltb (lowest_twice sh) (length sh.nodes)) refl e
    go (refusal c) q e = let z : ◌≡◌ {A = ℕ} 0 1 = cc in absurd (omega arith)

    pass : (b : Bool) → cond b (sheet_answer (read_sheet s)) (refused 1) ≡ twice k → UsedTwice s k
    pass true e = go (read_sheet s) refl e
    pass false e = let z : ◌≡◌ {A = ℕ} 0 1 = cc in absurd (omega arith)

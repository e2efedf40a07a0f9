-- How often a node is used as a child or a root, and the lowest that is used twice (81).
use Rattle.std.specs.Prelude.{◌≡◌, List, ℕ, zero, suc, ◌+◌, ◌≤◌, ◌<◌, length}
use Rattle.std.proofs.Common.{◌∙◌, arith}
use Rattle.std.proofs.Math.Decide.{ℕ_discrete, dec_le}
use Rattle.sheet.specs.Sheet.{Sheet}
use Rattle.rules.specs.Explain.Chain.{◌∈◌}
use Rattle.preorder.specs.NumberingLaws.{Once, uses}
use Rattle.preorder.specs.Uses.{times, lowest_from, lowest_twice, once_times, times_once, lowest_here, lowest_later}

-- where none is, each stands at most once
pub lowest_none : (n left : ℕ) (l : List ℕ) → n + left ≤ lowest_from n left l → (k : ℕ) → n ≤ k → k < n + left → times k l ≤ 1
lowest_none n zero l e k a b = absurd (omega arith)
lowest_none n (suc left) l e k a b = go (dec_le 2 (times n l)) (ℕ_discrete n k) (λ z. lowest_none (suc n) left l z k)
  where
    go : Dec (2 ≤ times n l) → Dec (n ≡ k) → (suc n + left ≤ lowest_from (suc n) left l → suc n ≤ k → k < suc n + left → times k l ≤ 1) → times k l ≤ 1
    go (yes h) d f = absurd (omega (arith, lowest_here n left l h))
    go (no h) (yes q) f = let z : times n l < 2 = omega arith in rw (← q) (omega arith)
    go (no h) (no q) f = let z : times n l < 2 = omega arith in f (omega (arith, lowest_later n left l z)) (omega arith) (omega arith)

-- and where each does, none is
pub none_lowest : (n left : ℕ) (l : List ℕ) → ((k : ℕ) → times k l ≤ 1) → lowest_from n left l ≡ n + left
unfolding lowest_from
none_lowest n zero l h = omega arith
none_lowest n (suc left) l h = lowest_later n left l (omega (arith, h n)) ∙ none_lowest (suc n) left l h ∙ omega arith

-- so of a sheet: no node is used twice
pub all_once : (sh : Sheet) → length sh.nodes ≤ lowest_twice sh → ((n : ℕ) → n ∈ uses sh → n < length sh.nodes) → Once (uses sh)
unfolding lowest_twice
all_once sh h inside = times_once (uses sh) (λ n i. let z = inside n i in
    lowest_none 0 (length sh.nodes) (uses sh) (omega arith) n (omega arith) (omega arith))

pub once_all : (sh : Sheet) → Once (uses sh) → lowest_twice sh ≡ length sh.nodes
unfolding lowest_twice
once_all sh o = none_lowest 0 (length sh.nodes) (uses sh) (once_times (uses sh) o) ∙ omega arith

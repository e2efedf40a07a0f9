-- 81 is one refusal: the check by types (document 02, request 6) and the numbering (request 12) tell it of the same sheets, with the same node.
use Rattle.std.proofs.Math.Path.{◌≡◌}
use Rattle.std.specs.Prelude.{refl, Bool, cond, List, [], ◌∷◌, ◌++◌, ℕ, zero, suc, ◌+◌, ◌≤◌, ◌<◌, eqb, leb, ltb, length, take}
use Rattle.std.proofs.Common.{sym, ap, ◌∙◌, append_assoc, append-nil, zero-add, arith, take_all, take-suc, eq-eqb, ne_eqb, lt-ltb, le-ltb, le-leb}
use Rattle.std.proofs.Math.Option.{Option, none, some}
use Rattle.std.proofs.Math.Decide.{ℕ_discrete, dec_lt}
use Rattle.std.proofs.lemmas.Bool.{lt-leb}
use Rattle.node.specs.declared.Node.{Node}
use Rattle.node.specs.declared.Node.TheVariants.{False}
use Rattle.node.specs.Kinds.{children}
use Rattle.value.specs.Result.{ok}
use Rattle.sheet.specs.Sheet.{Sheet, read_sheet}
use Rattle.preorder.specs.Numbering.{roots}
use Rattle.preorder.specs.NumberingLaws.{all_children, uses}
use Rattle.preorder.specs.NumberAnswer.{Answer, number_answer, number_twice, number_done}
use Rattle.preorder.specs.Uses.{times, times_here, times_there, lowest_from, lowest_twice}
use Rattle.typing.specs.Fits.{node_of}
use Rattle.typing.specs.Types.{Ty}
use Rattle.typing.specs.Check.{count, used, twice, lowest, Verdict, unless_at, unfit, many, lent_of, read_all, check_sheet, on_types, on_sheet, check}

-- how often a node stands in a list
counted : (n : ℕ) (l : List ℕ) → count n l ≡ times n l
unfolding count times
counted n [] = refl
counted n (m ∷ l) = go (ℕ_discrete m n) (counted n l)
  where
    go : Dec (m ≡ n) → count n l ≡ times n l → cond (eqb n m) 1 0 + count n l ≡ times n (m ∷ l)
    go (yes q) e = rw (eq-eqb n m (sym q)) (omega (arith, e, times_here n l q))
    go (no q) e = rw (ne_eqb n m (λ k. q (sym k))) (omega (arith, e, times_there l q))

-- the roots and the children of the first nodes
children_more : (xs : List Node) (n : Node) → all_children (xs ++ n ∷ []) ≡ all_children xs ++ children n
children_more [] n = append-nil (children n)
children_more (x ∷ xs) n = ap (λ l. children x ++ l) (children_more xs n) ∙ sym (append_assoc (children x) (all_children xs) (children n))

used_are : (sh : Sheet) (i : ℕ) → i ≤ length sh.nodes → used sh i ≡ roots sh ++ all_children (take i sh.nodes)
unfolding used roots
used_are sh zero h = sym (append-nil (sh.root ∷ sh.sections))
used_are sh (suc i) h =
    let ns = sh.nodes in
    let more : all_children (take (suc i) ns) ≡ all_children (take i ns) ++ children (node_of sh i)
    = ap all_children (take-suc ns i False h) ∙ children_more (take i ns) (node_of sh i) in
    ap (λ l. l ++ children (node_of sh i)) (used_are sh i (omega arith)) ∙ append_assoc (roots sh) (all_children (take i ns)) (children (node_of sh i))
    ∙ ap (λ l. roots sh ++ l) (sym more)

all_used : (sh : Sheet) → used sh (length sh.nodes) ≡ uses sh
unfolding uses
all_used sh =
    let ns = sh.nodes in
    used_are sh (length ns) (omega arith) ∙ ap (λ (l : List Node). roots sh ++ all_children l) (take_all (length ns) ns (omega arith))

-- a node is used twice
judged : (sh : Sheet) (n : ℕ) → twice sh n ≡ leb 2 (times n (uses sh))
unfolding twice
judged sh n = rw (all_used sh, counted n (uses sh))

-- the lowest of the numbers before `end`, or none
abbrev told : (lowest end : ℕ) → Option ℕ
told n end = cond (ltb n end) (some n) none

lowest_is : (p : ℕ → Bool) (l : List ℕ) → ((n : ℕ) → p n ≡ leb 2 (times n l)) → (i left : ℕ) → lowest p i left ≡ told (lowest_from i left l) (i + left)
unfolding lowest lowest_from
lowest_is p l e i zero = rw (le-ltb i (i + 0) (omega arith))
lowest_is p l e i (suc left) = go (dec_lt 1 (times i l)) (lowest_is p l e (suc i) left)
  where
    go : Dec (1 < times i l) → lowest p (suc i) left ≡ told (lowest_from (suc i) left l) (suc i + left)
        → cond (p i) (some i) (lowest p (suc i) left) ≡ told (lowest_from i (suc left) l) (i + suc left)
    go (yes h) f = rw (e i, le-leb 2 (times i l) (omega arith), lt-ltb i (i + suc left) (omega arith))
    go (no h) f = let q : suc i + left ≡ i + suc left = omega arith in rw (e i, lt-leb 2 (times i l) (omega arith)) (rw q at f)

-- the lowest node that is used twice is the same by both definitions
pub same_node : (sh : Sheet) → lowest (twice sh) 0 (length sh.nodes) ≡ told (lowest_twice sh) (length sh.nodes)
unfolding lowest_twice
same_node sh = rw zero-add at (lowest_is (twice sh) (uses sh) (judged sh) 0 (length sh.nodes))

-- OF WHOLE CALLS ON BYTES: a sheet that can be read, with types that can be read beside it, and an output that is long enough for the numbering

apart : {A : Type 0} → ◌≡◌ {A = ℕ} 0 1 → A
apart e = absurd (omega arith)

module _ (s types : List ℕ) {sh : Sheet} {ts : List Ty} (read : read_sheet s ≡ ok sh) (lent : read_all (many sh) types ≡ some ts) where
  checked_is : check s types ≡ unless_at 81 (told (lowest_twice sh) (length sh.nodes))
      (unless_at 82 (lowest (unfit sh (lent_of sh ts)) 0 (length sh.nodes)) Verdict.passes)
  unfolding check on_sheet on_types check_sheet
  checked_is = rw (read, lent, same_node sh)

  module _ (output : ℕ) (room : 2048 ≤ output) where
    -- a node is used twice: both tell it
    pub both_81 : lowest_twice sh < length sh.nodes
        → (number_answer s output ≡ Answer.twice (lowest_twice sh)) × (check s types ≡ Verdict.refused_at 81 (lowest_twice sh))
    unfolding unless_at
    both_81 h = (number_twice s output room read h, checked_is ∙ rw (lt-ltb (lowest_twice sh) (length sh.nodes) h))

    -- none is: neither does
    pub neither_81 : length sh.nodes ≤ lowest_twice sh → (n : ℕ)
        → (number_answer s output ≡ Answer.twice n → ⊥) × (check s types ≡ Verdict.refused_at 81 n → ⊥)
    unfolding unless_at
    neither_81 h n = (
      λ e. let d = number_done s output room read h in apart (cc),
      λ e. go (lowest (unfit sh (lent_of sh ts)) 0 (length sh.nodes)) (sym checked_is ∙ e),
    )
      where
        go : (o : Option ℕ) → unless_at 81 (told (lowest_twice sh) (length sh.nodes)) (unless_at 82 o Verdict.passes) ≡ Verdict.refused_at 81 n → ⊥
        go none e = let z = rw (le-ltb (lowest_twice sh) (length sh.nodes) h) at e in apart (cc)
        go (some m) e =
            let z = rw (le-ltb (lowest_twice sh) (length sh.nodes) h) at e in
            let q : ◌≡◌ {A = ℕ} 82 81 = cc in
            absurd (omega arith)

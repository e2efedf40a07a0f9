-- WHICH NODES HAVE NO CASE IN THEM: marks from the last node to the first are those of the definition.
use Rattle.std.specs.Prelude.{◌≡◌, Bool, true, false, ◌&&◌, cond, leb, length, get_or, set}
use Rattle.std.proofs.Math.Path.{refl, ap}
use Rattle.std.proofs.Common.{sym, ◌∙◌, arith, get_or-set_same, get_or-set_other, le-leb}
use mathlib.Core.List.{List, [], ◌∷◌}
use Prim.Native.Nat.{ℕ, zero, suc, ◌+◌, ◌≤◌, ◌<◌}
use Rattle.std.proofs.Math.Decide.{ℕ_discrete}
use Rattle.std.proofs.lemmas.Bool.{lt-leb}
use Rattle.node.specs.declared.Node.{Node}
use Rattle.sheet.specs.declared.Table.{Table}
use Rattle.node.specs.Kinds.{children}
use Rattle.sheet.specs.Sheet.{Sheet}
use Rattle.node.specs.Decoding.{node_at}
use Rattle.sheet.specs.Laws.{Reads, Ranges, Child}
use Rattle.sheet.specs.Rows.{Every}
use Rattle.sheet.proofs.Ranging.{children_in}
use Rattle.preorder.specs.Numbering.{node_of}
use Rattle.syntax.specs.Printer.{no_case, all_plain, plain_from, plain_node}

-- node n is marked
unfoldable pub flat_in : List Bool → ℕ → Bool
flat_in plain n = cond (leb 200 n) false (get_or plain n false)

unfoldable pub plain_of : List Bool → Node → Bool
plain_of plain n = no_case n && all_plain (flat_in plain) (children n)

pub flat_past : (plain : List Bool) (n : ℕ) → 200 ≤ n → flat_in plain n ≡ false
unfolding flat_in
flat_past plain n h = rw (le-leb 200 n h)

pub flat_there : (plain : List Bool) (n : ℕ) → n < 200 → flat_in plain n ≡ get_or plain n false
unfolding flat_in
flat_there plain n h = rw (lt-leb 200 n h)

and-true : (b : Bool) → b && true ≡ b
and-true true = refl
and-true false = refl

pub both_yes : (f : ℕ → Bool) (a b : ℕ) {p r : Bool} → p ≡ f a → p ≡ true → r ≡ f b → r ≡ all_plain f (a ∷ b ∷ [])
unfolding all_plain
both_yes f a b e h q = q ∙ sym (ap (λ z. z && (f b && true)) (sym e ∙ h) ∙ and-true (f b))

pub both_no : (f : ℕ → Bool) (a b : ℕ) {p : Bool} → p ≡ f a → p ≡ false → false ≡ all_plain f (a ∷ b ∷ [])
unfolding all_plain
both_no f a b e h = sym (ap (λ z. z && (f b && true)) (sym e ∙ h))

pub one_is : (f : ℕ → Bool) (a : ℕ) → all_plain f (a ∷ []) ≡ f a
unfolding all_plain
one_is f a = and-true (f a)

-- LEVELS: enough are enough
module _ {sh : Sheet} (r : Ranges sh) where
  abbrev N : ℕ
  N = length sh.nodes

  all_same : (f g : ℕ → Bool) (own : ℕ) → ((c : ℕ) → Child N own c → f c ≡ g c) → (ns : List ℕ) → Every (Child N own) ns → all_plain f ns ≡ all_plain g ns
  unfolding all_plain
  all_same f g own h [] e = refl
  all_same f g own h (n ∷ ns) e = rw (h n e.0, all_same f g own h ns e.1)

  levels : (l m n : ℕ) → n < N → N ≤ n + l → N ≤ n + m → plain_from l sh n ≡ plain_from m sh n
  unfolding plain_from
  levels zero m n h d e = absurd (omega arith)
  levels (suc l) zero n h d e = absurd (omega arith)
  levels (suc l) (suc m) n h d e = ap (λ z. no_case (node_of sh n) && z)
      (all_same (plain_from l sh) (plain_from m sh) n (λ c g. levels l m c g.inside (omega (arith, g.above)) (omega (arith, g.above))) (children
      (node_of sh n))
      (children_in r n h))

-- the marks from node n on
pub record Flats (sh : Sheet) (n : ℕ) (plain : List Bool) : Type 0 where
  pub told : (i : ℕ) → n ≤ i → i < length sh.nodes → get_or plain i false ≡ plain_node sh i

pub flats_none : {s : List ℕ} {t : Table} {sh : Sheet} {plain : List Bool} → Reads s t sh → Flats sh t.nodes plain
flats_none r = record { told = λ i h d. absurd (omega (arith, r.nodes)) }

pub flats_all : {sh : Sheet} {n : ℕ} {plain : List Bool} → Flats sh n plain → n ≤ 0 → Flats sh 0 plain
flats_all f h = record { told = λ i z d. f.told i (omega arith) d }

pub flats_more : {s : List ℕ} {t : Table} {sh : Sheet} {n m : ℕ} {plain : List Bool} {x : Node} {b : Bool} → Reads s t sh → Flats sh m plain → m ≡ suc n
    → m ≤ t.nodes → length plain ≡ 200 → x ≡ node_at s (get_or t.starts n 0) → b ≡ plain_of plain x → Flats sh n (set plain n b)
unfolding plain_from plain_of
flats_more {s} {t} {sh} {n} {m} {plain} {x} {b} r f e few long at p = record { told = λ i h d. go i h d (ℕ_discrete i n) }
  where
    inside : n < length sh.nodes
    inside = omega (arith, r.nodes)

    kid : (l : ℕ) → length sh.nodes ≡ suc l → (c : ℕ) → Child (length sh.nodes) n c → flat_in plain c ≡ plain_from l sh c
    kid l z c g =
        flat_there plain c (omega (arith, g.inside, r.ranges.few_nodes)) ∙ f.told c (omega (arith, g.above)) g.inside
        ∙ levels r.ranges (length sh.nodes) l c g.inside (omega arith) (omega (arith, g.above))

    own : (l : ℕ) → length sh.nodes ≡ l → plain_of plain (node_of sh n) ≡ plain_from l sh n
    own zero z = absurd (omega (arith, inside))
    own (suc l) z = ap (λ w. no_case (node_of sh n) && w)
        (all_same r.ranges (flat_in plain) (plain_from l sh) n (kid l z) (children (node_of sh n)) (children_in r.ranges n inside))

    go : (i : ℕ) → n ≤ i → i < length sh.nodes → Dec (i ≡ n) → get_or (set plain n b) i false ≡ plain_node sh i
    go i h d (yes z) =
        let there : n < length plain = omega (arith, r.ranges.few_nodes, inside) in
        ap (λ k. get_or (set plain n b) k false) z ∙ get_or-set_same plain n b false there ∙ p
        ∙ ap (plain_of plain) (at ∙ r.node n inside) ∙ own (length sh.nodes) refl ∙ ap (plain_node sh) (sym z)
    go i h d (no z) = get_or-set_other plain n i b false z ∙ f.told i (omega arith) d

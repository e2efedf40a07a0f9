-- Laws of the counts: what each node adds up, and the capped ones.
use Rattle.std.specs.Prelude.{◌≡◌, refl}
use Rattle.std.proofs.Math.Path.{sym, ap}
use Rattle.std.proofs.Common.{◌∙◌}
use mathlib.Core.List.{List, [], ◌∷◌}
use Prim.Native.Nat.{ℕ, zero, suc, ◌+◌, ◌-◌, ◌≤◌, ◌<◌, min}
use native.Mathlib.Omega.{arith}
use Rattle.std.proofs.Math.Nat.{add-zero, zero-add}
use Rattle.std.proofs.Math.Decide.{dec_lt}
use Rattle.std.proofs.Math.ListN.{length, get_or, get_or-eq_default}
use Rattle.node.specs.declared.Node.{Node}
use Rattle.node.specs.declared.Node.TheVariants.{False}
use Rattle.node.specs.Kinds.{children, variables}
use Rattle.sheet.specs.Rows.{Every}
use Rattle.sheet.proofs.Rows.{children_behind}
use Rattle.sheet.specs.Sheet.{Sheet}
use Rattle.sheet.specs.Laws.{Child, Ranges}
use Rattle.growth.specs.Growth.{own, total, walked, entered, capped_from, capped}

total_ext : (f g : ℕ → ℕ) (cs : List ℕ) → Every (λ c. f c ≡ g c) cs → total f cs ≡ total g cs
total_ext f g [] h = refl
total_ext f g (c ∷ cs) h = let q = total_ext f g cs h.1 in omega (arith, h.0)

every_map : {P Q : ℕ → Type 0} (cs : List ℕ) → ((c : ℕ) → P c → Q c) → Every P cs → Every Q cs
every_map [] f h = tt
every_map (c ∷ cs) f h = (f c h.0, every_map cs f h.1)

module _ (sh : Sheet) (ranges : Ranges sh) where
  -- behind the last node there is none
  past_end : (n : ℕ) → length sh.nodes ≤ n → get_or sh.nodes n False ≡ False
  past_end n h = get_or-eq_default sh.nodes False h

  behind : (n : ℕ) → Every (Child (length sh.nodes) n) (children (get_or sh.nodes n False))
  unfolding children
  behind n = go (dec_lt n (length sh.nodes))
    where
      go : Dec (n < length sh.nodes) → Every (Child (length sh.nodes) n) (children (get_or sh.nodes n False))
      go (yes h) = children_behind (length sh.nodes) (length sh.sections) n (get_or sh.nodes n False) (ranges.node n h)
      go (no h) = rw (past_end n (omega arith)) tt

  all_behind : (Q : ℕ → Type 0) (n : ℕ) → ((c : ℕ) → n < c → Q c) → Every Q (children (get_or sh.nodes n False))
  all_behind Q n f = every_map {P = Child (length sh.nodes) n} {Q = Q} (children (get_or sh.nodes n False)) (λ c k. f c k.above) (behind n)

  -- levels that no walk has
  more_levels : (x l n : ℕ) → length sh.nodes ≤ n + l → walked (suc l) sh x n ≡ walked l sh x n
  unfolding walked own children variables
  more_levels x zero n h = rw (past_end n (omega arith))
  more_levels x (suc l) n h = ap (λ (t : ℕ). own x (get_or sh.nodes n False) + t)
      (total_ext (walked (suc l) sh x) (walked l sh x) (children (get_or sh.nodes n False))
      (all_behind (λ c. walked (suc l) sh x c ≡ walked l sh x c) n λ c k. more_levels x l c (omega arith)))

  -- what a node adds up
  pub entered_at : (x n : ℕ) → entered sh x n ≡ own x (get_or sh.nodes n False) + total (entered sh x) (children (get_or sh.nodes n False))
  unfolding entered walked
  entered_at x n = sym (more_levels x (length sh.nodes) n (omega arith))

  -- THE CAPPED ONES

  capped_total : (f : ℕ → ℕ) (a : ℕ) (cs : List ℕ) → min 257 (a + total (λ c. min 257 (f c)) cs) ≡ min 257 (a + total f cs)
  capped_total f a [] = refl
  capped_total f a (c ∷ cs) = let q = capped_total f (a + min 257 (f c)) cs in omega arith

  pub none_behind : (x n : ℕ) → length sh.nodes ≤ n → entered sh x n ≡ 0
  unfolding own children variables
  none_behind x n h = entered_at x n ∙ rw (past_end n h)

  -- the count of node `from`, of capped counts behind it
  pub one_capped : (x from : ℕ) (cs : ℕ → ℕ) → ((c : ℕ) → from < c → cs c ≡ min 257 (entered sh x c))
      → min 257 (own x (get_or sh.nodes from False) + total cs (children (get_or sh.nodes from False))) ≡ min 257 (entered sh x from)
  one_capped x from cs h = ap (λ (t : ℕ). min 257 (own x (get_or sh.nodes from False) + t))
      (total_ext cs (λ c. min 257 (entered sh x c)) (children (get_or sh.nodes from False)) (all_behind (λ c. cs c ≡ min 257 (entered sh x c)) from h))
      ∙ capped_total (entered sh x) (own x (get_or sh.nodes from False)) (children (get_or sh.nodes from False)) ∙ ap (min 257) (sym (entered_at x from))

  -- ns are the nodes from `from` on
  abbrev From : ℕ → List Node → Type 0
  From from ns = (from + length ns ≡ length sh.nodes) × ((i : ℕ) → get_or ns i False ≡ get_or sh.nodes (from + i) False)

  from_next : (from : ℕ) (n : Node) (ns : List Node) → From from (n ∷ ns) → From (suc from) ns
  from_next from n ns h = (omega (arith, h.0), λ i. let q : suc from + i ≡ from + suc i = omega arith in rw q (h.1 (suc i)))

  pub capped_from_lem : (x from : ℕ) (ns : List Node) → From from ns → (i : ℕ) → get_or (capped_from x from ns) i 0 ≡ min 257 (entered sh x (from + i))
  unfolding capped_from
  capped_from_lem x from [] h i = rw (none_behind x (from + i) (omega (arith, h.0)))
  capped_from_lem x from (n ∷ ns) h zero =
      let q : n ≡ get_or sh.nodes from False = rw add-zero at (h.1 0) in
      rw (q, add-zero) (one_capped x from (λ c. get_or (capped_from x (suc from) ns) (c - suc from) 0) λ c k.
      let z : suc from + (c - suc from) ≡ c = omega arith in
      rw z at (capped_from_lem x (suc from) ns (from_next from n ns h) (c - suc from)))
  capped_from_lem x from (n ∷ ns) h (suc i) =
      let q : suc from + i ≡ from + suc i = omega arith in rw q at (capped_from_lem x (suc from) ns (from_next from n ns h) i)

  -- the capped count of the root is the count where that is at most 256, and over 256 where it is over
  pub capped_is : (x : ℕ) → capped sh x ≡ min 257 (entered sh x sh.root)
  unfolding capped
  capped_is x = rw zero-add at (capped_from_lem x 0 sh.nodes (omega arith, λ i. rw zero-add) sh.root)

  pub capped_exact : (x : ℕ) → entered sh x sh.root ≤ 256 → capped sh x ≡ entered sh x sh.root
  capped_exact x h = let q = capped_is x in omega arith

  pub capped_over : (x : ℕ) → 256 < entered sh x sh.root → 256 < capped sh x
  capped_over x h = let q = capped_is x in omega arith

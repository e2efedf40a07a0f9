-- NODES AS THEY ARE MET: each behind its parent, with all below it before the next child. A sheet of such nodes is in range, uses each node once, and
-- request 12 gives it back unchanged.
use Rattle.std.specs.Prelude.{◌≡◌, ◌⊎◌, get_or}
use Rattle.std.proofs.Math.Path.{refl, ap, subst}
use Rattle.std.proofs.Common.{sym, ◌∙◌, inl, inr, zero-add, get_or-append-add}
use mathlib.Core.List.{List, [], ◌∷◌, ◌++◌, append-nil, append_assoc}
use Prim.Native.Nat.{ℕ, zero, suc, ◌+◌, ◌-◌, ◌≤◌, ◌<◌}
use native.Mathlib.Omega.{arith}
use Rattle.std.proofs.Math.Decide.{dec_lt}
use Rattle.std.proofs.Math.ListN.{length, length-append, get_or-append}
use Rattle.node.specs.declared.Node.{Node}
use Rattle.node.specs.declared.Node.TheVariants.{False}
use Rattle.node.specs.Kinds.{Role, a_node, a_section, a_variable, a_test, a_number, a_wide, Field, ◌of◌, row, pick, children}
use Rattle.sheet.specs.Sheet.{Sheet}
use Rattle.sheet.specs.Laws.{Child, InRange, AllFit, Ranged, Ranges}
use Rattle.sheet.specs.Rows.{Every}
use Rattle.rules.specs.Answer.{count}
use Rattle.rules.specs.Explain.Chain.{◌∈◌, here, there}
use Rattle.preorder.specs.Numbering.{gathered, node_of, met_from, roots, order, numbered, in_front, in_behind, in_either, every_at, every_of}
use Rattle.preorder.specs.NumberingLaws.{Once, all_children, uses, once_both}
use Rattle.preorder.proofs.NumberingLaws.{numbered_still}

-- the numbers of a node that name no node
module _ (sections : ℕ) where
  abbrev pub Keeps : Role → ℕ → Type 0
  Keeps a_node v = Unit {0}
  Keeps a_section v = v < sections
  Keeps a_variable v = v < 256
  Keeps a_test v = v ≤ 6
  Keeps a_number v = v ≤ 65535
  Keeps a_wide v = (65535 < v) × (v ≤ 4294967295)

  abbrev pub AllKeep : List Field → Type 0
  AllKeep [] = Unit {0}
  AllKeep (f ∷ fs) = Keeps f.role f.value × AllKeep fs

-- these nodes, numbered from m on, are the trees of these roots
pub data Trees (sections : ℕ) : ℕ → List ℕ → List Node → Type 0 where
  none : {m : ℕ} → Trees sections m [] []
  more : {m : ℕ} {cs : List ℕ} {below others : List Node} (x : Node) → AllKeep sections (row x).body → Trees sections (suc m) (children x) below
      → Trees sections (m + suc (length below)) cs others → Trees sections m (m ∷ cs) (x ∷ below ++ others)

abbrev pub Tree : ℕ → ℕ → List Node → Type 0
Tree S m ns = Trees S m (m ∷ []) ns

module _ {S : ℕ} where
  -- a tree, and others behind it
  pub join : {m k : ℕ} {cs : List ℕ} {ns os : List Node} → Trees S m (k ∷ []) ns → Trees S (m + length ns) cs os → Trees S m (k ∷ cs) (ns ++ os)
  join (more {below = below} x f t none) u = rw (append-nil below) (more x f t (rw (append-nil below) at u))

  -- a node above trees
  pub above : {m : ℕ} {below : List Node} (x : Node) → AllKeep S (row x).body → Trees S (suc m) (children x) below → Tree S m (x ∷ below)
  above {below = below} x f t = rw (append-nil below) at (more x f t none)

  -- the roots are among the numbers
  pub roots_inside : {m : ℕ} {cs : List ℕ} {ns : List Node} → Trees S m cs ns → Every (λ c. (m ≤ c) × (c < m + length ns)) cs
  roots_inside none = tt
  roots_inside (more {m} {cs} {below} {others} x f t u) =
      let e = length-append below others in (
        (omega arith, omega arith),
        every_of (λ c. (m ≤ c) × (c < m + suc (length (below ++ others)))) cs (λ c i.
            let z = every_at (λ d. (m + suc (length below) ≤ d) × (d < m + suc (length below) + length others)) (roots_inside u) i in
            (omega arith, omega arith)),
      )

-- MET IN ORDER

pub count_add : (a p q : ℕ) → count a (p + q) ≡ count a p ++ count (a + p) q
unfolding count
count_add a zero q = let e : 0 + q ≡ q = omega arith in let z : a + 0 ≡ a = omega arith in rw (e, z)
count_add a (suc p) q =
    let e : suc p + q ≡ suc (p + q) = omega arith in
    let z : suc a + p ≡ a + suc p = omega arith in
    rw e (ap (λ (l : List ℕ). a ∷ l) (count_add (suc a) p q ∙ ap (λ (b : ℕ). count (suc a) p ++ count b q) z))

-- the nodes of a sheet from m on
abbrev At : Sheet → ℕ → List Node → Type 0
At sh m ns = (i : ℕ) → i < length ns → node_of sh (m + i) ≡ get_or ns i False

at_below : (sh : Sheet) (m : ℕ) (x : Node) (below others : List Node) → At sh m (x ∷ below ++ others) → At sh (suc m) below
at_below sh m x below others h i l =
    let e : m + suc i ≡ suc m + i = omega arith in
    let q = length-append below others in
    ap (node_of sh) (sym e) ∙ h (suc i) (omega arith) ∙ get_or-append below others False i l

at_others : (sh : Sheet) (m : ℕ) (x : Node) (below others : List Node) → At sh m (x ∷ below ++ others) → At sh (m + suc (length below)) others
at_others sh m x below others h i l =
    let e : m + suc (length below + i) ≡ m + suc (length below) + i = omega arith in
    let q = length-append below others in
    ap (node_of sh) (sym e) ∙ h (suc (length below + i)) (omega arith) ∙ get_or-append-add below others i False

module _ (sh : Sheet) where
  met_node : (l m : ℕ) (x : Node) (b : ℕ) → node_of sh m ≡ x → gathered (met_from l sh) (children x) ≡ count (suc m) b → met_from (suc l) sh m ≡ count m (suc b)
  unfolding met_from count
  met_node l m x b e q = rw e (ap (λ (z : List ℕ). m ∷ z) q)

  pub met_trees : {S : ℕ} (l : ℕ) {m : ℕ} {cs : List ℕ} {ns : List Node} → Trees S m cs ns → length ns ≤ l → At sh m ns → gathered (met_from l sh) cs
      ≡ count m (length ns)
  unfolding count
  met_trees l none h a = refl
  met_trees zero (more x f t u) h a = absurd (omega arith)
  met_trees (suc l) (more {m} {cs} {below} {others} x f t u) h a =
      let q = length-append below others in
      let z : m + 0 ≡ m = omega arith in
      let n : node_of sh m ≡ x = rw z at (a 0 (omega arith)) in
      let e : suc (length (below ++ others)) ≡ suc (length below) + length others = omega arith in
      rw (
        met_node l m x (length below) n (met_trees l t (omega arith) (at_below sh m x below others a)),
        met_trees (suc l) u (omega arith) (at_others sh m x below others a),
      )
      (sym (ap (count m) e ∙ count_add m (suc (length below)) (length others)))

-- IN RANGE

module _ (S N own : ℕ) where
  role_ranged : (r : Role) (v : ℕ) (fs : List Field) → Keeps S r v → Every (Child N own) (pick a_node ((r of v) ∷ fs))
      → InRange N S own r v × Every (Child N own) (pick a_node fs)
  role_ranged a_node v fs h s = (s.0, s.1)
  role_ranged a_section v fs h s = (h, s)
  role_ranged a_variable v fs h s = (tt, s)
  role_ranged a_test v fs h s = (h, s)
  role_ranged a_number v fs h s = (h, s)
  role_ranged a_wide v fs h s = (h, s)

  all_ranged : (fs : List Field) → AllKeep S fs → Every (Child N own) (pick a_node fs) → AllFit N S own fs
  all_ranged [] h s = tt
  all_ranged (f ∷ fs) h s = let q = role_ranged f.role f.value fs h.0 s in (q.0, all_ranged fs h.1 q.1)

  node_ranged : (x : Node) → AllKeep S (row x).body → Every (Child N own) (children x) → Ranged N S own x
  unfolding children
  node_ranged x h c = all_ranged (row x).body h c

pub trees_ranged : {S m : ℕ} {cs : List ℕ} {ns : List Node} (N : ℕ) → Trees S m cs ns → m + length ns ≤ N → (i : ℕ) → i < length ns
    → Ranged N S (m + i) (get_or ns i False)
trees_ranged N none h i l = absurd (omega arith)
trees_ranged {S} N (more {m} {cs} {below} {others} x f t u) h zero l =
    let q = length-append below others in
    let z : m + 0 ≡ m = omega arith in
    subst (λ (j : ℕ). Ranged N S j x) (sym z) (node_ranged S N m x f (every_of (Child N m) (children x) (λ c i.
    let w = every_at (λ d. (suc m ≤ d) × (d < suc m + length below)) (roots_inside t) i in
    record { above = omega arith; inside = omega arith })))
trees_ranged {S} N (more {m} {cs} {below} {others} x f t u) h (suc i) l =
    let q = length-append below others in
    go (dec_lt i (length below)) (λ z. trees_ranged N t (omega arith) i z) (λ z. trees_ranged N u (omega arith) (i - length below) z)
  where
    go : Dec (i < length below) → (i < length below → Ranged N S (suc m + i) (get_or below i False))
        → (i - length below < length others → Ranged N S (m + suc (length below) + (i - length below)) (get_or others (i - length below) False))
        → Ranged N S (m + suc i) (get_or (below ++ others) i False)
    go (yes k) a b =
        let e : suc m + i ≡ m + suc i = omega arith in
        rw (get_or-append below others False i k) (rw e at (a k))
    go (no k) a b =
        let q = length-append below others in
        let e : m + suc (length below) + (i - length below) ≡ m + suc i = omega arith in
        let z : length below + (i - length below) ≡ i = omega arith in
        let g = ap (λ (j : ℕ). get_or (below ++ others) j False) (sym z) ∙ get_or-append-add below others (i - length below) False in
        rw g (rw e at (b (omega arith)))

-- the same of what bytes can say
pub trees_keep : {S m : ℕ} {cs : List ℕ} {ns : List Node} → Trees S m cs ns → (i : ℕ) → i < length ns → AllKeep S (row (get_or ns i False)).body
trees_keep none i l = absurd (omega arith)
trees_keep (more x f t u) zero l = f
trees_keep {S} (more {m} {cs} {below} {others} x f t u) (suc i) l = go (dec_lt i (length below)) (λ h. trees_keep t i h) (λ h. trees_keep u
    (i - length below) h)
  where
    go : Dec (i < length below) → (i < length below → AllKeep S (row (get_or below i False)).body)
        → (i - length below < length others → AllKeep S (row (get_or others (i - length below) False)).body)
        → AllKeep S (row (get_or (below ++ others) i False)).body
    go (yes k) a b = rw (get_or-append below others False i k) (a k)
    go (no k) a b =
        let q = length-append below others in
        let z : length below + (i - length below) ≡ i = omega arith in
        let g = ap (λ (j : ℕ). get_or (below ++ others) j False) (sym z) ∙ get_or-append-add below others (i - length below) False in
        rw g (b (omega arith))

-- EACH USED ONCE

children_append : (xs ys : List Node) → all_children (xs ++ ys) ≡ all_children xs ++ all_children ys
children_append [] ys = refl
children_append (x ∷ xs) ys = ap (λ (z : List ℕ). children x ++ z) (children_append xs ys) ∙ sym (append_assoc (children x) (all_children xs) (all_children ys))

once_between : (xs ys zs : List ℕ) → Once (xs ++ zs) → Once ys → ((n : ℕ) → n ∈ ys → n ∈ (xs ++ zs) → ⊥) → Once (xs ++ (ys ++ zs))
once_between [] ys zs o p f = once_both ys zs p o f
once_between (x ∷ xs) ys zs o p f = (λ e. go (in_either xs (ys ++ zs) e), once_between xs ys zs o.1 p (λ n i j. f n i (there j)))
  where
    other : (x ∈ ys) ⊎ (x ∈ zs) → ⊥
    other (inl i) = f x i here
    other (inr i) = o.0 (in_behind xs i)

    go : (x ∈ xs) ⊎ (x ∈ (ys ++ zs)) → ⊥
    go (inl i) = o.0 (in_front zs i)
    go (inr i) = other (in_either ys zs i)

in_three : {n : ℕ} (xs ys zs : List ℕ) → n ∈ (xs ++ (ys ++ zs)) → (n ∈ ys) ⊎ (n ∈ (xs ++ zs))
in_three {n} xs ys zs e = go (in_either xs (ys ++ zs) e)
  where
    other : (n ∈ ys) ⊎ (n ∈ zs) → (n ∈ ys) ⊎ (n ∈ (xs ++ zs))
    other (inl i) = inl i
    other (inr i) = inr (in_behind xs i)

    go : (n ∈ xs) ⊎ (n ∈ (ys ++ zs)) → (n ∈ ys) ⊎ (n ∈ (xs ++ zs))
    go (inl i) = inr (in_front zs i)
    go (inr i) = other (in_either ys zs i)

pub record Single (m b : ℕ) (l : List ℕ) : Type 0 where
  pub once : Once l
  pub inside : (n : ℕ) → n ∈ l → (m ≤ n) × (n < b)

no_one : {n : ℕ} {l : List ℕ} → n ∈ l → l ≡ [] → ⊥
no_one here e = let z = ap length e in omega arith
no_one (there i) e = let z = ap length e in omega arith

single_more : (m p q : ℕ) (cs low high : List ℕ) → Single (suc m) (suc m + p) low → Single (m + suc p) (m + suc p + q) (cs ++ high)
    → Single m (m + suc (p + q)) (m ∷ cs ++ (low ++ high))
single_more m p q cs low high a b = record {
  once = (
    λ i. first (in_three cs low high i),
    once_between cs low high b.once a.once (λ n i j.
        let y = a.inside n i in let z = b.inside n j in omega arith),
  );
  inside = within;
}
  where
    first : (m ∈ low) ⊎ (m ∈ (cs ++ high)) → ⊥
    first (inl i) = let y = a.inside m i in omega arith
    first (inr i) = let y = b.inside m i in omega arith

    either : (n : ℕ) → (n ∈ low) ⊎ (n ∈ (cs ++ high)) → (m ≤ n) × (n < m + suc (p + q))
    either n (inl i) = let y = a.inside n i in (omega arith, omega arith)
    either n (inr i) = let y = b.inside n i in (omega arith, omega arith)

    within : (n : ℕ) → n ∈ (m ∷ cs ++ (low ++ high)) → (m ≤ n) × (n < m + suc (p + q))
    within n here = (omega arith, omega arith)
    within n (there i) = either n (in_three cs low high i)

pub trees_single : {S m : ℕ} {cs : List ℕ} {ns : List Node} → Trees S m cs ns → Single m (m + length ns) (cs ++ all_children ns)
trees_single none = record { once = tt; inside = λ n e. absurd (no_one e refl) }
trees_single (more {m} {cs} {below} {others} x f t u) =
    rw (length-append below others, children_append below others, ← append_assoc (children x) (all_children below) (all_children others))
    (single_more m (length below) (length others) cs (children x ++ all_children below) (all_children others) (trees_single t) (trees_single u))

-- A SHEET OF TREES

module _ {sh : Sheet} (t : Trees (length sh.sections) 0 (0 ∷ sh.sections) sh.nodes) (main : sh.root ≡ 0) (k : (1 ≤ sh.k) × (sh.k ≤ 16))
    (few : length sh.nodes ≤ 200) (few' : length sh.sections ≤ 8) where
  some : 1 ≤ length sh.nodes
  some = let z = roots_inside t in omega (arith, z.0.1)

  section_inside : (l : List ℕ) → Every (λ c. (0 ≤ c) × (c < 0 + length sh.nodes)) l → (i : ℕ) → i < length l → get_or l i 0 < length sh.nodes
  section_inside [] h i z = absurd (omega arith)
  section_inside (c ∷ l) h zero z = omega (arith, h.0.1)
  section_inside (c ∷ l) h (suc i) z = section_inside l h.1 i (omega arith)

  pub trees_ranges : Ranges sh
  trees_ranges = record {
    some_variable = k.0;
    few_variables = k.1;
    root = subst (λ (n : ℕ). n < length sh.nodes) (sym main) some;
    few_sections = few';
    some_node = some;
    few_nodes = few;
    section = section_inside sh.sections (roots_inside t).1;
    node = λ i h. rw zero-add at (trees_ranged (length sh.nodes) t (omega arith) i h);
  }

  pub trees_once : Once (uses sh)
  unfolding uses roots
  trees_once = subst (λ (n : ℕ). Once (n ∷ sh.sections ++ all_children sh.nodes)) (sym main) (trees_single t).once

  in_order : order sh ≡ count 0 (length sh.nodes)
  unfolding order roots
  in_order = ap (λ (n : ℕ). gathered (met_from (length sh.nodes) sh) (n ∷ sh.sections)) main ∙
      (met_trees sh (length sh.nodes) t (omega arith) (λ i h. ap (node_of sh) (zero-add i)))

  pub trees_still : numbered sh ≡ sh
  trees_still = numbered_still trees_ranges in_order

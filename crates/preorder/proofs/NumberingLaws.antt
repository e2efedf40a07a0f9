-- A sheet in which no node is used twice, numbered as its nodes are first met: it is in range, and numbered once more it is the same.
use Rattle.std.specs.Prelude.{◌≡◌, ◌⊎◌, eqb}
use Rattle.std.proofs.Math.Path.{refl, ap, sym}
use Rattle.std.proofs.Common.{◌∙◌, inl, inr, eq-eqb, ne_eqb, arith, length-append}
use Rattle.rules.specs.Counting.{pick}
use mathlib.Core.List.{List, [], ◌∷◌, ◌++◌, map, map-append, append_assoc}
use Prim.Native.Nat.{ℕ, zero, suc, ◌+◌, ◌≤◌, ◌<◌}
use Rattle.std.proofs.Math.Nat.{zero-add}
use Rattle.std.proofs.Math.Decide.{ℕ_discrete}
use Rattle.std.proofs.Math.ListN.{length, get_or, length-map}
use Rattle.std.proofs.Math.Seq.{ext_get_or}
use Rattle.node.specs.declared.Node.{Node}
use Rattle.node.specs.declared.Node.TheVariants.{False}
use Rattle.node.specs.Kinds.{children, calls}
use Rattle.sheet.specs.Renumbering.{renumber}
use Rattle.sheet.specs.Sheet.{Sheet}
use Rattle.sheet.specs.Laws.{Child, Ranged, Ranges}
use Rattle.sheet.proofs.Rows.{ranged_anew, renumbered_children, renumbered_still}
use Rattle.rules.specs.Answer.{count}
use Rattle.rules.specs.Explain.Chain.{◌∈◌, here, there}
use Rattle.rules.specs.Laws.Embedding.{Holds, itself}
use Rattle.sheet.proofs.Ranging.{every_map, map_at, children_in, calls_in}
use Rattle.preorder.specs.Numbering.{gathered, node_of, met_from, roots, order, place_of, new_number, numbered, in_front, in_behind, in_either}
use Rattle.preorder.specs.Numbering.{in_gathered, of_gathered}
use Rattle.preorder.specs.Numbering.{every_at, every_of, in_at, place_first, place_later, place_at}
use Rattle.preorder.proofs.Numbering.{met_self, met_in, roots_in}
use Rattle.preorder.proofs.Numbering.{order_in, root_met}
use Rattle.preorder.proofs.Numbering.{children_met, numbered_holds}
use Rattle.preorder.specs.NumberingLaws.{Once, once_both, all_children, uses, place_in, place_of_lem, Before, first, later, before_gathered}
use Rattle.preorder.specs.NumberingLaws.{place_before, gathered-map}

once_front : (xs ys : List ℕ) → Once (xs ++ ys) → Once xs
once_front [] ys o = tt
once_front (x ∷ xs) ys o = (λ e. o.0 (in_front ys e), once_front xs ys o.1)

once_behind : (xs ys : List ℕ) → Once (xs ++ ys) → Once ys
once_behind [] ys o = o
once_behind (x ∷ xs) ys o = once_behind xs ys o.1

once_apart : (xs ys : List ℕ) {n : ℕ} → Once (xs ++ ys) → n ∈ xs → n ∈ ys → ⊥
once_apart [] ys {n = n} o x3 j = elim x3 [ ]
once_apart (x ∷ xs) ys o here j = o.0 (in_behind xs j)
once_apart (x ∷ xs) ys o (there i) j = once_apart xs ys o.1 i j

once_gathered : (h : ℕ → List ℕ) (cs : List ℕ) → Once cs → ((c : ℕ) → c ∈ cs → Once (h c))
    → ((c d m : ℕ) → c ∈ cs → d ∈ cs → m ∈ h c → m ∈ h d → c ≡ d) → Once (gathered h cs)
once_gathered h [] o f g = tt
once_gathered h (c ∷ cs) o f g = once_both (h c) (gathered h cs) (f c here)
    (once_gathered h cs o.1 (λ d i. f d (there i)) (λ d e m i j. g d e m (there i) (there j)))
    (λ m i j. let (d, k, e) = of_gathered h cs j in o.0 (rw (← g c d m here (there k) i e) at k))

all_at : (ns : List Node) (i : ℕ) {c : ℕ} → i < length ns → c ∈ children (get_or ns i False) → c ∈ all_children ns
all_at [] i h e = absurd (omega arith)
all_at (n ∷ ns) zero h e = in_front (all_children ns) e
all_at (n ∷ ns) (suc i) h e = in_behind (children n) (all_at ns i (omega arith) e)

all_once : (ns : List Node) (i : ℕ) → i < length ns → Once (all_children ns) → Once (children (get_or ns i False))
all_once [] i h o = absurd (omega arith)
all_once (n ∷ ns) zero h o = once_front (children n) (all_children ns) o
all_once (n ∷ ns) (suc i) h o = all_once ns i (omega arith) (once_behind (children n) (all_children ns) o)

-- one parent
all_same : (ns : List Node) (i j : ℕ) {c : ℕ} → i < length ns → j < length ns → Once (all_children ns) → c ∈ children (get_or ns i False)
    → c ∈ children (get_or ns j False) → i ≡ j
all_same [] i j h k o d e = absurd (omega arith)
all_same (n ∷ ns) zero zero h k o d e = refl
all_same (n ∷ ns) zero (suc j) h k o d e = absurd (once_apart (children n) (all_children ns) o d (all_at ns j (omega arith) e))
all_same (n ∷ ns) (suc i) zero h k o d e = absurd (once_apart (children n) (all_children ns) o e (all_at ns i (omega arith) d))
all_same (n ∷ ns) (suc i) (suc j) h k o d e = ap suc (all_same ns i j (omega arith) (omega arith) (once_behind (children n) (all_children ns) o) d e)

all_of : (ns : List Node) {c : ℕ} → c ∈ all_children ns → (i : ℕ) × (i < length ns) × (c ∈ children (get_or ns i False))
all_of [] {c = c} e = elim e [ ]
all_of (n ∷ ns) {c} e = go (λ j. all_of ns j) (in_either (children n) (all_children ns) e)
  where
    go : (c ∈ all_children ns → (i : ℕ) × (i < length ns) × (c ∈ children (get_or ns i False))) → (c ∈ children n) ⊎ (c ∈ all_children ns)
        → (i : ℕ) × (i < length (n ∷ ns)) × (c ∈ children (get_or (n ∷ ns) i False))
    go f (inl j) = (0, omega arith, j)
    go f (inr j) = let (i, h, k) = f j in (suc i, omega arith, k)

-- all are nodes of the sheet
pub uses_in : {sh : Sheet} → Ranges sh → {n : ℕ} → n ∈ uses sh → n < length sh.nodes
unfolding uses
uses_in {sh} r {n} e = go (in_either (roots sh) (all_children sh.nodes) e)
  where
    go : (n ∈ roots sh) ⊎ (n ∈ all_children sh.nodes) → n < length sh.nodes
    go (inl i) = roots_in r i
    go (inr i) = let (p, h, j) = all_of sh.nodes i in (every_at (Child (length sh.nodes) p) (children_in r p h) j).inside

-- m is c or below it
data Under (sh : Sheet) (c : ℕ) : ℕ → Type 0 where
  self : Under sh c c
  down : {p m : ℕ} → p < length sh.nodes → Under sh c p → m ∈ children (node_of sh p) → Under sh c m

under_child : {sh : Sheet} {n c m : ℕ} → n < length sh.nodes → c ∈ children (node_of sh n) → Under sh c m → Under sh n m
under_child h e self = down h self e
under_child h e (down k u i) = down k (under_child h e u) i

module _ {sh : Sheet} (r : Ranges sh) (once : Once (uses sh)) where
  abbrev N : ℕ
  N = length sh.nodes

  roots_once : Once (roots sh)
  unfolding uses
  roots_once = once_front (roots sh) (all_children sh.nodes) once

  children_once : Once (all_children sh.nodes)
  unfolding uses
  children_once = once_behind (roots sh) (all_children sh.nodes) once

  no_child : {n p : ℕ} → n ∈ roots sh → p < N → n ∈ children (node_of sh p) → ⊥
  unfolding uses
  no_child {p = p} e h j = once_apart (roots sh) (all_children sh.nodes) once e (all_at sh.nodes p h j)

  one_parent : {c p q : ℕ} → p < N → q < N → c ∈ children (node_of sh p) → c ∈ children (node_of sh q) → p ≡ q
  one_parent {p = p} {q = q} h k i j = all_same sh.nodes p q h k children_once i j

  under_le : {c m : ℕ} → Under sh c m → c ≤ m
  under_le self = omega arith
  under_le (down {p} h u i) = let z = every_at (Child N p) (children_in r p h) i in let w = under_le u in omega arith

  met_under : (l n : ℕ) {m : ℕ} → n < N → m ∈ met_from l sh n → Under sh n m
  unfolding met_from
  met_under zero n {m = m} h x'' = elim x'' [ ]
  met_under (suc l) n h here = self
  met_under (suc l) n h (there e) =
      let (c, i, k) = of_gathered (met_from l sh) (children (node_of sh n)) e in
      let z = every_at (Child N n) (children_in r n h) i in
      under_child h i (met_under l c z.inside k)

  -- two nodes above one are one above the other
  comparable : {c d m : ℕ} → Under sh c m → Under sh d m → (Under sh c d) ⊎ (Under sh d c)
  comparable self v = inr v
  comparable (down h u i) self = inl (down h u i)
  comparable (down h u i) (down k v j) = comparable u (rw (one_parent k h j i) at v)

  siblings : {n c d : ℕ} → n < N → c ∈ children (node_of sh n) → d ∈ children (node_of sh n) → Under sh c d → c ≡ d
  siblings h i j self = refl
  siblings {n} h i j (down {p} k u e) =
      let z = every_at (Child N n) (children_in r n h) i in
      let q = one_parent k h e j in
      let w = under_le u in
      absurd (omega arith)

  root_apart : {c d : ℕ} → d ∈ roots sh → Under sh c d → c ≡ d
  root_apart j self = refl
  root_apart j (down k u e) = absurd (no_child j k e)

  either_way : {c d : ℕ} → (Under sh c d → c ≡ d) → (Under sh d c → d ≡ c) → (Under sh c d) ⊎ (Under sh d c) → c ≡ d
  either_way f g (inl u) = f u
  either_way f g (inr u) = sym (g u)

  met_once : (l n : ℕ) → n < N → Once (met_from l sh n)
  unfolding met_from
  met_once zero n h = tt
  met_once (suc l) n h = (
    λ e. above e,
    once_gathered (met_from l sh) (children (node_of sh n)) (all_once sh.nodes n h children_once)
        (λ c i. met_once l c (inside i))
        (λ c d m i j x y. either_way (siblings h i j) (siblings h j i) (comparable (met_under l c (inside i) x) (met_under l d (inside j) y))),
  )
    where
      inside : {c : ℕ} → c ∈ children (node_of sh n) → c < N
      inside i = (every_at (Child N n) (children_in r n h) i).inside

      above : n ∈ gathered (met_from l sh) (children (node_of sh n)) → ⊥
      above e =
          let (c, i, k) = of_gathered (met_from l sh) (children (node_of sh n)) e in
          let z = every_at (Child N n) (children_in r n h) i in
          let w = met_in r l c z.inside k in
          omega arith

  pub order_once : Once (order sh)
  unfolding order
  order_once = once_gathered (met_from N sh) (roots sh) roots_once (λ c i. met_once N c (roots_in r i))
      (λ c d m i j x y. either_way (root_apart j) (root_apart i) (comparable (met_under N c (roots_in r i) x) (met_under N d (roots_in r j) y)))

-- as many numbers below b as stand once are at most b

without : ℕ → List ℕ → List ℕ
without n [] = []
without n (m ∷ l) = pick (eqb m n) (m ∷ without n l) (without n l)

without_here : (n : ℕ) (l : List ℕ) {m : ℕ} → m ≡ n → without n (m ∷ l) ≡ without n l
unfolding without
without_here n l {m} e = rw (eq-eqb m n e)

without_there : {n m : ℕ} (l : List ℕ) → (m ≡ n → ⊥) → without n (m ∷ l) ≡ m ∷ without n l
unfolding without
without_there {n} {m} l f = rw (ne_eqb m n f)

of_without : (n : ℕ) (l : List ℕ) {m : ℕ} → m ∈ without n l → (m ∈ l) × (m ≡ n → ⊥)
unfolding without
of_without n [] {m = m} e = elim e [ ]
of_without n (x ∷ l) {m} e = go (λ i. of_without n l i) (ℕ_discrete x n)
  where
    at_front : {y : ℕ} {k : List ℕ} → (m ∈ k → (m ∈ l) × (m ≡ n → ⊥)) → (y ≡ x) → (y ≡ n → ⊥) → m ∈ (y ∷ k) → (m ∈ (x ∷ l)) × (m ≡ n → ⊥)
    at_front f q w here = (rw q here, w)
    at_front f q w (there i) = (there (f i).0, (f i).1)

    go : (m ∈ without n l → (m ∈ l) × (m ≡ n → ⊥)) → Dec (x ≡ n) → (m ∈ (x ∷ l)) × (m ≡ n → ⊥)
    go f (yes q) = let i = rw (without_here n l q) at e in (there (f i).0, (f i).1)
    go f (no q) = at_front f refl q (rw (without_there l q) at e)

without_once : (n : ℕ) (l : List ℕ) → Once l → Once (without n l)
unfolding without
without_once n [] o = tt
without_once n (x ∷ l) o = go (without_once n l o.1) (ℕ_discrete x n)
  where
    go : Once (without n l) → Dec (x ≡ n) → Once (without n (x ∷ l))
    go p (yes q) = rw (without_here n l q) p
    go p (no q) = rw (without_there l q) (λ i. o.0 (of_without n l i).0, p)

without_none : (n : ℕ) (l : List ℕ) → (n ∈ l → ⊥) → without n l ≡ l
unfolding without
without_none n [] f = refl
without_none n (x ∷ l) f = without_there l (λ q. f (rw q here)) ∙ ap (λ z. x ∷ z) (without_none n l (λ i. f (there i)))

without_long : (n : ℕ) (l : List ℕ) → Once l → length l ≤ suc (length (without n l))
unfolding without
without_long n [] o = omega arith
without_long n (x ∷ l) o = go (without_long n l o.1) (ℕ_discrete x n)
  where
    go : length l ≤ suc (length (without n l)) → Dec (x ≡ n) → suc (length l) ≤ suc (length (without n (x ∷ l)))
    go p (yes q) = rw (without_here n l q, without_none n l (λ i. o.0 (rw q i))) (omega arith)
    go p (no q) = rw (without_there l q) (omega arith)

once_short : (b : ℕ) (l : List ℕ) → Once l → ((n : ℕ) → n ∈ l → n < b) → length l ≤ b
once_short zero [] o f = omega arith
once_short zero (x ∷ l) o f = let z = f x here in absurd (omega arith)
once_short (suc b) l o f =
    let k = once_short b (without b l) (without_once b l o) (λ n i. let w = of_without b l i in let z = f n w.0 in below n z w.1) in
    let j = without_long b l o in
    omega arith
  where
    below : (n : ℕ) → n < suc b → (n ≡ b → ⊥) → n < b
    below n h g = omega arith

-- IN RANGE

module _ {sh : Sheet} (r : Ranges sh) (once : Once (uses sh)) where
  -- a child stands behind its parent
  met_before : (l n : ℕ) {m c : ℕ} → n < length sh.nodes → length sh.nodes ≤ n + l → m ∈ met_from l sh n → c ∈ children (node_of sh m)
      → Before m c (met_from l sh n)
  unfolding met_from
  met_before zero n {m = m} {c = c} h f x4 j = elim x4 [ ]
  met_before (suc l) n h f here j =
      let z = every_at (Child (length sh.nodes) n) (children_in r n h) j in
      first (in_gathered (met_from l sh) (children (node_of sh n)) j (met_self r l _ (omega arith)))
  met_before (suc l) n h f (there e) j =
      let (d, i, k) = of_gathered (met_from l sh) (children (node_of sh n)) e in
      let z = every_at (Child (length sh.nodes) n) (children_in r n h) i in
      later (before_gathered (met_from l sh) (children (node_of sh n)) i (met_before l d z.inside (omega arith) k j))

  order_before : {m c : ℕ} → m ∈ order sh → c ∈ children (node_of sh m) → Before m c (order sh)
  unfolding order
  order_before e j =
      let (d, i, k) = of_gathered (met_from (length sh.nodes) sh) (roots sh) e in
      before_gathered (met_from (length sh.nodes) sh) (roots sh) i (met_before (length sh.nodes) d (roots_in r i) (omega arith) k j)

  pub order_short : length (order sh) ≤ length sh.nodes
  order_short = once_short (length sh.nodes) (order sh) (order_once r once) (λ n i. order_in r i)

  nodes_many : length (numbered sh).nodes ≡ length (order sh)
  unfolding numbered
  nodes_many = length-map (order sh) _

  sections_many : length (numbered sh).sections ≡ length sh.sections
  unfolding numbered
  sections_many = length-map sh.sections _

  new_child : (i : ℕ) → i < length (order sh) → (c : ℕ) → c ∈ children (node_of sh (get_or (order sh) i 0)) → Child (length (order sh)) i (new_number sh c)
  unfolding new_number
  new_child i h c j =
      let e = in_at (order sh) i h in
      let q = place_of_lem (order sh) (order_once r once) i h in
      let b = place_before (order sh) (order_once r once) (order_before e j) in
      let z = place_in (order sh) (children_met r e j) in
      record { above = omega arith; inside = z }

  new_node : (i : ℕ) → i < length (order sh) → Ranged (length (order sh)) (length sh.sections) i (get_or (numbered sh).nodes i False)
  unfolding numbered
  new_node i h =
      let n = get_or (order sh) i 0 in
      let l = order_in r (in_at (order sh) i h) in
      rw (map_at (λ m. renumber (new_number sh) itself (node_of sh m)) (order sh) i 0 False h)
      (ranged_anew (new_number sh) itself (length sh.nodes) (length sh.sections) n (length (order sh)) (length sh.sections) i (node_of sh n)
      (r.node n l)
      (every_of (λ c. Child (length (order sh)) i (new_number sh c)) (children (node_of sh n)) (new_child i h)) (calls_in r n l))

  new_root : {n : ℕ} → n ∈ roots sh → new_number sh n < length (order sh)
  unfolding new_number
  new_root e = place_in (order sh) (root_met r e)

  main_root : new_number sh sh.root < length (order sh)
  unfolding roots
  main_root = new_root here

  new_section : (i : ℕ) → i < length sh.sections → get_or (numbered sh).sections i 0 < length (order sh)
  unfolding numbered roots
  new_section i h = rw (map_at (new_number sh) sh.sections i 0 0 h) (new_root (there (in_at sh.sections i h)))

  pub same_k : (numbered sh).k ≡ sh.k
  unfolding numbered
  same_k = refl

  same_root : (numbered sh).root ≡ new_number sh sh.root
  unfolding numbered
  same_root = refl

  pub numbered_ranges : Ranges (numbered sh)
  numbered_ranges = record {
    some_variable = rw same_k r.some_variable;
    few_variables = rw same_k r.few_variables;
    root = rw (same_root, nodes_many) main_root;
    few_sections = rw sections_many r.few_sections;
    some_node = rw nodes_many (omega (arith, main_root));
    few_nodes = rw nodes_many (omega (arith, order_short, r.few_nodes));
    section = λ i h. rw nodes_many (new_section i (rw sections_many at h));
    node = λ i h. rw (nodes_many, sections_many) (new_node i (rw nodes_many at h));
  }

gathered_same : (g h : ℕ → List ℕ) (cs : List ℕ) → ((c : ℕ) → c ∈ cs → g c ≡ h c) → gathered g cs ≡ gathered h cs
gathered_same g h [] e = refl
gathered_same g h (c ∷ cs) e = ap (λ z. z ++ gathered g cs) (e c here) ∙ ap (λ z. h c ++ z) (gathered_same g h cs (λ d i. e d (there i)))

-- the nodes met in a sheet that holds another are those met in the other
pub met_held : {P : ℕ → Type 0} {f g : ℕ → ℕ} {sh sh' : Sheet} → Holds P f g sh sh' → (l n : ℕ) → P n → met_from l sh' (f n) ≡ map f (met_from l sh n)
unfolding met_from
met_held held zero n p = refl
met_held {P} {f} {g} {sh} {sh'} held (suc l) n p =
    ap (λ z. f n ∷ gathered (met_from l sh') z) (ap children (held.node n p) ∙ renumbered_children f g (node_of sh n))
    ∙ ap (λ z. f n ∷ z) (gathered-map P f (met_from l sh') (met_from l sh) (children (node_of sh n)) (held.below n p) (λ c q. met_held held l c q))

-- more levels meet no more
pub met_enough : {sh : Sheet} → Ranges sh → (l k n : ℕ) → n < length sh.nodes → length sh.nodes ≤ n + l → length sh.nodes ≤ n + k
    → met_from l sh n ≡ met_from k sh n
unfolding met_from
met_enough r zero k n h e f = absurd (omega arith)
met_enough r (suc l) zero n h e f = absurd (omega arith)
met_enough {sh} r (suc l) (suc k) n h e f =
    ap (λ z. n ∷ z) (gathered_same (met_from l sh) (met_from k sh) (children (node_of sh n))
    (λ c i. go c (every_at (Child (length sh.nodes) n) (children_in r n h) i)
    (met_enough r l k c)))
  where
    go : (c : ℕ) → Child (length sh.nodes) n c
        → (c < length sh.nodes → length sh.nodes ≤ c + l → length sh.nodes ≤ c + k → met_from l sh c ≡ met_from k sh c) → met_from l sh c ≡ met_from k sh c
    go c z m = m z.inside (omega arith) (omega arith)

length-count : (a n : ℕ) → length (count a n) ≡ n
unfolding count
length-count a zero = refl
length-count a (suc n) = ap suc (length-count (suc a) n)

count_at : (a n i : ℕ) → i < n → get_or (count a n) i 0 ≡ a + i
unfolding count
count_at a zero i h = absurd (omega arith)
count_at a (suc n) zero h = omega arith
count_at a (suc n) (suc i) h = count_at (suc a) n i (omega arith) ∙ omega arith

place_count : (a n i : ℕ) → i < n → place_of (count a n) (a + i) ≡ i
unfolding count
place_count a zero i h = absurd (omega arith)
place_count a (suc n) zero h = place_first (a + 0) (count (suc a) n) (omega arith)
place_count a (suc n) (suc i) h =
    let q : suc a + i ≡ a + suc i = omega arith in
    place_later (count (suc a) n) (λ e. omega arith) ∙ ap suc (rw q at (place_count (suc a) n i (omega arith)))

-- a sheet whose nodes are met in order is numbered already
module _ {sh : Sheet} (r : Ranges sh) (e : order sh ≡ count 0 (length sh.nodes)) where
  still : (i : ℕ) → i < length sh.nodes → new_number sh i ≡ i
  unfolding new_number
  still i h = rw e (rw zero-add at (place_count 0 (length sh.nodes) i h))

  nodes_still : (numbered sh).nodes ≡ sh.nodes
  unfolding numbered
  nodes_still = rw e (ext_get_or False _ _ (length-map (count 0 (length sh.nodes)) _ ∙ length-count 0 (length sh.nodes)) λ i h.
      at i (rw (length-map (count 0 (length sh.nodes)), length-count) at h))
    where
      at : (i : ℕ) → i < length sh.nodes
          → get_or (map (λ n. renumber (new_number sh) itself (node_of sh n)) (count 0 (length sh.nodes))) i False ≡ node_of sh i
      at i h =
          let q = rw zero-add at (count_at 0 (length sh.nodes) i h) in
          map_at (λ n. renumber (new_number sh) itself (node_of sh n)) (count 0 (length sh.nodes)) i 0 False (rw length-count h)
          ∙ ap (λ n. renumber (new_number sh) itself (node_of sh n)) q
          ∙ renumbered_still (new_number sh) itself (node_of sh i)
          (every_map (λ c (z : Child (length sh.nodes) i c). still c z.inside) (children (node_of sh i)) (children_in r i h))
          (every_of (λ s. s ≡ s) (calls (node_of sh i)) (λ s j. refl))

  sections_still : (numbered sh).sections ≡ sh.sections
  unfolding numbered
  sections_still = ext_get_or 0 _ _ (length-map sh.sections _) λ i h.
      let z = rw (length-map sh.sections) at h in
      map_at (new_number sh) sh.sections i 0 0 z ∙ still _ (r.section i z)

  root_still : (numbered sh).root ≡ sh.root
  unfolding numbered
  root_still = still sh.root r.root

  pub numbered_still : numbered sh ≡ sh
  unfolding numbered
  numbered_still = same (numbered sh) sh refl root_still sections_still nodes_still
    where
      same : (a b : Sheet) → a.k ≡ b.k → a.root ≡ b.root → a.sections ≡ b.sections → a.nodes ≡ b.nodes → a ≡ b
      same a b p q s t = λ i. record { k = p i; root = q i; sections = s i; nodes = t i }

module _ {sh : Sheet} (r : Ranges sh) (once : Once (uses sh)) where
  roots-numbered : roots (numbered sh) ≡ map (new_number sh) (roots sh)
  unfolding roots numbered
  roots-numbered = refl

  root_levels : (n : ℕ) → n ∈ roots sh
      → met_from (length (numbered sh).nodes) (numbered sh) (new_number sh n) ≡ map (new_number sh) (met_from (length sh.nodes) sh n)
  root_levels n e =
      let m = nodes_many r once in
      let s = order_short r once in
      let b : new_number sh n < length (numbered sh).nodes = rw m (new_root r once e) in
      met_enough (numbered_ranges r once) (length (numbered sh).nodes) (length sh.nodes) (new_number sh n) b (omega arith) (omega arith)
      ∙ met_held (numbered_holds r) (length sh.nodes) n (root_met r e)

  order-numbered : order (numbered sh) ≡ map (new_number sh) (order sh)
  unfolding order
  order-numbered = ap (gathered (met_from (length (numbered sh).nodes) (numbered sh))) roots-numbered
      ∙ gathered-map (λ n. n ∈ roots sh) (new_number sh) (met_from (length (numbered sh).nodes) (numbered sh)) (met_from (length sh.nodes) sh) (roots sh)
      (every_of (λ n. n ∈ roots sh) (roots sh) (λ n i. i)) root_levels

  pub places_count : map (new_number sh) (order sh) ≡ count 0 (length (order sh))
  unfolding new_number
  places_count = ext_get_or 0 _ _ (length-map (order sh) _ ∙ sym (length-count 0 (length (order sh)))) λ i h.
      let z = rw (length-map (order sh)) at h in
      map_at (place_of (order sh)) (order sh) i 0 0 z ∙ place_of_lem (order sh) (order_once r once) i z ∙
      sym (rw zero-add at (count_at 0 (length (order sh)) i z))

  -- writing it twice changes nothing further
  pub numbered_twice : numbered (numbered sh) ≡ numbered sh
  numbered_twice = numbered_still (numbered_ranges r once) (rw (nodes_many r once) (order-numbered ∙ places_count))

-- and no node of it is used twice

of_map : {n : ℕ} (f : ℕ → ℕ) (l : List ℕ) → n ∈ map f l → (a : ℕ) × (a ∈ l) × (f a ≡ n)
of_map {n = n} f [] x' = elim x' [ ]
of_map f (x ∷ l) here = (x, here, refl)
of_map f (x ∷ l) (there e) = let (a, i, q) = of_map f l e in (a, there i, q)

once_map : (f : ℕ → ℕ) (l : List ℕ) → Once l → ((a b : ℕ) → a ∈ l → b ∈ l → f a ≡ f b → a ≡ b) → Once (map f l)
once_map f [] o h = tt
once_map f (x ∷ l) o h = (
  λ e. let (a, i, q) = of_map f l e in
      o.0 (rw (h a x (there i) here q) at i),
  once_map f l o.1 (λ a b i j. h a b (there i) (there j)),
)

children_anew : (f g : ℕ → ℕ) (sh : Sheet) (l : List ℕ)
    → all_children (map (λ n. renumber f g (node_of sh n)) l) ≡ map f (gathered (λ n. children (node_of sh n)) l)
children_anew f g sh [] = refl
children_anew f g sh (n ∷ l) =
    ap (λ z. z ++ all_children (map (λ n. renumber f g (node_of sh n)) l)) (renumbered_children f g (node_of sh n))
    ∙ ap (λ z. map f (children (node_of sh n)) ++ z) (children_anew f g sh l)
    ∙ sym (map-append f (children (node_of sh n)) (gathered (λ n. children (node_of sh n)) l))

module _ {sh : Sheet} (r : Ranges sh) (once : Once (uses sh)) where
  abbrev kept : List ℕ
  kept = roots sh ++ gathered (λ n. children (node_of sh n)) (order sh)

  kept_once : Once kept
  kept_once = once_both (roots sh) (gathered (λ n. children (node_of sh n)) (order sh)) (roots_once r once)
      (once_gathered (λ n. children (node_of sh n)) (order sh) (order_once r once)
      (λ n i. all_once sh.nodes n (order_in r i) (children_once r once))
      (λ p q c i j x y. one_parent r once (order_in r i) (order_in r j) x y))
      (λ n i j. let (p, e, x) = of_gathered (λ n. children (node_of sh n)) (order sh) j in no_child r once i (order_in r e) x)

  kept_met : {n : ℕ} → (n ∈ roots sh) ⊎ (n ∈ gathered (λ n. children (node_of sh n)) (order sh)) → n ∈ order sh
  kept_met (inl i) = root_met r i
  kept_met (inr i) = let (p, e, x) = of_gathered (λ n. children (node_of sh n)) (order sh) i in children_met r e x

  apart : (a b : ℕ) → a ∈ kept → b ∈ kept → new_number sh a ≡ new_number sh b → a ≡ b
  unfolding new_number
  apart a b i j e =
      let x = place_at itself 0 (order sh) (kept_met (in_either (roots sh) _ i)) in
      let y = place_at itself 0 (order sh) (kept_met (in_either (roots sh) _ j)) in
      sym x ∙ ap (λ n. get_or (map itself (order sh)) n 0) e ∙ y

  uses_anew : uses (numbered sh) ≡ map (new_number sh) kept
  unfolding uses numbered roots
  uses_anew = ap (λ z. map (new_number sh) (roots sh) ++ z) (children_anew (new_number sh) itself sh (order sh))
      ∙ sym (map-append (new_number sh) (roots sh) (gathered (λ n. children (node_of sh n)) (order sh)))

  pub numbered_once : Once (uses (numbered sh))
  numbered_once = rw uses_anew (once_map (new_number sh) kept kept_once apart)

-- THE ORDER BY A STACK, for code: of the nodes still to be met the first is taken, and its children are put in its place

gathered-append : (h : ℕ → List ℕ) (xs ys : List ℕ) → gathered h (xs ++ ys) ≡ gathered h xs ++ gathered h ys
gathered-append h [] ys = refl
gathered-append h (x ∷ xs) ys = ap (λ z. h x ++ z) (gathered-append h xs ys) ∙ sym (append_assoc (h x) (gathered h xs) (gathered h ys))

met_suc : (l : ℕ) (sh : Sheet) (n : ℕ) → met_from (suc l) sh n ≡ n ∷ gathered (met_from l sh) (children (node_of sh n))
unfolding met_from
met_suc l sh n = refl

met_long : (l : ℕ) (sh : Sheet) (n : ℕ) → 1 ≤ l → 1 ≤ length (met_from l sh n)
unfolding met_from
met_long zero sh n h = absurd (omega arith)
met_long (suc l) sh n h = omega arith

module _ {sh : Sheet} (r : Ranges sh) where
  abbrev pub to_meet : List ℕ → List ℕ
  to_meet = gathered (met_from (length sh.nodes) sh)

  pub meet_next : (n : ℕ) (todo : List ℕ) → n < length sh.nodes → to_meet (n ∷ todo) ≡ n ∷ to_meet (children (node_of sh n) ++ todo)
  meet_next n todo h = go (length sh.nodes) refl
    where
      one_less : (l c : ℕ) → length sh.nodes ≡ suc l → Child (length sh.nodes) n c → met_from l sh c ≡ met_from (length sh.nodes) sh c
      one_less l c e z = met_enough r l (length sh.nodes) c z.inside (omega arith) (omega arith)

      first_met : (l : ℕ) → length sh.nodes ≡ suc l → met_from (length sh.nodes) sh n ≡ n ∷ to_meet (children (node_of sh n))
      first_met l e = ap (λ k. met_from k sh n) e ∙ met_suc l sh n ∙ ap (λ z. n ∷ z)
          (gathered_same (met_from l sh) (met_from (length sh.nodes) sh) (children (node_of sh n))
          (λ c i. one_less l c e (every_at (Child (length sh.nodes) n) (children_in r n h) i)))

      go : (k : ℕ) → length sh.nodes ≡ k → to_meet (n ∷ todo) ≡ n ∷ to_meet (children (node_of sh n) ++ todo)
      go zero e = absurd (omega arith)
      go (suc l) e = ap (λ z. z ++ to_meet todo) (first_met l e)
          ∙ ap (λ z. n ∷ z) (sym (gathered-append (met_from (length sh.nodes) sh) (children (node_of sh n)) todo))

  -- no more of them wait than will be met
  pub meet_short : (todo : List ℕ) → length todo ≤ length (to_meet todo)
  meet_short [] = omega arith
  meet_short (n ∷ todo) = rw length-append (omega (arith, meet_short todo, met_long (length sh.nodes) sh n r.some_node))

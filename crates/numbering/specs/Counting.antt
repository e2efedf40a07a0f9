-- The uses of a sheet's nodes, counted in an array up to two.
use Rattle.std.specs.Prelude.{◌≡◌, refl, Bool, true, false, cond, List, [], ◌∷◌, ◌++◌, ℕ, zero, suc, ◌+◌, ◌*◌, ◌-◌, ◌≤◌, ◌<◌, min, leb, ltb, eqb, length}
use Rattle.std.specs.Prelude.{◌==◌, Option, Some, None}
use Rattle.std.specs.Prelude.{get_or, set, take, drop, replicate}
use Rattle.std.specs.List.{position, position_or_len}
use Rattle.std.proofs.Math.Path.{ap, sym}
use Rattle.std.proofs.Common.{◌∙◌, append_assoc, append-nil, zero-add, add-one, arith, length-set, length-append, length-take-le, drop-cons, take-suc}
use Rattle.std.proofs.Common.{take_all, get_or-set_same}
use Rattle.std.proofs.Common.{get_or-set_other, eq-eqb, ne_eqb, le-leb, lt-ltb, le-ltb, Fits}
use Rattle.std.proofs.Math.Decide.{ℕ_discrete, dec_le, dec_lt}
use Rattle.std.proofs.lemmas.List.{length-replicate, get_or-replicate}
use Rattle.std.proofs.Math.ListN.{get_or-eq_default}
use Rattle.std.proofs.Math.Seq.{take-append_seam, set_out}
use Rattle.std.proofs.lemmas.Bool.{lt-leb}
use Rattle.std.specs.Int.{w8}
use Rattle.value.specs.Result.{ok, map_result}
use Rattle.node.specs.declared.Node.{Node}
use Rattle.node.specs.declared.Node.TheVariants.{False}
use Rattle.sheet.specs.declared.Table.{Table}
use Rattle.sheet.specs.declared.Children.{Children}
use Rattle.node.specs.Kinds.{Role, a_node, a_section, a_variable, a_test, a_number, a_wide, Field, row, roles, size, sizes, width, place, keep, pick, children}
use Rattle.sheet.specs.Sheet.{Sheet, read_sheet}
use Rattle.sheet.specs.Table.{table_of, section_at}
use Rattle.node.specs.Forms.{listing}
use Rattle.sheet.specs.Laws.{Reads, table_reads}
use Rattle.sheet.proofs.Rows.{width_8}
use Rattle.sheet.specs.Parts.{children_of, children_at, nodes_in, part_at}
use Rattle.sheet.proofs.PartsLaws.{children_told, kind_narrow}
use Rattle.node.specs.Decoding.{kind_width}
use Rattle.report.specs.Writing.{Wrote, wrote, wrote_then, wrote_text, wrote_front, front_read}
use Rattle.records.specs.AnewLaws.{listing_more, listing_long, wrote_listing, listing_same, listing_of, made_there}
use Rattle.preorder.specs.Numbering.{node_of, roots}
use Rattle.preorder.specs.NumberingLaws.{all_children, uses}
use Rattle.preorder.specs.Uses.{times, times_here, times_there, lowest_from, lowest_here, lowest_later, lowest_twice}

-- A TABLE OF USES

-- one use more of n, counted up to two
unfoldable pub used : List ℕ → ℕ → List ℕ
used u n = cond (leb 2 (get_or u n 0)) u (set u n (get_or u n 0 + 1))

unfoldable pub used_all : List ℕ → List ℕ → List ℕ
used_all u [] = u
used_all u (n ∷ ns) = used_all (used u n) ns

pub used_full : (u : List ℕ) (n : ℕ) → 2 ≤ get_or u n 0 → used u n ≡ u
unfolding used
used_full u n h = rw (le-leb 2 (get_or u n 0) h)

pub used_more : (u : List ℕ) (n : ℕ) → get_or u n 0 < 2 → used u n ≡ set u n (get_or u n 0 + 1)
unfolding used
used_more u n h = rw (lt-leb 2 (get_or u n 0) h)

used_long : (u : List ℕ) (n : ℕ) → length (used u n) ≡ length u
used_long u n = go (dec_le 2 (get_or u n 0))
  where
    go : Dec (2 ≤ get_or u n 0) → length (used u n) ≡ length u
    go (yes h) = ap length (used_full u n h)
    go (no h) = ap length (used_more u n (omega arith)) ∙ length-set u n (get_or u n 0 + 1)

used_same : (u : List ℕ) (n : ℕ) → n < length u → get_or u n 0 ≤ 2 → get_or (used u n) n 0 ≡ min 2 (get_or u n 0 + 1)
used_same u n h z = go (dec_le 2 (get_or u n 0))
  where
    go : Dec (2 ≤ get_or u n 0) → get_or (used u n) n 0 ≡ min 2 (get_or u n 0 + 1)
    go (yes y) = ap (λ (l : List ℕ). get_or l n 0) (used_full u n y) ∙ omega arith
    go (no y) = ap (λ (l : List ℕ). get_or l n 0) (used_more u n (omega arith)) ∙ get_or-set_same u n (get_or u n 0 + 1) 0 h ∙ omega arith

used_other : (u : List ℕ) (m n : ℕ) → (n ≡ m → ⊥) → get_or (used u m) n 0 ≡ get_or u n 0
used_other u m n f = go (dec_le 2 (get_or u m 0))
  where
    go : Dec (2 ≤ get_or u m 0) → get_or (used u m) n 0 ≡ get_or u n 0
    go (yes y) = ap (λ (l : List ℕ). get_or l n 0) (used_full u m y)
    go (no y) = ap (λ (l : List ℕ). get_or l n 0) (used_more u m (omega arith)) ∙ get_or-set_other u m n (get_or u m 0 + 1) 0 f

used_append : (u ns ms : List ℕ) → used_all u (ns ++ ms) ≡ used_all (used_all u ns) ms
unfolding used_all
used_append u [] ms = refl
used_append u (n ∷ ns) ms = used_append (used u n) ns ms

-- the roots of sections, one by one
pub used_listing : (u : List ℕ) (h : ℕ → ℕ) (i : ℕ) → used (used_all u (listing i h)) (h i) ≡ used_all u (listing (i + 1) h)
unfolding used_all
used_listing u h i =
    sym (ap (used_all u) (ap (λ (k : ℕ). listing k h) (add-one i) ∙ listing_more i h) ∙ used_append u (listing i h) (h i ∷ []))

pub used_out : (u : List ℕ) (n : ℕ) → length u ≤ n → used u n ≡ u
used_out u n h = used_more u n (rw (get_or-eq_default u 0 h) (omega arith)) ∙ set_out u n (get_or u n 0 + 1) h

-- THE LAW: the table holds how often each number stands in the list, up to two
times_used : (u l : List ℕ) (n : ℕ) → n < length u → get_or u n 0 ≤ 2 → get_or (used_all u l) n 0 ≡ min 2 (get_or u n 0 + times n l)
unfolding used_all times
times_used u [] n h z = omega arith
times_used u (m ∷ l) n h z = go (ℕ_discrete m n) (λ y. times_used (used u m) l n (rw (used_long u m) h) y)
  where
    go : Dec (m ≡ n) → (get_or (used u m) n 0 ≤ 2 → get_or (used_all (used u m) l) n 0 ≡ min 2 (get_or (used u m) n 0 + times n l))
        → get_or (used_all (used u m) l) n 0 ≡ min 2 (get_or u n 0 + times n (m ∷ l))
    go (yes q) f =
        let e : get_or (used u m) n 0 ≡ min 2 (get_or u n 0 + 1) = rw q (used_same u n h z) in
        f (omega arith) ∙ omega (arith, times_here n l q)
    go (no q) f =
        let e : get_or (used u m) n 0 ≡ get_or u n 0 = used_other u m n (λ y. q (sym y)) in
        f (omega arith) ∙ omega (arith, times_there l q)

abbrev pub zeros : List ℕ
zeros = replicate 256 0

pub uses_counted : (l : List ℕ) (n : ℕ) → n < 256 → get_or (used_all zeros l) n 0 ≡ min 2 (times n l)
uses_counted l n h =
    let z : get_or zeros n 0 ≡ 0 = get_or-replicate 256 n 0 0 h in
    times_used zeros l n (rw (length-replicate {A = ℕ} 256 0) h) (omega arith) ∙ omega arith

-- one byte of a slice more
pub used_next : (u ns : List ℕ) (i : ℕ) → i < length ns → used (used_all u (take i ns)) (get_or ns i 0) ≡ used_all u (take (i + 1) ns)
unfolding used_all
used_next u ns i h = sym (ap (used_all u) (ap (λ (k : ℕ). take k ns) (add-one i) ∙ take-suc ns i 0 h) ∙ used_append u (take i ns) (get_or ns i 0 ∷ []))

-- THE LOWEST, in the table

unfoldable pub first_two : (n left : ℕ) → List ℕ → ℕ
first_two n zero u = n
first_two n (suc left) u = cond (eqb (get_or u n 0) 2) n (first_two (suc n) left u)

pub two_here : (n left : ℕ) (u : List ℕ) → get_or u n 0 ≡ 2 → first_two n (suc left) u ≡ n
unfolding first_two
two_here n left u h = rw (eq-eqb (get_or u n 0) 2 h)

pub two_later : (n left : ℕ) (u : List ℕ) → (get_or u n 0 ≡ 2 → ⊥) → first_two n (suc left) u ≡ first_two (suc n) left u
unfolding first_two
two_later n left u h = rw (ne_eqb (get_or u n 0) 2 h)

lowest_from_lem : (l : List ℕ) (n left : ℕ) → n + left ≤ 256 → first_two n left (used_all zeros l) ≡ lowest_from n left l
unfolding first_two lowest_from
lowest_from_lem l n zero h = refl
lowest_from_lem l n (suc left) h = go (dec_le 2 (times n l)) (lowest_from_lem l (suc n) left (omega arith))
  where
    go : Dec (2 ≤ times n l) → first_two (suc n) left (used_all zeros l) ≡ lowest_from (suc n) left l
        → first_two n (suc left) (used_all zeros l) ≡ lowest_from n (suc left) l
    go (yes y) f = two_here n left (used_all zeros l) (uses_counted l n (omega arith) ∙ omega arith) ∙ sym (lowest_here n left l y)
    go (no y) f =
        let e = uses_counted l n (omega arith) in
        two_later n left (used_all zeros l) (λ z. omega arith) ∙ f ∙ sym (lowest_later n left l (omega arith))

pub lowest_is : (l : List ℕ) (n : ℕ) → n ≤ 256 → first_two 0 n (used_all zeros l) ≡ lowest_from 0 n l
lowest_is l n h = lowest_from_lem l 0 n (omega arith)

-- the same as a search of the library tells it
first_from : (u : List ℕ) (n left : ℕ) → n + left ≤ length u → first_two n left u ≡ n + position_or_len (λ x. x == 2) (take left (drop n u))
unfolding first_two
first_from u n zero h = omega arith
first_from u n (suc left) h = go (ℕ_discrete (get_or u n 0) 2) (first_from u (suc n) left (omega arith))
  where
    go : Dec (get_or u n 0 ≡ 2) → first_two (suc n) left u ≡ suc n + position_or_len (λ x. x == 2) (take left (drop (suc n) u))
        → first_two n (suc left) u ≡ n + position_or_len (λ x. x == 2) (take (suc left) (drop n u))
    go (yes e) f = rw (drop-cons u n 0 (omega arith), two_here n left u e, eq-eqb (get_or u n 0) 2 e) (omega arith)
    go (no e) f = rw (drop-cons u n 0 (omega arith), two_later n left u e, ne_eqb (get_or u n 0) 2 e, f) (omega arith)

module _ (u : List ℕ) (nodes : ℕ) (h : nodes ≤ length u) where
  first_is : position_or_len (λ x. x == 2) (take nodes u) ≡ first_two 0 nodes u
  first_is = let f = first_from u 0 nodes (omega arith) in omega (arith, f)

  pub first_told : position (λ x. x == 2) (take nodes u) ≡ cond (ltb (first_two 0 nodes u) nodes) (Some (first_two 0 nodes u)) None
  first_told = rw (first_is, length-take-le nodes u h) refl

-- the lowest node of a sheet that is used twice
unfoldable pub used_twice : Sheet → Option ℕ
used_twice sh = cond (ltb (lowest_twice sh) (length sh.nodes)) (Some (lowest_twice sh)) None

pub twice_some : (sh : Sheet) {n : ℕ} → Some n ≡ used_twice sh → (n ≡ lowest_twice sh) × (lowest_twice sh < length sh.nodes)
unfolding used_twice
twice_some sh {n} = go (dec_lt (lowest_twice sh) (length sh.nodes))
  where
    go : Dec (lowest_twice sh < length sh.nodes) → Some n ≡ cond (ltb (lowest_twice sh) (length sh.nodes)) (Some (lowest_twice sh)) None
        → (n ≡ lowest_twice sh) × (lowest_twice sh < length sh.nodes)
    go (yes h) e = let q = rw (lt-ltb (lowest_twice sh) (length sh.nodes) h) at e in (cc, h)
    go (no h) e = let q = rw (le-ltb (lowest_twice sh) (length sh.nodes) (omega arith)) at e in absurd (cc)

pub twice_none : (sh : Sheet) → None ≡ used_twice sh → length sh.nodes ≤ lowest_twice sh
unfolding used_twice
twice_none sh = go (dec_lt (lowest_twice sh) (length sh.nodes))
  where
    go : Dec (lowest_twice sh < length sh.nodes) → None ≡ cond (ltb (lowest_twice sh) (length sh.nodes)) (Some (lowest_twice sh)) None
        → length sh.nodes ≤ lowest_twice sh
    go (yes h) e = let q = rw (lt-ltb (lowest_twice sh) (length sh.nodes) h) at e in absurd (cc)
    go (no h) e = omega arith

-- n numbers are looked at
pub record Searched (u : List ℕ) (nodes n : ℕ) : Type 0 where
  pub left : ℕ
  pub all : n + left ≡ nodes
  pub same : first_two 0 nodes u ≡ first_two n left u

module _ {u : List ℕ} {nodes : ℕ} where
  pub searched_none : Searched u nodes 0
  searched_none = record { left = nodes; all = zero-add nodes; same = refl }

  pub searched_found : {n : ℕ} → Searched u nodes n → n < nodes → get_or u n 0 ≡ 2 → n ≡ first_two 0 nodes u
  searched_found {n} s h e = go s.left refl
    where
      go : (k : ℕ) → s.left ≡ k → n ≡ first_two 0 nodes u
      go zero q = absurd (omega (arith, s.all))
      go (suc k) q = sym (s.same ∙ ap (λ (i : ℕ). first_two n i u) q ∙ two_here n k u e)

  pub searched_more : {n : ℕ} → Searched u nodes n → n < nodes → (get_or u n 0 ≡ 2 → ⊥) → Searched u nodes (n + 1)
  searched_more {n} s h e = go s.left refl
    where
      go : (k : ℕ) → s.left ≡ k → Searched u nodes (n + 1)
      go zero q = absurd (omega (arith, s.all))
      go (suc k) q = record {
        left = k;
        all = omega (arith, s.all);
        same = s.same ∙ ap (λ (i : ℕ). first_two n i u) q ∙ two_later n k u e ∙ ap (λ (i : ℕ). first_two i k u) (sym (add-one n));
      }

  pub searched_all : {n : ℕ} → Searched u nodes n → nodes ≤ n → n ≡ first_two 0 nodes u
  unfolding first_two
  searched_all {n} s h = let q : s.left ≡ 0 = omega (arith, s.all) in sym (s.same ∙ ap (λ (i : ℕ). first_two n i u) q)

-- A SHEET THAT WAS READ

pub record Fine (s : List ℕ) (t : Table) : Type 0 where
  pub table : ok t ≡ map_result table_of (read_sheet s)

pub fine_read : {s : List ℕ} {t : Table} → Fine s t → (sh : Sheet) × Reads s t sh
fine_read {s} f = table_reads s f.table

-- the table is that of the sheet
pub fine_table : {s : List ℕ} {t : Table} (f : Fine s t) → t ≡ table_of (fine_read f).0
unfolding map_result
fine_table {t = t} f =
    let e : ok t ≡ map_result table_of (ok (fine_read f).0) = f.table ∙ ap (map_result table_of) (fine_read f).1.sheet in
    cc

-- and any table of the sheet is so
pub fine_of : {s : List ℕ} {t : Table} {sh : Sheet} → read_sheet s ≡ ok sh → t ≡ table_of sh → Fine s t
unfolding map_result
fine_of e q = record { table = rw (e, q) refl }

pub same_sheet : {s : List ℕ} {t : Table} {sh : Sheet} (f : Fine s t) → read_sheet s ≡ ok sh → (fine_read f).0 ≡ sh
same_sheet f e = let r = (fine_read f).1.sheet in cc

pub record Sizes (t : Table) : Type 0 where
  pub k : t.k ≤ 16
  pub nodes : t.nodes ≤ 200
  pub sections : t.sections ≤ 8
  pub root : t.root < 200

pub fine_sizes : {s : List ℕ} {t : Table} → Fine s t → Sizes t
fine_sizes f =
    let r = (fine_read f).1 in
    let g = r.ranges in
    record {
      k = omega (arith, r.k, g.few_variables);
      nodes = omega (arith, r.nodes, g.few_nodes);
      sections = omega (arith, r.sections, g.few_sections);
      root = omega (arith, r.root, g.root, g.few_nodes);
    }

-- ITS ROOTS

unfoldable pub roots_at : List ℕ → Table → List ℕ
roots_at s t = t.root ∷ listing t.sections (section_at s)

-- behind the main root i of the sections' roots are written
pub record Rooted (s : List ℕ) (t : Table) (i at : ℕ) (b b' : List ℕ) (r : ℕ) : Type 0 where
  pub few : i ≤ t.sections
  pub wrote : Wrote (listing i (section_at s)) at b b' r

module _ {s : List ℕ} {t : Table} where
  pub rooted_none : {n at r : ℕ} {b b' : List ℕ} → Wrote (n ∷ []) at b b' r → Rooted s t 0 r b' b' r
  rooted_none {r = r} {b' = b'} w = record { few = omega arith; wrote = wrote refl (omega (arith, w.inside)) }

  pub rooted_more : {i at n k r : ℕ} {b b₁ b₂ : List ℕ} → Rooted s t i at b b₁ k → i < t.sections → n ≡ section_at s i → Wrote (n ∷ []) k b₁ b₂ r
      → Rooted s t (i + 1) at b b₂ r
  rooted_more {i} u h e w = record { few = omega arith; wrote = wrote_listing (section_at s) i u.wrote w e }

  pub rooted_all : {i at k r : ℕ} {b b₁ b₂ : List ℕ} → Wrote (t.root ∷ []) at b b₁ k → Rooted s t i k b₁ b₂ r → t.sections ≤ i
      → Wrote (roots_at s t) at b b₂ r
  unfolding roots_at
  rooted_all {i} w u h =
      let q : i ≡ t.sections = omega (arith, u.few) in
      wrote_text (wrote_then w u.wrote) (ap (λ (k : ℕ). t.root ∷ listing k (section_at s)) q)

pub root_small : (s : List ℕ) (i : ℕ) {n : ℕ} → n ≡ section_at s i → Fits w8 (get_or s (4 + 2 * i) 0) → n < 256
unfolding section_at
root_small s i e f = omega (arith, e, f.fits)

pub roots_are : {s : List ℕ} {t : Table} {sh : Sheet} → Reads s t sh → roots_at s t ≡ roots sh
unfolding roots_at roots
roots_are {s} {t} {sh} r =
    ap (λ (k : ℕ). k ∷ listing t.sections (section_at s)) r.root
    ∙ ap (λ (l : List ℕ). sh.root ∷ l)
    (ap (λ (k : ℕ). listing k (section_at s)) r.sections
    ∙ listing_same (length sh.sections) (section_at s) (λ i. get_or sh.sections i 0) (λ i h. r.section i h) ∙ listing_of sh.sections)

-- ITS CHILDREN, node by node

nodes_few : (n : ℕ) (c g : ℕ → ℕ) → length (nodes_in n c g) ≤ n
nodes_few zero c g = omega arith
nodes_few (suc n) c g = go (eqb (c 0) 1) (nodes_few n (λ i. c (suc i)) (λ i. g (suc i)))
  where
    go : (b : Bool) → length (nodes_in n (λ i. c (suc i)) (λ i. g (suc i))) ≤ n
        → length (keep b (g 0) (nodes_in n (λ i. c (suc i)) (λ i. g (suc i)))) ≤ suc n
    go true h = omega arith
    go false h = omega arith

-- of any record
pub named_few : (s : List ℕ) (p : ℕ) → (children_at s p).count ≤ 8
unfolding children_at children_of
named_few s p =
    omega (
      arith,
      kind_narrow (get_or s (p + 0) 0),
      nodes_few (kind_width (get_or s (p + 0) 0)) (part_at (get_or s (p + 0) 0)) (λ i. get_or s (p + i) 0),
    )

pick_few : (r : Role) (fs : List Field) → length (pick r fs) ≤ length fs
pick_few r [] = omega arith
pick_few r (f ∷ fs) = go (eqb (place f.role) (place r)) (pick r fs) (pick_few r fs)
  where
    go : (b : Bool) (l : List ℕ) → length l ≤ length fs → length (keep b f.value l) ≤ suc (length fs)
    go true l h = omega arith
    go false l h = omega arith

roles_few : (fs : List Field) → length fs ≤ sizes (roles fs)
roles_few [] = omega arith
roles_few (f ∷ fs) = omega (arith, one f.role, roles_few fs)
  where
    one : (r : Role) → 1 ≤ size r
    one a_node = omega arith
    one a_section = omega arith
    one a_variable = omega arith
    one a_test = omega arith
    one a_number = omega arith
    one a_wide = omega arith

children_few : (n : Node) → length (children n) ≤ 7
unfolding children width
children_few n = omega (arith, pick_few a_node (row n).body, roles_few (row n).body, width_8 n)

-- the children of node n, as the sheet's bytes tell them
pub record Named (sh : Sheet) (n : ℕ) (c : Children) : Type 0 where
  pub few : c.count ≤ 7
  pub many : c.count ≡ length (children (node_of sh n))
  pub are : take c.count c.nodes ≡ children (node_of sh n)
  pub long : length c.nodes ≡ 8

named_of : (l : List ℕ) → length l ≤ 7
    → ((children_of l).count ≡ length l) × (take (children_of l).count (children_of l).nodes ≡ l) × (length (children_of l).nodes ≡ 8)
unfolding children_of
named_of l h = (refl, take-append_seam l (replicate (8 - length l) 0), simp (length-append, length-replicate) (omega arith))

pub named_there : {s : List ℕ} {t : Table} (f : Fine s t) {n p : ℕ} {c : Children} → n < t.nodes → p ≡ get_or t.starts n 0 → c ≡ children_at s p
    → Named (fine_read f).0 n c
named_there {s} {t} f {n} {p} {c} h e q =
    let r = (fine_read f).1 in
    let sh = (fine_read f).0 in
    let z = children_few (node_of sh n) in
    let y = named_of (children (node_of sh n)) z in
    let w : c ≡ children_of (children (node_of sh n))
    = q ∙ ap (children_at s) e ∙ children_told (made_there s (fine_table f) r.sheet n (omega (arith, r.nodes))) in
    rw w (record { few = omega (arith, y.0); many = y.0; are = y.1; long = y.2 })

-- THE COUNT, as far as node n

pub record Counts (s : List ℕ) (u : List ℕ) : Type 0 where
  pub told : (sh : Sheet) → read_sheet s ≡ ok sh → u ≡ used_all zeros (uses sh)

all_append : (ns ms : List Node) → all_children (ns ++ ms) ≡ all_children ns ++ all_children ms
all_append [] ms = refl
all_append (n ∷ ns) ms = ap (λ (l : List ℕ). children n ++ l) (all_append ns ms) ∙ sym (append_assoc (children n) (all_children ns) (all_children ms))

pub record Counted (sh : Sheet) (n : ℕ) (u : List ℕ) : Type 0 where
  pub few : n ≤ length sh.nodes
  pub so_far : u ≡ used_all zeros (roots sh ++ all_children (take n sh.nodes))

pub roots_few : {s : List ℕ} {t : Table} → Fine s t → length (roots_at s t) ≡ suc t.sections
unfolding roots_at
roots_few {s} {t} f = ap suc (listing_long t.sections (section_at s))

pub counted_start : {s : List ℕ} {t : Table} (f : Fine s t) {u : List ℕ} → u ≡ used_all zeros (roots_at s t) → Counted (fine_read f).0 0 u
counted_start f q = record {
  few = omega arith;
  so_far = q ∙ ap (used_all zeros) (roots_are (fine_read f).1 ∙ sym (append-nil (roots (fine_read f).0)));
}

pub counted_roots : {s : List ℕ} {t : Table} (f : Fine s t) {u ts b b' : List ℕ} {k : ℕ} → Wrote (roots_at s t) 0 b b' k → length b ≡ 9 → ts ≡ take k b'
    → u ≡ used_all zeros ts → Counted (fine_read f).0 0 u
counted_roots {s} {t} f {u} {ts} {b} {b'} {k} w l e q =
    let room : length (roots_at s t) ≤ length b = omega (arith, roots_few f, (fine_sizes f).sections) in
    record {
      few = omega arith;
      so_far = q ∙ ap (used_all zeros) (e ∙ front_read (wrote_front w room) ∙ roots_are (fine_read f).1 ∙ sym (append-nil (roots (fine_read f).0)));
    }

pub counted_more : {s : List ℕ} {t : Table} (f : Fine s t) {n p : ℕ} {c : Children} {u u' ts : List ℕ} → Counted (fine_read f).0 n u → n < t.nodes
    → p ≡ get_or t.starts n 0 → c ≡ children_at s p → ts ≡ take c.count c.nodes → u' ≡ used_all u ts → Counted (fine_read f).0 (n + 1) u'
counted_more f {n} {c = c} {u} {u'} {ts} v h e q w x =
    let sh = (fine_read f).0 in
    let m = named_there f h e q in
    let l : n < length sh.nodes = omega (arith, (fine_read f).1.nodes) in
    record {
      few = omega arith;
      so_far = x ∙ ap (λ z. used_all z ts) v.so_far ∙ sym (used_append zeros (roots sh ++ all_children (take n sh.nodes)) ts)
          ∙ ap (used_all zeros) (append_assoc (roots sh) (all_children (take n sh.nodes)) ts ∙ ap (λ z. roots sh ++ z)
          (ap (λ z. all_children (take n sh.nodes) ++ z) (w ∙ m.are ∙ sym (append-nil (children (node_of sh n))))
          ∙ sym (ap all_children (ap (λ k. take k sh.nodes) (add-one n) ∙ take-suc sh.nodes n False l)
          ∙ all_append (take n sh.nodes) (node_of sh n ∷ []))));
    }

pub counted_all : {s : List ℕ} {t : Table} (f : Fine s t) {n : ℕ} {u : List ℕ} → Counted (fine_read f).0 n u → t.nodes ≤ n → Counts s u
unfolding uses
counted_all {s} f {n} {u} v h = record { told = λ sh e. let z = (fine_read f).1.sheet in v.so_far ∙ same sh (cc) }
  where
    same : (sh : Sheet) → (fine_read f).0 ≡ sh → used_all zeros (roots (fine_read f).0 ++ all_children (take n (fine_read f).0.nodes)) ≡ used_all zeros
        (uses sh)
    same sh e =
        ap (λ z. used_all zeros (roots (fine_read f).0 ++ all_children z)) (take_all n (fine_read f).0.nodes (omega (arith, (fine_read f).1.nodes)))
        ∙ ap (λ z. used_all zeros (uses z)) e

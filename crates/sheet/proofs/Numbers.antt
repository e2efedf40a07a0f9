-- The pass over the numbers of a sheet whose records are read, as far as it has come.
use mathlib.Core.Path.{◌≡◌, refl, sym, ap, ◌∙◌}
use mathlib.Core.Bool.{Bool, true, false, ◌&&◌}
use mathlib.Core.List.{List}
use Prim.Native.Nat.{ℕ, ◌+◌, ◌≤◌, ◌<◌}
use native.Mathlib.Numerals.{add-one}
use native.Mathlib.Omega.{arith}
use lib.Dec.{leb, ltb}
use lib.ListN.{length, get_or, drop, drop_of_length-le}
use lib.Seq.{drop-cons}
use borrow.Author.Tests.{lt-ltb, le-ltb}
use Rattle.value.specs.Result.{ok, refusal, and_then, map_result, unless}
use Rattle.value.proofs.Numbered.{numbered_ok, numbered_err}
use Rattle.node.specs.Kinds.{node_in_range}
use Rattle.sheet.specs.Sheet.{Sheet, roots_in_range, nodes_in_range, in_range, read_header, read_sheet}
use Rattle.node.specs.Decoding.{node_at}
use Rattle.sheet.specs.Table.{table_of, section_at, RootsJudged, NodesJudged, SheetJudged}
use Rattle.sheet.specs.Reading.{fine_ok, HeaderRead, header_fine}
use Rattle.sheet.specs.Laws.{header_node, header_section, table_start}
use Rattle.node.specs.declared.Node.{Node}
use Rattle.node.specs.declared.Node.TheVariants.{False}
use Rattle.sheet.specs.declared.Table.{Table}

-- THE ROOTS OF SECTIONS: those of the first i are in range

pub record Roots (s : List ℕ) (sections nodes i : ℕ) : Type 0 where
  pub few : i ≤ sections
  pub rest : (rs : List ℕ) → length rs ≡ sections → ((j : ℕ) → j < length rs → section_at s j ≡ get_or rs j 0)
      → roots_in_range nodes rs ≡ roots_in_range nodes (drop i rs)

pub roots_none : (s : List ℕ) (sections nodes : ℕ) → Roots s sections nodes 0
roots_none s sections nodes = record { few = omega arith; rest = λ rs l a. refl }

next_root : (nodes : ℕ) (rs : List ℕ) (i : ℕ) → i < length rs → roots_in_range nodes (drop i rs) ≡ ltb (get_or rs i 0) nodes && roots_in_range nodes
    (drop (i + 1) rs)
unfolding roots_in_range
next_root nodes rs i h = rw (add-one, drop-cons rs i 0)

module _ {s : List ℕ} {sections nodes i : ℕ} (to : Roots s sections nodes i) where
  pub roots_all : sections ≤ i → RootsJudged s sections nodes true
  unfolding roots_in_range
  roots_all h rs l a =
      let e : length rs ≤ i = omega arith in
      rw (to.rest rs l a, drop_of_length-le rs e)

  module _ (h : i < sections) {r : ℕ} (e : r ≡ section_at s i) where
    judged : (b : Bool) → ltb r nodes ≡ b → (rs : List ℕ) → length rs ≡ sections → ((j : ℕ) → j < length rs → section_at s j ≡ get_or rs j 0)
        → roots_in_range nodes rs ≡ b && roots_in_range nodes (drop (i + 1) rs)
    judged b t rs l a =
        let k : i < length rs = omega arith in
        let q : get_or rs i 0 ≡ r = sym (a i k) ∙ sym e in
        rw (to.rest rs l a, next_root nodes rs i k, q, t)

    pub root_out : nodes ≤ r → RootsJudged s sections nodes false
    root_out o rs l a = sym (judged false (le-ltb r nodes o) rs l a)

    pub root_in : r < nodes → Roots s sections nodes (i + 1)
    root_in o = record { few = omega arith; rest = judged true (lt-ltb r nodes o) }

-- THE NODES: the numbers of the first i are in range

pub record Nodes (s : List ℕ) (t : Table) (i : ℕ) : Type 0 where
  pub few : i ≤ t.nodes
  pub rest : (ns : List Node) → length ns ≡ t.nodes → ((j : ℕ) → j < length ns → node_at s (get_or t.starts j 0) ≡ get_or ns j False)
      → nodes_in_range t.nodes t.sections 0 ns ≡ nodes_in_range t.nodes t.sections i (drop i ns)

pub nodes_none : (s : List ℕ) (t : Table) → Nodes s t 0
nodes_none s t = record { few = omega arith; rest = λ ns l a. refl }

next_node : (nodes sections : ℕ) (ns : List Node) (i : ℕ) → i < length ns
    → nodes_in_range nodes sections i (drop i ns) ≡ node_in_range nodes sections i (get_or ns i False) && nodes_in_range nodes sections (i + 1)
    (drop (i + 1) ns)
unfolding nodes_in_range
next_node nodes sections ns i h = rw (add-one, drop-cons ns i False)

module _ {s : List ℕ} {t : Table} {i : ℕ} (to : Nodes s t i) where
  pub nodes_all : t.nodes ≤ i → NodesJudged s t true
  unfolding nodes_in_range
  nodes_all h ns l a =
      let e : length ns ≤ i = omega arith in
      rw (to.rest ns l a, drop_of_length-le ns e)

  module _ (h : i < t.nodes) {b : Bool} (q : b ≡ node_in_range t.nodes t.sections i (node_at s (get_or t.starts i 0))) where
    judged_node : (ns : List Node) → length ns ≡ t.nodes → ((j : ℕ) → j < length ns → node_at s (get_or t.starts j 0) ≡ get_or ns j False)
        → nodes_in_range t.nodes t.sections 0 ns ≡ b && nodes_in_range t.nodes t.sections (i + 1) (drop (i + 1) ns)
    judged_node ns l a =
        let k : i < length ns = omega arith in
        rw (to.rest ns l a, next_node t.nodes t.sections ns i k, ← a i k, ← q)

    pub node_out : b ≡ false → NodesJudged s t false
    node_out o ns l a = sym (rw o at (judged_node ns l a))

    pub node_in : b ≡ true → Nodes s t (i + 1)
    node_in o = record { few = omega arith; rest = λ ns l a. rw o at (judged_node ns l a) }

-- THE SHEET whose records are r

pub few_nodes : (s : List ℕ) {t : Table} → ok t ≡ map_result table_of (read_header s) → t.nodes ≤ 200
unfolding table_of
few_nodes s e = let p = numbered_ok e in rw p.made (fine_ok (header_fine s) p.found).few_nodes

-- k, the root, the sections' roots and the nodes, in this order
judged_sheet : {s : List ℕ} {sh : Sheet} → HeaderRead s sh → (t : Table) → t ≡ table_of sh → {a b : Bool} → RootsJudged s t.sections t.nodes a
    → NodesJudged s t b
    → leb 1 t.k && leb t.k 16 && ltb t.root t.nodes && a && b ≡ in_range sh
unfolding table_of in_range
judged_sheet {s} {sh} h t q {a} {b} =
    rw q
    (λ ra nb.
    let e : a ≡ roots_in_range (length sh.nodes) sh.sections = ra sh.sections refl (header_section h) in
    let f : b ≡ nodes_in_range (length sh.nodes) (length sh.sections) 0 sh.nodes =
    nb sh.nodes refl (λ i l. ap (node_at s) (table_start sh i l) ∙ header_node h i l) in
    rw (e, f))

pub sheet_judged : (s : List ℕ) {t : Table} → ok t ≡ map_result table_of (read_header s) → {a b : Bool} → RootsJudged s t.sections t.nodes a
    → NodesJudged s t b → SheetJudged s (leb 1 t.k && leb t.k 16 && ltb t.root t.nodes && a && b)
sheet_judged s {t} p ra nb sh e =
    let q = numbered_ok p in
    let same : ok sh ≡ ok q.value = sym e ∙ q.found in
    let one : sh ≡ q.value = cc in
    judged_sheet (fine_ok (header_fine s) e) t (q.made ∙ ap table_of (sym one)) ra nb

module _ (s : List ℕ) where
  -- the records are refused
  pub read_refused : {c : ℕ} → refusal c ≡ map_result table_of (read_header s) → refusal c ≡ map_result table_of (read_sheet s)
  unfolding read_sheet map_result and_then
  read_refused e = rw (numbered_err table_of e)

  all_in : {sh : Sheet} → read_header s ≡ ok sh → in_range sh ≡ true → read_sheet s ≡ ok sh
  unfolding read_sheet and_then unless
  all_in e q = rw (e, q)

  one_out : {sh : Sheet} → read_header s ≡ ok sh → in_range sh ≡ false → read_sheet s ≡ refusal 13
  unfolding read_sheet and_then unless
  one_out e q = rw (e, q)

  module _ {t : Table} (e : ok t ≡ map_result table_of (read_header s)) {b : Bool} (j : SheetJudged s b) where
    pub read_in : b ≡ true → ok t ≡ map_result table_of (read_sheet s)
    unfolding map_result
    read_in q = let p = numbered_ok e in ap ok p.made ∙ sym (rw (all_in p.found (sym (j p.value p.found) ∙ q)))

    pub read_out : b ≡ false → refusal 13 ≡ map_result table_of (read_sheet s)
    unfolding map_result
    read_out q = let p = numbered_ok e in rw (one_out p.found (sym (j p.value p.found) ∙ q))

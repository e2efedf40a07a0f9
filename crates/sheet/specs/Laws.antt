-- Laws of a sheet that was read, for callers: where its records stand, the range of each number, and what the table tells.
use Rattle.std.specs.Prelude.{◌≡◌, true, leb, ltb, length, get_or, replicate}
use Rattle.std.proofs.Math.Path.{refl}
use Rattle.std.proofs.Common.{ap, ◌∙◌, zero-add, leb-true, ltb-true, inl, inr}
use mathlib.Core.List.{List, [], ◌∷◌}
use Prim.Native.Nat.{ℕ, zero, suc, ◌+◌, ◌*◌, ◌-◌, ◌≤◌, ◌<◌}
use Rattle.std.proofs.Math.Nat.{add-zero}
use native.Mathlib.Omega.{arith}
use Rattle.std.proofs.Math.ListN.{get_or-append}
use Rattle.value.specs.Result.{ok, refusal, map_result}
use Rattle.value.proofs.Numbered.{Answered, numbered_ok, numbered_err}
use Rattle.value.proofs.Laws.{and-true}
use Rattle.std.proofs.Math.Option.{none}
use Rattle.std.proofs.Math.Decide.{dec_lt}
use Rattle.node.specs.Forms.{no_form}
use Rattle.sheet.specs.Sheet.{Sheet, nodes_in_range, roots_in_range, in_range, read_sheet}
use Rattle.node.specs.Kinds.{Role, a_node, a_section, a_variable, a_test, a_number, a_wide, Field, row, past}
use Rattle.node.specs.Kinds.{form_of, width, fits, all_fit, node_in_range}
use Rattle.node.specs.Decoding.{node_at}
use Rattle.sheet.specs.Table.{offsets, first_node, section_at, table_of}
use Rattle.sheet.specs.Reading.{fine_ok, Made, placed_at, made_at, rooted_at, HeaderRead, SheetRead, sheet_fine}
use Rattle.node.specs.declared.Node.{Node}
use Rattle.sheet.specs.declared.Table.{Table}
use Rattle.node.specs.declared.Node.TheVariants.{False}

-- WHERE RECORDS STAND

pub sheet_read : (s : List ℕ) {sh : Sheet} → read_sheet s ≡ ok sh → SheetRead s sh
sheet_read s = fine_ok (sheet_fine s)

pub header_node : {s : List ℕ} {sh : Sheet} → HeaderRead s sh → (i : ℕ) → i < length sh.nodes
    → node_at s (get_or (offsets (first_node (length sh.sections)) sh.nodes) i 0) ≡ get_or sh.nodes i False
header_node h i l = placed_at h.placed i l

pub header_section : {s : List ℕ} {sh : Sheet} → HeaderRead s sh → (i : ℕ) → i < length sh.sections → section_at s i ≡ get_or sh.sections i 0
unfolding section_at
header_section h i l = rooted_at h.rooted i l

pub node_read : (s : List ℕ) {sh : Sheet} → read_sheet s ≡ ok sh → (i : ℕ) → i < length sh.nodes
    → node_at s (get_or (offsets (3 + 2 * length sh.sections) sh.nodes) i 0) ≡ get_or sh.nodes i False
node_read s e = header_node (sheet_read s e).header

-- the bytes of a record tell its node
pub node_made : (s : List ℕ) {sh : Sheet} → read_sheet s ≡ ok sh → (i : ℕ) → i < length sh.nodes
    → Made s (get_or (offsets (3 + 2 * length sh.sections) sh.nodes) i 0) (get_or sh.nodes i False)
node_made s e i h = made_at (sheet_read s e).header.placed i h

pub made_kind : {s : List ℕ} {p : ℕ} {n : Node} → Made s p n → (16 ≤ get_or s (p + 0) 0) × (get_or s (p + 0) 0 < past)
made_kind {s} {p} m = (go (dec_lt (get_or s (p + 0) 0) 16), go' (dec_lt (get_or s (p + 0) 0) past))
  where
    none-some : form_of (get_or s (p + 0) 0) ≡ none → ⊥
    none-some e = let x = m.known in let z : ◌≡◌ {A = ℕ} 0 1 = cc in omega arith

    go : Dec (get_or s (p + 0) 0 < 16) → 16 ≤ get_or s (p + 0) 0
    go (yes h) = absurd (none-some (no_form (get_or s (p + 0) 0) (inl h)))
    go (no h) = omega arith

    go' : Dec (get_or s (p + 0) 0 < past) → get_or s (p + 0) 0 < past
    go' (yes h) = h
    go' (no h) = absurd (none-some (no_form (get_or s (p + 0) 0) (inr (omega arith))))

pub section_read : (s : List ℕ) {sh : Sheet} → read_sheet s ≡ ok sh → (i : ℕ) → i < length sh.sections → section_at s i ≡ get_or sh.sections i 0
section_read s e = header_section (sheet_read s e).header

-- THE RANGE OF EACH NUMBER

-- a node that node `own` names: a higher number, of a node that is there
pub record Child (nodes own c : ℕ) : Type 0 where
  pub above : own < c
  pub inside : c < nodes

-- what a number in range is known to be, by its role
module _ (nodes sections own : ℕ) where
  abbrev pub InRange : Role → ℕ → Type 0
  InRange a_node v = Child nodes own v
  InRange a_section v = v < sections
  InRange a_variable v = Unit
  InRange a_test v = v ≤ 6
  InRange a_number v = v ≤ 65535
  InRange a_wide v = (65535 < v) × (v ≤ 4294967295)

  abbrev pub AllFit : List Field → Type 0
  AllFit [] = Unit
  AllFit (f ∷ fs) = InRange f.role f.value × AllFit fs

  -- and so each number of a node, in body order
  abbrev pub Ranged : Node → Type 0
  Ranged n = AllFit (row n).body

  in_role : (r : Role) (v : ℕ) → fits nodes sections own r v ≡ true → InRange r v
  in_role a_node v e =
      let p = and-true (ltb own v) (ltb v nodes) e in
      record { above = ltb-true own v p.0; inside = ltb-true v nodes p.1 }
  in_role a_section v e = ltb-true v sections e
  in_role a_variable v e = tt
  in_role a_test v e = leb-true v 6 e
  in_role a_number v e = leb-true v 65535 e
  in_role a_wide v e =
      let p = and-true (ltb 65535 v) (leb v 4294967295) e in
      (ltb-true 65535 v p.0, leb-true v 4294967295 p.1)

  all_in : (fs : List Field) → all_fit nodes sections own fs ≡ true → AllFit fs
  all_in [] e = tt
  all_in (f ∷ fs) e =
      let p = and-true (fits nodes sections own f.role f.value) (all_fit nodes sections own fs) e in
      (in_role f.role f.value p.0, all_in fs p.1)

  pub ranged : (n : Node) → node_in_range nodes sections own n ≡ true → Ranged n
  unfolding node_in_range
  ranged n e = all_in (row n).body e

roots_in : (nodes : ℕ) (rs : List ℕ) → roots_in_range nodes rs ≡ true → (i : ℕ) → i < length rs → get_or rs i 0 < nodes
unfolding roots_in_range
roots_in nodes [] e i h = absurd (omega arith)
roots_in nodes (r ∷ rs) e zero h = ltb-true r nodes (and-true (ltb r nodes) (roots_in_range nodes rs) e).0
roots_in nodes (r ∷ rs) e (suc i) h = roots_in nodes rs (and-true (ltb r nodes) (roots_in_range nodes rs) e).1 i (omega arith)

module _ (nodes sections : ℕ) where
  nodes_in : (own : ℕ) (ns : List Node) → nodes_in_range nodes sections own ns ≡ true → (i : ℕ) → i < length ns
      → node_in_range nodes sections (own + i) (get_or ns i False) ≡ true
  unfolding nodes_in_range
  nodes_in own [] e i h = absurd (omega arith)
  nodes_in own (n ∷ ns) e zero h = rw add-zero (and-true (node_in_range nodes sections own n) (nodes_in_range nodes sections (suc own) ns) e).0
  nodes_in own (n ∷ ns) e (suc i) h =
      let q : suc own + i ≡ own + suc i = omega arith in
      rw q at (nodes_in (suc own) ns (and-true (node_in_range nodes sections own n) (nodes_in_range nodes sections (suc own) ns) e).1 i (omega arith))

-- every number of a sheet that was read
pub record Ranges (sh : Sheet) : Type 0 where
  pub some_variable : 1 ≤ sh.k
  pub few_variables : sh.k ≤ 16
  pub root : sh.root < length sh.nodes
  pub few_sections : length sh.sections ≤ 8
  pub some_node : 1 ≤ length sh.nodes
  pub few_nodes : length sh.nodes ≤ 200
  pub section : (i : ℕ) → i < length sh.sections → get_or sh.sections i 0 < length sh.nodes
  pub node : (i : ℕ) → i < length sh.nodes → Ranged (length sh.nodes) (length sh.sections) i (get_or sh.nodes i False)

pub sheet_ranges : (s : List ℕ) {sh : Sheet} → read_sheet s ≡ ok sh → Ranges sh
unfolding in_range
sheet_ranges s {sh} e =
    let h = sheet_read s e in
    let m : ℕ = length sh.nodes in
    let p₁ = and-true _ (nodes_in_range m (length sh.sections) 0 sh.nodes) h.ranged in
    let p₂ = and-true _ (roots_in_range m sh.sections) p₁.0 in
    let p₃ = and-true _ (ltb sh.root m) p₂.0 in
    let p₄ = and-true (leb 1 sh.k) (leb sh.k 16) p₃.0 in
    record {
      some_variable = leb-true 1 sh.k p₄.0;
      few_variables = leb-true sh.k 16 p₄.1;
      root = ltb-true sh.root m p₃.1;
      few_sections = h.header.few_sections;
      some_node = h.header.some_node;
      few_nodes = h.header.few_nodes;
      section = roots_in m sh.sections p₂.1;
      node =
          λ i l.
          ranged m (length sh.sections) i (get_or sh.nodes i False)
          (rw zero-add at (nodes_in m (length sh.sections) 0 sh.nodes p₁.1 i l));
    }

-- WHAT THE TABLE TELLS

pub length-offsets : (p : ℕ) (ns : List Node) → length (offsets p ns) ≡ length ns
unfolding offsets
length-offsets p [] = refl
length-offsets p (n ∷ ns) = ap suc (length-offsets (p + width n) ns)

-- the start of node i
pub table_start : (sh : Sheet) (i : ℕ) → i < length sh.nodes
    → get_or (table_of sh).starts i 0 ≡ get_or (offsets (first_node (length sh.sections)) sh.nodes) i 0
unfolding table_of
table_start sh i h =
    let o : List ℕ = offsets (first_node (length sh.sections)) sh.nodes in
    get_or-append o (replicate (200 - length o) 0) 0 i (rw length-offsets h)

-- a table is that of a sheet, and a refusal is that of the reading
pub table_ok : (s : List ℕ) {t : Table} → ok t ≡ map_result table_of (read_sheet s) → Answered table_of (read_sheet s) t
table_ok s = numbered_ok

pub table_refused : (s : List ℕ) {c : ℕ} → refusal c ≡ map_result table_of (read_sheet s) → read_sheet s ≡ refusal c
table_refused s = numbered_err table_of

-- a table, and the sheet that it is of
pub record Reads (s : List ℕ) (t : Table) (sh : Sheet) : Type 0 where
  pub sheet : read_sheet s ≡ ok sh
  pub k : t.k ≡ sh.k
  pub root : t.root ≡ sh.root
  pub sections : t.sections ≡ length sh.sections
  pub nodes : t.nodes ≡ length sh.nodes
  pub section : (i : ℕ) → i < length sh.sections → section_at s i ≡ get_or sh.sections i 0
  pub node : (i : ℕ) → i < length sh.nodes → node_at s (get_or t.starts i 0) ≡ get_or sh.nodes i False
  pub ranges : Ranges sh

reads_ok : (s : List ℕ) {sh : Sheet} → read_sheet s ≡ ok sh → Reads s (table_of sh) sh
unfolding table_of
reads_ok s {sh} e =
    record {
      sheet = e;
      k = refl;
      root = refl;
      sections = refl;
      nodes = refl;
      section = section_read s e;
      node = λ i h. ap (node_at s) (table_start sh i h) ∙ node_read s e i h;
      ranges = sheet_ranges s e;
    }

of_table : {s : List ℕ} {sh : Sheet} {t : Table} → read_sheet s ≡ ok sh → t ≡ table_of sh → Reads s t sh
of_table {s} e q = rw q (reads_ok s e)

pub table_reads : (s : List ℕ) {t : Table} → ok t ≡ map_result table_of (read_sheet s) → (sh : Sheet) × Reads s t sh
table_reads s e = let r = table_ok s e in (r.value, of_table r.found r.made)

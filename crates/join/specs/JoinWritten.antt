-- The joined sheet as it is written, piece by piece.
use Rattle.std.specs.Prelude.{◌≡◌, refl, List, [], ◌∷◌, ◌++◌, map, get_or}
use Rattle.std.proofs.Math.Path.{ap, sym}
use Rattle.std.proofs.Common.{◌∙◌, append_assoc, arith}
use Prim.Native.Nat.{ℕ, suc, ◌+◌, ◌≤◌, ◌<◌}
use Rattle.std.proofs.Math.Nat.{zero-add}
use Rattle.std.proofs.Math.ListN.{length}
use Rattle.value.specs.Result.{ok, map_result}
use Rattle.report.specs.Writing.{Wrote, wrote_then, wrote_text}
use Rattle.node.specs.declared.Node.{Node}
use Rattle.node.specs.declared.Node.TheVariants.{False}
use Rattle.sheet.specs.declared.Table.{Table}
use Rattle.node.specs.Kinds.{children, calls, written}
use Rattle.sheet.specs.Renumbering.{renumber}
use Rattle.sheet.specs.Sheet.{Sheet, read_sheet}
use Rattle.sheet.specs.Table.{table_of, section_at}
use Rattle.node.specs.Forms.{listing}
use Rattle.sheet.specs.Laws.{Child, Ranges, sheet_ranges, section_read}
use Rattle.sheet.specs.Rows.{all_written, sheet_written}
use Rattle.sheet.proofs.Written.{Bytes}
use Rattle.sheet.proofs.Ranging.{every_map, children_in, calls_in}
use Rattle.records.specs.declared.Anew.{Anew}
use Rattle.records.specs.Anew.{shifted_by, within, new_node, new_section, records_of, named, roots_of, sections_of}
use Rattle.records.specs.AnewLaws.{listing_same, listing-map, every_listing, within_in, shift_at, Renumbers, records_are, roots_append, roots_written_lem}
use Rattle.rules.specs.Laws.Embedding.{itself}
use Rattle.joined.specs.Joined.{node_behind, section_behind, joined}
use Rattle.joined.specs.JoinedCalls.{joined_bytes, Joins}
use Rattle.joined.proofs.JoinedCalls.{joined_told, joined_short}
use Rattle.join.specs.JoinAnswer.{text_of}

-- all nodes in their order, their numbers raised and those of the sections
unfoldable pub anew_of : (count by sections-by : ℕ) → Anew
anew_of count by sby = record { count = count; order = shifted_by 0; nodes = shifted_by by; sections = shifted_by sby }

-- two sheets that fit
pub record Joinable (s : List ℕ) (a : Table) (t : List ℕ) (b : Table) : Type 0 where
  pub first_table : ok a ≡ map_result table_of (read_sheet s)
  pub second_table : ok b ≡ map_result table_of (read_sheet t)
  pub bytes : List ℕ
  pub answer : joined_bytes s t ≡ ok bytes

-- LISTS

map-listing : (h : Node → Node) (ns : List Node) (d : Node) → map (λ n. h (get_or ns n d)) (listing (length ns) (λ i. i)) ≡ map h ns
map-listing h ns d = go ns (λ i. i) (λ i z. refl)
  where
    go : (ms : List Node) (k : ℕ → ℕ) → ((i : ℕ) → i < length ms → get_or ns (k i) d ≡ get_or ms i d)
        → map (λ n. h (get_or ns n d)) (listing (length ms) k) ≡ map h ms
    go [] k e = refl
    go (m ∷ ms) k e =
        ap (λ (n : Node). h n ∷ map (λ n. h (get_or ns n d)) (listing (length ms) (λ i. k (suc i)))) (e 0 (omega arith))
        ∙ ap (λ (l : List Node). h m ∷ l) (go ms (λ i. k (suc i)) (λ i z. e (suc i) (omega arith)))

all_append : (ns ms : List Node) → all_written (ns ++ ms) ≡ all_written ns ++ all_written ms
all_append [] ms = refl
all_append (n ∷ ns) ms = ap (λ (l : List ℕ). written n ++ l) (all_append ns ms) ∙ sym (append_assoc (written n) (all_written ns) (all_written ms))

-- ONE OF THE TWO SHEETS, its numbers raised

module _ (s : List ℕ) {t : Table} {sh : Sheet} (table : t ≡ table_of sh) (read : read_sheet s ≡ ok sh) (small : Bytes s)
    (by sby : ℕ) (f g : ℕ → ℕ) (ef : (c : ℕ) → by + c ≡ f c) (eg : (i : ℕ) → sby + i ≡ g i)
    (room : by + length sh.nodes ≤ 256) (room' : sby + length sh.sections ≤ 256) where
  abbrev m : Anew
  m = anew_of t.nodes by sby

  r : Ranges sh
  r = sheet_ranges s read

  nodes_many : t.nodes ≡ length sh.nodes
  unfolding table_of
  nodes_many = ap (λ (x : Table). x.nodes) table

  sections_many : t.sections ≡ length sh.sections
  unfolding table_of
  sections_many = ap (λ (x : Table). x.sections) table

  node_raised : (c : ℕ) → c < length sh.nodes → new_node m c ≡ f c
  unfolding anew_of
  node_raised c h = shift_at by c (omega arith) ∙ ef c

  section_raised : (i : ℕ) → i < length sh.sections → new_section m i ≡ g i
  unfolding anew_of
  section_raised i h = shift_at sby i (omega arith) ∙ eg i

  pub sections_raised : sections_of s t.sections m ≡ roots_of (map f sh.sections)
  unfolding sections_of
  sections_raised =
      ap roots_of (ap (λ (k : ℕ). listing k (λ i. new_node m (section_at s i))) sections_many
      ∙ listing_same (length sh.sections) (λ i. new_node m (section_at s i)) (λ i. f (get_or sh.sections i 0))
      (λ i h. ap (new_node m) (section_read s read i h) ∙ node_raised _ (r.section i h))
      ∙ listing-map f 0 sh.sections)

  named_all : named m ≡ listing (length sh.nodes) (λ i. i)
  unfolding named anew_of
  named_all =
      ap (λ (k : ℕ). listing k (within 256 (shifted_by 0))) nodes_many
      ∙ listing_same (length sh.nodes) (within 256 (shifted_by 0)) (λ i. i)
      (λ i h. within_in 256 (shifted_by 0) i (omega arith) ∙ shift_at 0 i (omega arith) ∙ zero-add i)

  renumbers : (n : ℕ) → n < length sh.nodes → Renumbers sh m f g n
  renumbers n h = record {
    inside = h;
    nodes = every_map (λ c (z : Child (length sh.nodes) n c). node_raised c z.inside) (children (get_or sh.nodes n False)) (children_in r n h);
    sections = every_map section_raised (calls (get_or sh.nodes n False)) (calls_in r n h);
  }

  pub nodes_raised : records_of s t.starts m (named m) ≡ all_written (map (renumber f g) sh.nodes)
  nodes_raised =
      ap (records_of s t.starts m) named_all
      ∙ records_are s table read small m f g (listing (length sh.nodes) (λ i. i))
      (every_listing (Renumbers sh m f g) (length sh.nodes) (λ i. i) renumbers)
      ∙ ap all_written (map-listing (renumber f g) sh.nodes False)

-- THE WHOLE

-- the header, the sections of both, the pair, the nodes of both
abbrev pub pieces : (k first second : ℕ) (a b c d : List ℕ) → List ℕ
pieces k first second a b c d = (0x01 ∷ k ∷ 0x00 ∷ []) ++ (a ++ (b ++ ((0x16 ∷ first ∷ second ∷ []) ++ (c ++ d))))

pieces_same : {k k' p p' q q' : ℕ} {a a' b b' c c' d d' : List ℕ} → k ≡ k' → p ≡ p' → q ≡ q' → a ≡ a' → b ≡ b' → c ≡ c' → d ≡ d'
    → pieces k p q a b c d ≡ pieces k' p' q' a' b' c' d'
pieces_same ek ep eq ea eb ec ed = cc

joined-pieces : (x y : Sheet) → sheet_written (joined x y) ≡ pieces x.k (suc x.root) (node_behind x y.root)
    (roots_of (map suc x.sections)) (roots_of (map (node_behind x) y.sections))
    (all_written (map (renumber suc itself) x.nodes)) (all_written (map (renumber (node_behind x) (section_behind x)) y.nodes))
unfolding sheet_written joined written
joined-pieces x y =
    let a : List ℕ = map suc x.sections in
    let b : List ℕ = map (node_behind x) y.sections in
    let p : List Node = map (renumber suc itself) x.nodes in
    let q : List Node = map (renumber (node_behind x) (section_behind x)) y.nodes in
    let l : List ℕ = 0x16 ∷ suc x.root ∷ node_behind x y.root ∷ all_written (p ++ q) in
    ap (λ (z : List ℕ). 0x01 ∷ x.k ∷ 0x00 ∷ z)
    (roots_written_lem (a ++ b) l ∙ ap (λ (z : List ℕ). z ++ l) (roots_append a b) ∙ append_assoc (roots_of a) (roots_of b) l
    ∙ ap (λ (z : List ℕ). roots_of a ++ (roots_of b ++ (0x16 ∷ suc x.root ∷ node_behind x y.root ∷ z))) (all_append p q))

-- what the tables say
pub record Sizes (a b : Table) : Type 0 where
  pub k : a.k ≤ 16
  pub root : a.root < a.nodes
  pub other : b.root < b.nodes
  pub nodes : 1 + a.nodes + b.nodes ≤ 200
  pub sections : a.sections + b.sections ≤ 8

sizes_of : {x y : Sheet} → Ranges x → Ranges y → suc (length x.nodes + length y.nodes) ≤ 200
    → length x.sections + length y.sections ≤ 8 → Sizes (table_of x) (table_of y)
unfolding table_of
sizes_of r r' n c = record { k = r.few_variables; root = r.root; other = r'.root; nodes = omega arith; sections = c }

sizes_is : {a b a' b' : Table} → a ≡ a' → b ≡ b' → Sizes a' b' → Sizes a b
sizes_is p q z = rw (p, q) z

module _ {s t : List ℕ} {a b : Table} (h : Joinable s a t b) (small : Bytes s) (small' : Bytes t) where
  told : Joins s t h.bytes
  told = joined_told s t h.answer

  abbrev x : Sheet
  x = told.first

  abbrev y : Sheet
  y = told.second

  first_is : a ≡ table_of x
  unfolding map_result
  first_is = let e : ok a ≡ ok (table_of x) = h.first_table ∙ ap (map_result table_of) told.read_first in cc

  second_is : b ≡ table_of y
  unfolding map_result
  second_is = let e : ok b ≡ ok (table_of y) = h.second_table ∙ ap (map_result table_of) told.read_second in cc

  pub sizes : Sizes a b
  sizes = sizes_is first_is second_is (sizes_of (sheet_ranges s told.read_first) (sheet_ranges t told.read_second) told.few_nodes told.few_sections)

  pub joined_text : text_of (joined_bytes s t) ≡ pieces a.k (1 + a.root) (1 + a.nodes + b.root)
      (sections_of s a.sections (anew_of a.nodes 1 0)) (sections_of t b.sections (anew_of b.nodes (1 + a.nodes) a.sections))
      (records_of s a.starts (anew_of a.nodes 1 0) (named (anew_of a.nodes 1 0)))
      (records_of t b.starts (anew_of b.nodes (1 + a.nodes) a.sections) (named (anew_of b.nodes (1 + a.nodes) a.sections)))
  unfolding text_of table_of
  joined_text =
      let n : a.nodes ≡ length x.nodes = ap (λ (z : Table). z.nodes) first_is in
      let c : a.sections ≡ length x.sections = ap (λ (z : Table). z.sections) first_is in
      let k : a.k ≡ x.k = ap (λ (z : Table). z.k) first_is in
      let p : a.root ≡ x.root = ap (λ (z : Table). z.root) first_is in
      let q : b.root ≡ y.root = ap (λ (z : Table). z.root) second_is in
      let u = told.few_nodes in
      let v = told.few_sections in
      ap text_of h.answer ∙ told.written ∙ joined-pieces x y
      ∙ sym (pieces_same k (omega arith) (omega arith)
      (sections_raised s first_is told.read_first small 1 0 suc itself (λ i. omega arith) (λ i. omega arith) (omega arith) (omega arith))
      (sections_raised t second_is told.read_second small' (1 + a.nodes) a.sections (node_behind x) (section_behind x)
      (λ i. omega arith) (λ i. omega arith)
      (omega arith) (omega arith))
      (nodes_raised s first_is told.read_first small 1 0 suc itself (λ i. omega arith) (λ i. omega arith) (omega arith) (omega arith))
      (nodes_raised t second_is told.read_second small' (1 + a.nodes) a.sections (node_behind x) (section_behind x)
      (λ i. omega arith) (λ i. omega arith)
      (omega arith) (omega arith)))

  -- it has room
  pub joined_fits : length (text_of (joined_bytes s t)) ≤ 1619
  unfolding text_of
  joined_fits = rw h.answer (joined_short told)

-- PIECE BEHIND PIECE
pub wrote_joined : {s t : List ℕ} {a b : Table} {m n : Anew} {r₁ r₂ r₃ r₄ r₅ r₆ : ℕ} {b₀ b₁ b₂ b₃ b₄ b₅ b₆ : List ℕ} → Joinable s a t b → Bytes s → Bytes t
    → m ≡ anew_of a.nodes 1 0 → n ≡ anew_of b.nodes (1 + a.nodes) a.sections
    → Wrote (0x01 ∷ a.k ∷ 0x00 ∷ []) 0 b₀ b₁ r₁ → Wrote (sections_of s a.sections m) r₁ b₁ b₂ r₂ → Wrote (sections_of t b.sections n) r₂ b₂ b₃ r₃
    → Wrote (0x16 ∷ (1 + a.root) ∷ (1 + a.nodes + b.root) ∷ []) r₃ b₃ b₄ r₄ → Wrote (records_of s a.starts m (named m)) r₄ b₄ b₅ r₅
    → Wrote (records_of t b.starts n (named n)) r₅ b₅ b₆ r₆ → Wrote (text_of (joined_bytes s t)) 0 b₀ b₆ r₆
wrote_joined h small small' em en w₁ w₂ w₃ w₄ w₅ w₆ =
    wrote_text (wrote_then w₁ (wrote_then (rw em at w₂) (wrote_then (rw en at w₃) (wrote_then w₄ (wrote_then (rw em at w₅) (rw en at w₆))))))
    (sym (joined_text h small small'))

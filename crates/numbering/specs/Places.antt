-- Nodes in an order, each under the number of its place, and the sheet that is written of them.
use Rattle.std.specs.Prelude.{◌≡◌, ℕ, ◌+◌, ◌≤◌, ◌<◌, length, get_or, set, replicate}
use Rattle.std.proofs.Math.Path.{ap}
use Rattle.std.proofs.Common.{sym, ◌∙◌, zero-add, arith, length-set, get_or-set_same, get_or-set_other, get_or-take}
use mathlib.Core.List.{List, [], ◌∷◌, ◌++◌}
use Rattle.std.proofs.Math.Decide.{dec_lt}
use Rattle.std.proofs.lemmas.List.{length-replicate}
use Rattle.report.specs.Writing.{Wrote, wrote_then}
use Rattle.sheet.specs.declared.Table.{Table}
use Rattle.node.specs.Kinds.{children, calls}
use Rattle.sheet.specs.Sheet.{Sheet}
use Rattle.sheet.specs.Table.{section_at}
use Rattle.node.specs.Forms.{listing}
use Rattle.sheet.specs.Rows.{all_written, sheet_written}
use Rattle.sheet.proofs.Written.{Bytes}
use Rattle.sheet.proofs.Ranging.{every_map, map_at, calls_in}
use Rattle.records.specs.declared.Anew.{Anew}
use Rattle.records.specs.Anew.{shifted_by, within, new_node, new_section, records_of, named, roots_of, sections_of}
use Rattle.records.specs.AnewLaws.{listing_same, listing-map, listing-within, shift_at, Renumbers, records_are, roots_written_lem}
use Rattle.rules.specs.Explain.Chain.{◌∈◌, there}
use Rattle.rules.specs.Laws.Embedding.{itself}
use Rattle.numbering.specs.declared.Nodes.{Nodes}
use Rattle.preorder.specs.Numbering.{node_of, roots, order, place_of, new_number, numbered, in_at, every_of, place_at}
use Rattle.preorder.proofs.Numbering.{order_in, root_met, children_met, main_met}
use Rattle.preorder.specs.NumberingLaws.{Once, place_in, place_of_lem}
use Rattle.preorder.proofs.NumberingLaws.{order_once}
use Rattle.numbering.specs.Counting.{fine_read, fine_table}
use Rattle.numbering.specs.Meeting.{Single, Holds, Ordered, ordered_few}

-- THE PLACE OF EACH NODE

pub record Placed (ns : Nodes) (p : List ℕ) : Type 0 where
  pub told : (l : List ℕ) → Holds l ns → Once l → ((n : ℕ) → n ∈ l → n < 256) → (n : ℕ) → n ∈ l → get_or p n 0 ≡ place_of l n

-- the places of the first i
pub record Placing (ns : Nodes) (i : ℕ) (p : List ℕ) : Type 0 where
  pub few : i ≤ ns.count
  pub long : length p ≡ 256
  pub so_far : (l : List ℕ) → Holds l ns → Once l → ((n : ℕ) → n ∈ l → n < 256) → (j : ℕ) → j < i → get_or p (get_or l j 0) 0 ≡ j

held_at : {l : List ℕ} {ns : Nodes} → Holds l ns → (i : ℕ) → i < ns.count → get_or ns.nodes i 0 ≡ get_or l i 0
held_at {l} {ns} h i z = sym (get_or-take ns.count ns.nodes i 0 z) ∙ ap (λ (k : List ℕ). get_or k i 0) h.are

module _ {ns : Nodes} where
  pub placing_none : Placing ns 0 (replicate 256 0)
  placing_none = record { few = omega arith; long = length-replicate {A = ℕ} 256 0; so_far = λ l h o s j z. absurd (omega arith) }

  pub placing_more : {i : ℕ} {p : List ℕ} → Placing ns i p → i < ns.count → Placing ns (i + 1) (set p (get_or ns.nodes i 0) i)
  placing_more {i} {p} v h = record {
    few = omega arith;
    long = length-set p (get_or ns.nodes i 0) i ∙ v.long;
    so_far = λ l w o s j z. go l w o s j z (dec_lt j i);
  }
    where
      go : (l : List ℕ) → Holds l ns → Once l → ((n : ℕ) → n ∈ l → n < 256) → (j : ℕ) → j < i + 1 → Dec (j < i)
          → get_or (set p (get_or ns.nodes i 0) i) (get_or l j 0) 0 ≡ j
      go l w o s j z (yes y) =
          let e = held_at w i h in
          let b : i < length l = omega (arith, w.many) in
          get_or-set_other p (get_or ns.nodes i 0) (get_or l j 0) i 0
          (λ q. let x = sym (place_of_lem l o j (omega arith)) ∙ ap (place_of l) (q ∙ e) ∙ place_of_lem l o i b in omega arith)
          ∙ v.so_far l w o s j y
      go l w o s j z (no y) =
          let q : j ≡ i = omega arith in
          let b : i < length l = omega (arith, w.many) in
          let e : get_or ns.nodes i 0 ≡ get_or l i 0 = held_at w i h in
          rw (q, e) (get_or-set_same p (get_or l i 0) i 0 (omega (arith, v.long, s (get_or l i 0) (in_at l i b))))

  pub placing_all : {i : ℕ} {p : List ℕ} → Placing ns i p → ns.count ≤ i → Placed ns p
  placing_all {i} {p} v h = record {
    told = λ l w o s n e.
        let b = place_in l e in
        let q : get_or l (place_of l n) 0 ≡ n = sym (map_at itself l (place_of l n) 0 0 b) ∙ place_at itself 0 l e in
        rw q at (v.so_far l w o s (place_of l n) (omega (arith, w.many)));
  }

-- THE NEW NUMBERS

pub record Numbers (ns : Nodes) (m : Anew) : Type 0 where
  pub count : m.count ≡ ns.count
  pub order : m.order ≡ ns.nodes
  pub nodes : Placed ns m.nodes
  pub sections : m.sections ≡ shifted_by 0

-- THE SHEET

unfoldable pub text_anew : List ℕ → Table → Anew → List ℕ
text_anew s t m = (0x01 ∷ t.k ∷ new_node m t.root ∷ []) ++ (sections_of s t.sections m ++ records_of s t.starts m (named m))

pub wrote_anew : (s : List ℕ) (t : Table) (m : Anew) {b b₁ b₂ b₃ : List ℕ} {i j r : ℕ} → Wrote (0x01 ∷ t.k ∷ new_node m t.root ∷ []) 0 b b₁ i
    → Wrote (sections_of s t.sections m) i b₁ b₂ j → Wrote (records_of s t.starts m (named m)) j b₂ b₃ r → Wrote (text_anew s t m) 0 b b₃ r
unfolding text_anew
wrote_anew s t m u v w = wrote_then u (wrote_then v w)

module _ {s : List ℕ} {t : Table} (g : Single s t) (small : Bytes s) {ns : Nodes} {m : Anew} (met : Ordered s ns) (new : Numbers ns m) where
  abbrev sh : Sheet
  sh = (fine_read g.fine).0

  holds : Holds (order sh) ns
  holds = met.told sh (fine_read g.fine).1.sheet

  few : ns.count ≤ 200
  few = ordered_few g met

  node_anew : (n : ℕ) → n ∈ order sh → new_node m n ≡ new_number sh n
  unfolding new_number
  node_anew n e =
      let r = (fine_read g.fine).1.ranges in
      new.nodes.told (order sh) holds (order_once r g.once) (λ k i. omega (arith, order_in r i, r.few_nodes)) n e

  section_anew : (i : ℕ) → i < length sh.sections → new_section m i ≡ itself i
  section_anew i h =
      let r = (fine_read g.fine).1.ranges in
      ap (λ (l : List ℕ). get_or l i 0) new.sections ∙ shift_at 0 i (omega (arith, r.few_sections)) ∙ zero-add i

  named-order : named m ≡ order sh
  unfolding named
  named-order =
      ap (λ (k : ℕ). listing k (within 256 m.order)) new.count ∙ ap (λ (l : List ℕ). listing ns.count (within 256 l)) new.order
      ∙ listing-within 256 ns.count ns.nodes (omega (arith, few)) (omega (arith, few, holds.long)) ∙ holds.are

  renumbers : (n : ℕ) → n ∈ order sh → Renumbers sh m (new_number sh) itself n
  renumbers n e =
      let r = (fine_read g.fine).1.ranges in
      record {
        inside = order_in r e;
        nodes = every_of (λ c. new_node m c ≡ new_number sh c) (children (node_of sh n)) (λ c i. node_anew c (children_met r e i));
        sections = every_map section_anew (calls (node_of sh n)) (calls_in r n (order_in r e));
      }

  nodes_anew : records_of s t.starts m (named m) ≡ all_written (numbered sh).nodes
  unfolding numbered
  nodes_anew =
      ap (records_of s t.starts m) named-order
      ∙ records_are s (fine_table g.fine) (fine_read g.fine).1.sheet small m (new_number sh) itself (order sh)
      (every_of (Renumbers sh m (new_number sh) itself) (order sh) renumbers)

  sections_anew : sections_of s t.sections m ≡ roots_of (numbered sh).sections
  unfolding sections_of numbered roots
  sections_anew =
      let r = (fine_read g.fine).1 in
      ap roots_of (ap (λ (k : ℕ). listing k (λ i. new_node m (section_at s i))) r.sections
      ∙ listing_same (length sh.sections) (λ i. new_node m (section_at s i)) (λ i. new_number sh (get_or sh.sections i 0))
      (λ i h. ap (new_node m) (r.section i h) ∙ node_anew (get_or sh.sections i 0) (root_met r.ranges (there (in_at sh.sections i h))))
      ∙ listing-map (new_number sh) 0 sh.sections)

  pub anew_text : text_anew s t m ≡ sheet_written (numbered sh)
  unfolding text_anew sheet_written numbered
  anew_text =
      let r = (fine_read g.fine).1 in
      ap (λ (k : ℕ). 0x01 ∷ k ∷ new_node m t.root ∷ (sections_of s t.sections m ++ records_of s t.starts m (named m))) r.k
      ∙ ap (λ (k : ℕ). 0x01 ∷ sh.k ∷ k ∷ (sections_of s t.sections m ++ records_of s t.starts m (named m)))
      (ap (new_node m) r.root ∙ node_anew sh.root (main_met r.ranges))
      ∙ ap (λ (x : List ℕ). 0x01 ∷ sh.k ∷ new_number sh sh.root ∷ (x ++ records_of s t.starts m (named m))) sections_anew
      ∙ ap (λ (x : List ℕ). 0x01 ∷ sh.k ∷ new_number sh sh.root ∷ (roots_of (numbered sh).sections ++ x)) nodes_anew
      ∙ ap (λ (x : List ℕ). 0x01 ∷ sh.k ∷ new_number sh sh.root ∷ x) (sym (roots_written_lem (numbered sh).sections (all_written (numbered sh).nodes)))

-- A sheet whose numbers are in range is read back as it was written; its children and the sections that it calls are in range.
use Rattle.std.specs.Prelude.{◌≡◌, true, length, get_or}
use Rattle.std.proofs.Math.Path.{refl}
use mathlib.Core.List.{List, [], ◌∷◌, map}
use Prim.Native.Nat.{ℕ, zero, suc, ◌+◌, ◌*◌, ◌≤◌, ◌<◌}
use Rattle.std.proofs.Math.Nat.{add-zero}
use Rattle.std.proofs.Common.{zero-add, length-append, le-leb, lt-ltb}
use native.Mathlib.Omega.{arith}
use Rattle.value.specs.Result.{ok}
use Rattle.node.specs.declared.Node.{Node}
use Rattle.node.specs.declared.Node.TheVariants.{False}
use Rattle.node.specs.Kinds.{children, calls}
use Rattle.sheet.specs.Sheet.{Sheet, nodes_in_range, roots_in_range, in_range, read_sheet}
use Rattle.sheet.specs.Laws.{Child, Ranged, Ranges}
use Rattle.sheet.specs.Rows.{Every, all_written, roots_written, sheet_written}
use Rattle.sheet.proofs.Rows.{children_behind, calls_inside, in_range_lem, width_8, written-length}
use Rattle.sheet.proofs.Rows.{sheet_written_lem}

-- LISTS

pub every_map : {P Q : ℕ → Type 0} → ((n : ℕ) → P n → Q n) → (l : List ℕ) → Every P l → Every Q l
every_map h [] e = tt
every_map h (n ∷ l) e = (h n e.0, every_map h l e.1)

pub map_at : {A B : Type 0} (h : A → B) (l : List A) (i : ℕ) (d : A) (e : B) → i < length l → get_or (map h l) i e ≡ h (get_or l i d)
map_at h [] i d e z = absurd (omega arith)
map_at h (a ∷ l) zero d e z = refl
map_at h (a ∷ l) (suc i) d e z = map_at h l i d e (omega arith)

-- IN RANGE

module _ {sh : Sheet} (r : Ranges sh) (n : ℕ) (h : n < length sh.nodes) where
  pub children_in : Every (Child (length sh.nodes) n) (children (get_or sh.nodes n False))
  children_in = children_behind (length sh.nodes) (length sh.sections) n (get_or sh.nodes n False) (r.node n h)

  pub calls_in : Every (λ i. i < length sh.sections) (calls (get_or sh.nodes n False))
  calls_in = calls_inside (length sh.nodes) (length sh.sections) n (get_or sh.nodes n False) (r.node n h)

module _ (nodes sections : ℕ) where
  nodes_ranged : (own : ℕ) (ns : List Node) → ((i : ℕ) → i < length ns → Ranged nodes sections (own + i) (get_or ns i False))
      → nodes_in_range nodes sections own ns ≡ true
  unfolding nodes_in_range
  nodes_ranged own [] h = refl
  nodes_ranged own (n ∷ ns) h = rw (in_range_lem nodes sections own n (rw add-zero at (h 0 (omega arith)))) (
      nodes_ranged (suc own) ns λ i l. let q : own + suc i ≡ suc own + i = omega arith in rw q at (h (suc i) (omega arith)))

roots_ranged : (nodes : ℕ) (rs : List ℕ) → ((i : ℕ) → i < length rs → get_or rs i 0 < nodes) → roots_in_range nodes rs ≡ true
unfolding roots_in_range
roots_ranged nodes [] h = refl
roots_ranged nodes (r ∷ rs) h = rw (lt-ltb r nodes (h 0 (omega arith))) (roots_ranged nodes rs λ i l. h (suc i) (omega arith))

pub ranges_in : {sh : Sheet} → Ranges sh → in_range sh ≡ true
unfolding in_range
ranges_in {sh} r = rw (
  le-leb 1 sh.k r.some_variable,
  le-leb sh.k 16 r.few_variables,
  lt-ltb sh.root (length sh.nodes) r.root,
  roots_ranged (length sh.nodes) sh.sections r.section,
) (nodes_ranged (length sh.nodes) (length sh.sections) 0 sh.nodes (λ i l. rw zero-add (r.node i l)))

pub read_back : {sh : Sheet} → Ranges sh → read_sheet (sheet_written sh) ≡ ok sh
read_back {sh} r = sheet_written_lem sh r.some_node r.few_nodes r.few_sections (ranges_in r)

-- ITS LENGTH: at most 1,619 bytes

all_length : (ns : List Node) → length (all_written ns) ≤ 8 * length ns
all_length [] = omega arith
all_length (n ∷ ns) = rw length-append (omega (arith, written-length n, width_8 n, all_length ns))

roots_length : (rs l : List ℕ) → length (roots_written rs l) ≡ 2 * length rs + length l
roots_length [] l = omega arith
roots_length (r ∷ rs) l = omega (arith, roots_length rs l)

pub written_short : {sh : Sheet} → Ranges sh → length (sheet_written sh) ≤ 1619
unfolding sheet_written
written_short {sh} r = omega (arith, roots_length sh.sections (all_written sh.nodes), all_length sh.nodes, r.few_nodes, r.few_sections)

-- The joined sheet of two sheets is in range, where it has few enough nodes and sections.
use Rattle.std.specs.Prelude.{◌≡◌, get_or}
use Prim.Native.Nat.{ℕ, zero, suc, ◌+◌, ◌-◌, ◌≤◌, ◌<◌}
use native.Mathlib.Omega.{arith}
use Rattle.std.proofs.Math.Decide.{dec_lt}
use Rattle.std.proofs.Math.ListN.{length}
use Rattle.std.proofs.Common.{length-append}
use Rattle.std.proofs.lemmas.List.{length-map}
use Rattle.node.specs.declared.Node.{Node}
use Rattle.node.specs.declared.Node.TheVariants.{False}
use Rattle.node.specs.Kinds.{children, calls}
use Rattle.sheet.specs.Renumbering.{renumber}
use Rattle.sheet.specs.Sheet.{Sheet}
use Rattle.sheet.specs.Laws.{Child, Ranged, Ranges}
use Rattle.sheet.proofs.Rows.{ranged_anew}
use Rattle.sheet.proofs.Ranging.{every_map, children_in, calls_in}
use Rattle.rules.specs.Laws.Embedding.{itself}
use Rattle.joined.specs.Joined.{node_behind, section_behind, joined}
use Rattle.joined.proofs.Joined.{front_at, behind_at}

-- THE JOINED SHEET
module _ {a b : Sheet} (ra : Ranges a) (rb : Ranges b) (few : suc (length a.nodes + length b.nodes) ≤ 200)
    (few' : length a.sections + length b.sections ≤ 8) where
  abbrev N : ℕ
  N = length a.nodes

  abbrev M : ℕ
  M = length b.nodes

  nodes_long : length (joined a b).nodes ≡ suc (N + M)
  unfolding joined
  nodes_long = simp (length-append, length-map) (omega arith)

  sections_long : length (joined a b).sections ≡ length a.sections + length b.sections
  unfolding joined
  sections_long = simp (length-append, length-map)

  abbrev Fits : ℕ → Node → Type 0
  Fits = Ranged (suc (N + M)) (length a.sections + length b.sections)

  first_child : {own : ℕ} (c : ℕ) → Child N own c → Child (suc (N + M)) (suc own) (suc c)
  first_child c k = record { above = omega arith; inside = omega arith }

  second_child : {own : ℕ} (c : ℕ) → Child M own c → Child (suc (N + M)) (node_behind a own) (node_behind a c)
  second_child c k = record { above = omega arith; inside = omega arith }

  first_node : (n : ℕ) → n < N → Fits (suc n) (renumber suc itself (get_or a.nodes n False))
  first_node n h = ranged_anew suc itself N (length a.sections) n (suc (N + M)) (length a.sections + length b.sections) (suc n)
      (get_or a.nodes n False) (ra.node n h)
      (every_map first_child (children (get_or a.nodes n False)) (children_in ra n h))
      (every_map (λ i (z : i < length a.sections). omega arith) (calls (get_or a.nodes n False)) (calls_in ra n h))

  second_node : (n : ℕ) → n < M → Fits (node_behind a n) (renumber (node_behind a) (section_behind a) (get_or b.nodes n False))
  second_node n h = ranged_anew (node_behind a) (section_behind a) M (length b.sections) n (suc (N + M)) (length a.sections + length b.sections)
      (node_behind a n) (get_or b.nodes n False) (rb.node n h)
      (every_map second_child (children (get_or b.nodes n False)) (children_in rb n h))
      (every_map (λ i (z : i < length b.sections). omega arith) (calls (get_or b.nodes n False)) (calls_in rb n h))

  behind_node : (n : ℕ) → n < N + M → Dec (n < N) → Fits (suc n) (get_or (joined a b).nodes (suc n) False)
  unfolding joined
  behind_node n h (yes k) =
      rw (front_at (renumber suc itself) (renumber (node_behind a) (section_behind a)) a.nodes b.nodes n False False k) (first_node n k)
  behind_node n h (no k) =
      let q : N + (n - N) ≡ n = omega arith in
      let l : n - N < M = omega arith in
      let e = behind_at (renumber suc itself) (renumber (node_behind a) (section_behind a)) a.nodes b.nodes (n - N) False False l in
      rw q at (rw (← e) at (second_node (n - N) l))

  any_node : (n : ℕ) → n < suc (N + M) → Fits n (get_or (joined a b).nodes n False)
  unfolding joined
  any_node zero h = (record { above = omega arith; inside = omega (arith, ra.root) }, (record { above = omega arith; inside = omega (arith, rb.root) }, tt))
  any_node (suc n) h = behind_node n (omega arith) (dec_lt n N)

  any_section : (i : ℕ) → i < length a.sections + length b.sections → Dec (i < length a.sections) → get_or (joined a b).sections i 0 < suc (N + M)
  unfolding joined
  any_section i h (yes k) = rw (front_at suc (node_behind a) a.sections b.sections i 0 0 k) (omega (arith, ra.section i k))
  any_section i h (no k) =
      let q : length a.sections + (i - length a.sections) ≡ i = omega arith in
      let l : i - length a.sections < length b.sections = omega arith in
      let e = behind_at suc (node_behind a) a.sections b.sections (i - length a.sections) 0 0 l in
      let z : node_behind a (get_or b.sections (i - length a.sections) 0) < suc (N + M) = omega (arith, rb.section (i - length a.sections) l) in
      rw q at (rw (← e) at z)

  joined-k : (1 ≤ (joined a b).k) × ((joined a b).k ≤ 16)
  unfolding joined
  joined-k = (ra.some_variable, ra.few_variables)

  joined-root : (joined a b).root < suc (N + M)
  unfolding joined
  joined-root = omega arith

  pub joined_ranges : Ranges (joined a b)
  joined_ranges = record {
    some_variable = joined-k.0;
    few_variables = joined-k.1;
    root = rw nodes_long joined-root;
    few_sections = rw sections_long few';
    some_node = rw nodes_long (omega arith);
    few_nodes = rw nodes_long few;
    section = λ i h. rw nodes_long (any_section i (rw sections_long at h) (dec_lt i (length a.sections)));
    node = λ i h. rw (nodes_long, sections_long) (any_node i (rw nodes_long at h));
  }

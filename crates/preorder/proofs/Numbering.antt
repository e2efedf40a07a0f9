-- One numbering for a sheet (document 02, request 12): nodes are numbered as they are first met, from the main root downwards, a node before
-- its children, each child with all below it before the next, and then from each section's root in turn. Nodes never met are dropped.
use Rattle.std.specs.Prelude.{◌≡◌}
use Rattle.std.proofs.Math.Path.{refl}
use mathlib.Core.List.{List, [], ◌∷◌, ◌++◌}
use Prim.Native.Nat.{ℕ, zero, suc, ◌+◌, ◌≤◌, ◌<◌}
use native.Mathlib.Omega.{arith}
use Rattle.std.proofs.Math.ListN.{length, get_or}
use Rattle.value.specs.Value.{Value}
use Rattle.node.specs.declared.Node.TheVariants.{False}
use Rattle.node.specs.Kinds.{children, calls}
use Rattle.sheet.specs.Renumbering.{renumber}
use Rattle.sheet.specs.Sheet.{Sheet}
use Rattle.sheet.specs.Laws.{Child, Ranges}
use Rattle.rules.specs.Counting.{Env}
use Rattle.rules.specs.Explain.Chain.{◌∈◌, here, there}
use Rattle.rules.specs.Answer.{get_walk, put_walk}
use Rattle.rules.specs.Laws.Embedding.{Sent, Holds, itself}
use Rattle.embedding.proofs.EmbeddingAnswers.{get_walk_same, put_walk_same}
use Rattle.sheet.proofs.Ranging.{every_map, map_at, children_in, calls_in}
use Rattle.preorder.specs.Numbering.{gathered, node_of, met_from, roots, order, place_of, new_number, numbered, in_gathered, of_gathered, every_at}
use Rattle.preorder.specs.Numbering.{every_of, in_at, place_first, place_at}

-- THE NODES MET

module _ {sh : Sheet} (r : Ranges sh) where
  abbrev N : ℕ
  N = length sh.nodes

  -- the main root is node 0
  pub main_first : (numbered sh).root ≡ 0
  unfolding numbered new_number order roots met_from
  main_first = first N r.root
    where
      first : (l : ℕ) → sh.root < l → place_of (met_from l sh sh.root ++ gathered (met_from N sh) sh.sections) sh.root ≡ 0
      first zero h = absurd (omega arith)
      first (suc l) h = place_first sh.root _ refl

  -- n itself, with a level or more
  pub met_self : (l n : ℕ) → 1 ≤ l → n ∈ met_from l sh n
  unfolding met_from
  met_self zero n h = absurd (omega arith)
  met_self (suc l) n h = here

  -- all are nodes of the sheet, and none is before n
  pub met_in : (l n : ℕ) {m : ℕ} → n < N → m ∈ met_from l sh n → (n ≤ m) × (m < N)
  unfolding met_from
  met_in zero n {m = m} h x'' = elim x'' [ ]
  met_in (suc l) n h here = (omega arith, h)
  met_in (suc l) n h (there e) =
      let (c, i, k) = of_gathered (met_from l sh) (children (node_of sh n)) e in
      let z = every_at (Child N n) (children_in r n h) i in
      let (a, b) = met_in l c z.inside k in
      (omega arith, b)

  -- a node's children are met with it, where the levels are enough
  pub met_children : (l n : ℕ) {m c : ℕ} → n < N → N ≤ n + l → m ∈ met_from l sh n → c ∈ children (node_of sh m) → c ∈ met_from l sh n
  unfolding met_from
  met_children zero n {m = m} {c = c} h f x4 j = elim x4 [ ]
  met_children (suc l) n h f here j =
      let z = every_at (Child N n) (children_in r n h) j in
      there (in_gathered (met_from l sh) (children (node_of sh n)) j (met_self l _ (omega arith)))
  met_children (suc l) n h f (there e) j =
      let (d, i, k) = of_gathered (met_from l sh) (children (node_of sh n)) e in
      let z = every_at (Child N n) (children_in r n h) i in
      there (in_gathered (met_from l sh) (children (node_of sh n)) i (met_children l d z.inside (omega arith) k j))

  pub roots_in : {n : ℕ} → n ∈ roots sh → n < N
  unfolding roots
  roots_in e = every_at (λ n. n < N) (r.root, every_of (λ n. n < N) sh.sections (go sh.sections r.section)) e
    where
      go : (l : List ℕ) → ((i : ℕ) → i < length l → get_or l i 0 < N) → (n : ℕ) → n ∈ l → n < N
      go [] h n x'' = elim x'' [ ]
      go (x ∷ l) h n here = h 0 (omega arith)
      go (x ∷ l) h n (there e) = go l (λ i z. h (suc i) (omega arith)) n e

  pub order_in : {n : ℕ} → n ∈ order sh → n < N
  unfolding order
  order_in e = let (c, i, k) = of_gathered (met_from N sh) (roots sh) e in (met_in N c (roots_in i) k).1

  pub root_met : {n : ℕ} → n ∈ roots sh → n ∈ order sh
  unfolding order
  root_met {n} e = let z = roots_in e in in_gathered (met_from N sh) (roots sh) e (met_self N n (omega arith))

  pub children_met : {n c : ℕ} → n ∈ order sh → c ∈ children (node_of sh n) → c ∈ order sh
  unfolding order
  children_met e j =
      let (d, i, k) = of_gathered (met_from N sh) (roots sh) e in
      in_gathered (met_from N sh) (roots sh) i (met_children N d (roots_in i) (omega arith) k j)

  -- THE SHEET NUMBERED ANEW HOLDS THEM

  section_met : (i : ℕ) → i < length sh.sections → Sent (λ n. n ∈ order sh) (new_number sh) itself sh (numbered sh) i
  unfolding numbered roots
  section_met i h = record {
    root = root_met (there (in_at sh.sections i h));
    same = map_at (new_number sh) sh.sections i 0 0 h;
  }

  pub numbered_holds : Holds (λ n. n ∈ order sh) (new_number sh) itself sh (numbered sh)
  unfolding numbered new_number
  numbered_holds = record {
    node = λ n e. place_at (λ m. renumber (new_number sh) itself (node_of sh m)) False (order sh) e;
    below = λ n e. every_of (λ c. c ∈ order sh) (children (node_of sh n)) (λ c j. children_met e j);
    called = λ n e. every_map section_met (calls (node_of sh n)) (calls_in r n (order_in e));
  }

  pub main_met : sh.root ∈ order sh
  unfolding roots
  main_met = root_met here

  pub root-numbered : (numbered sh).root ≡ new_number sh sh.root
  unfolding numbered
  root-numbered = refl

  -- so it reads out and back as before, steps and refusals included
  pub get_walk-numbered : (allowance : ℕ) (μ : Env) → get_walk allowance (numbered sh) μ ≡ get_walk allowance sh μ
  get_walk-numbered = get_walk_same numbered_holds main_met root-numbered

  pub put_walk-numbered : (allowance : ℕ) (μ : Env) (v : Value) → put_walk allowance (numbered sh) μ v ≡ put_walk allowance sh μ v
  put_walk-numbered = put_walk_same numbered_holds main_met root-numbered

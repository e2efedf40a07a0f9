-- Entering a node: the refusals 40 and 41, the record that is read, and the node's own value once its step is paid.
use Rattle.std.specs.Prelude.{◌≡◌, refl, true, false, List, [], ◌∷◌, get_or}
use Rattle.std.proofs.Common.{sym, ap, subst, ◌∙◌, le_refl, arith}
use Prim.Native.Nat.{ℕ, zero, suc, ◌+◌, ◌-◌, ◌*◌, ◌≤◌, ◌<◌}
use Rattle.std.proofs.Math.ListN.{length}
use Rattle.outcome.specs.Outcome.{is_refusal, len_of, steps_of}
use Rattle.value.specs.Result.{ok}
use Rattle.value.specs.Value.{Value}
use Rattle.node.specs.declared.Node.{Node}
use Rattle.node.specs.declared.Node.TheVariants.{False}
use Rattle.sheet.specs.Sheet.{Sheet, read_sheet}
use Rattle.sheet.specs.Table.{offsets}
use Rattle.sheet.specs.Reading.{Made}
use Rattle.sheet.specs.Records.{record_at}
use Rattle.sheet.proofs.Records.{record_told}
use Rattle.sheet.specs.Laws.{Ranged, sheet_ranges, node_made, made_kind, table_start}
use Rattle.node.specs.Kinds.{width}
use Rattle.sheet.proofs.Rows.{width_8}
use Rattle.rules.specs.Semantics
use Rattle.rules.specs.Semantics.{Env}
use Rattle.rules.specs.Explain.{Cause, Exit, met, below, entered, within, get, get_node}
use Rattle.rules.specs.Explain.Chain.{Chain, Meets, stop}
use Rattle.rules.proofs.Explain.Chain.{get_chain}
use Rattle.scopes.specs.declared.Scope.{Scope}
use Rattle.refusal.specs.declared.Refusal.{Refusal}
use Rattle.refusal.specs.Refusal.{number_of}
use Rattle.outcome.proofs.Numbers.{number_fits}
use Rattle.decisions.specs.Decisions.{entry_refusal}
use Rattle.decisions.specs.DecisionLaws.{no_level, no_step as out_of_steps, both_left}
use Rattle.arena.specs.Chain.{chain_at}
use Rattle.walk.specs.Decoded.{decoded, beneath, why_in, bytes_at, length_bytes, Left, up, on, barred_said, left_said, decoded_refused}
use Rattle.walk.specs.declared.at.At.{At}
use Rattle.walk.specs.Arena.Parts.{SameBelow, kept_refl, kept_then, kept_set}
use Rattle.walk.specs.Represents.{Represents, refuse, as_refused, step, no_step, not_had}
use Rattle.walk.specs.Get.{enter, own, run, Tabled, Ready, GotAt, GetShows}
use Rattle.walk.specs.Get.Requires.{ready_later, few_steps, Sized, sized}

-- a refusal on entering is a number of the table
pub data EntryCode (levels left : ℕ) : ℕ → Type 0 where
  no_level_left : levels ≡ 0 → EntryCode levels left 40
  no_step_left : (levels ≡ 0 → ⊥) → left ≡ 0 → EntryCode levels left 41

-- one node further up
nodes_below : (l : ℕ) (sh : Sheet) (x : ℕ) (μ : Env) (left : ℕ) {nd : Node} {y : Cause} {n : ℕ} → get_or sh.nodes x False ≡ nd
    → within left (get_node (get l sh) sh nd μ) ≡ met y n → length y.chain ≤ suc l
unfolding Semantics.get entered below
nodes_below l sh x μ left {nd} {y} {n} e d =
    let f : within left (get_node (get l sh) sh (get_or sh.nodes x False) μ) ≡ met y n = ap (λ (z : Node). within left (get_node (get l sh) sh z μ)) e ∙ d in
    go (subst (λ (t : Exit Value). Meets (Chain sh x (suc l)) (below x t)) f (get_chain (suc l) sh x μ (suc left)))
  where
    go : Meets {A = Value} (Chain sh x (suc l)) (below x (met y n)) → length y.chain ≤ suc l
    go (stop c) = let z = ap (λ (k : List ℕ). length k) c.begins in omega (arith, c.short)

code_told : {r : ℕ} (levels left : ℕ) → r ≡ entry_refusal levels left → (r ≡ 0 → ⊥) → EntryCode levels left r
code_told {r} levels left e n = go levels left refl refl
  where
    go : (l k : ℕ) → levels ≡ l → left ≡ k → EntryCode levels left r
    go zero k p q = let z : r ≡ 40 = e ∙ sym (no_level levels left p) in rw z (no_level_left p)
    go (suc l) zero p q =
        let h : levels ≡ 0 → ⊥ = λ y. omega (arith, p, y) in
        let z : r ≡ 41 = e ∙ sym (out_of_steps levels left h q) in
        rw z (no_step_left h q)
    go (suc l) (suc k) p q = absurd (n (e ∙ sym (both_left levels left (λ y. omega (arith, p, y)) (λ y. omega (arith, q, y)))))

pub entry_code : (levels left : ℕ) (x : Refusal) → number_of x ≡ entry_refusal levels left → EntryCode levels left (number_of x)
entry_code levels left x e = code_told levels left e (λ z. omega (arith, (number_fits x).0, z))

-- the arena as a refusal's way out leaves it
pub left_kept : {x levels g r top : ℕ} {b a : List ℕ} → top ≤ chain_at levels → Left x levels g b a r → SameBelow top b a
left_kept {x} {levels} {top = top} {b = b} h (up e f q) = rw f (kept_set top b (chain_at levels) x h)
left_kept {top = top} {b = b} h (on e f q) = rw f (kept_refl top b)

pub enter_refused : {s table b a : List ℕ} {sc : Scope} {top left x levels c r : ℕ} → Ready s table b sc top levels left (enter x) → EntryCode levels left c
    → Left x levels c b a r → GetShows b a s sc top top left r levels (enter x)
unfolding run Semantics.get
enter_refused {levels = zero} w (no_level_left e) q = record {
  kept = left_kept (omega (arith, w.room)) q;
  told = λ sh es μ m. refuse (barred_said (omega arith) (omega arith) w.long (omega arith) q);
}
enter_refused {levels = suc l} w (no_level_left e) q = absurd (omega arith)
enter_refused {levels = zero} w (no_step_left n e) q = absurd (n refl)
enter_refused {levels = suc l} w (no_step_left n e) q = record {
  kept = left_kept (omega (arith, w.room)) q;
  told = λ sh es μ m. no_step _ _ e (barred_said (omega arith) (omega arith) w.long (omega (arith, w.room)) q);
}

-- no record is longer than 8 bytes, so that every start is small
offset_small : (p : ℕ) (ns : List Node) (i : ℕ) → i < length ns → get_or (offsets p ns) i 0 ≤ p + 8 * i
unfolding offsets
offset_small p [] i h = absurd (omega arith)
offset_small p (n ∷ ns) zero h = omega arith
offset_small p (n ∷ ns) (suc i) h = omega (arith, offset_small (p + width n) ns i (omega arith), width_8 n)

-- the record that stands there is the sheet's node
module _ {s table : List ℕ} (t : Tabled s table) where
  pub same_sheet : {sh : Sheet} → read_sheet s ≡ ok sh → t.sh ≡ sh
  same_sheet e = let q = t.read in cc

  place_of_lem : {i : ℕ} → i < length t.sh.nodes → get_or table i 0 ≡ get_or (offsets (3 + 2 * length t.sh.sections) t.sh.nodes) i 0
  place_of_lem {i} h = ap (λ (l : List ℕ). get_or l i 0) t.places ∙ table_start t.sh i h

  record_made : {i : ℕ} → i < length t.sh.nodes → Made s (get_or table i 0) (get_or t.sh.nodes i False)
  record_made {i} h = rw (place_of_lem h) (node_made s t.read i h)

  pub node_few : {i : ℕ} → i < length t.sh.nodes → i < 200
  node_few h = omega (arith, (sheet_ranges s t.read).few_nodes)

  -- its kind byte, and the node that it is
  pub kind_range : {i k : ℕ} → i < length t.sh.nodes → k ≡ get_or s (get_or table i 0 + 0) 0 → (0x10 ≤ k) × (k ≤ 0x1D)
  kind_range h e = let m = made_kind (record_made h) in (omega (arith, e, m.0), omega (arith, e, m.1))

  pub record_there : {i k : ℕ} → i < length t.sh.nodes → k ≡ get_or s (get_or table i 0 + 0) 0 → get_or t.sh.nodes i False ≡ record_at k s (get_or table i 0)
  record_there h e = record_told (record_made h) e

  pub record_known : {i : ℕ} {nd : Node} → i < length t.sh.nodes → get_or t.sh.nodes i False ≡ nd
      → Ranged (length t.sh.nodes) (length t.sh.sections) i nd
  record_known {i} h e = rw e at ((sheet_ranges s t.read).node i h)

-- AT A STAGE: a node is entered, a level and a step are there for it, and its record's kind byte is k
pub record Entered (s table b : List ℕ) (sc : Scope) (top levels left x k : ℕ) : Type 0 where
  pub asked : Ready s table b sc top levels left (enter x)
  pub deep : levels ≡ 0 → ⊥
  pub paid : left ≡ 0 → ⊥
  pub kind : k ≡ get_or s (get_or table x 0 + 0) 0

module _ {s table b : List ℕ} {sc : Scope} {top levels left x k : ℕ} (e : Entered s table b sc top levels left x k) where
  its_node : get_or e.asked.sheet.sh.nodes x False ≡ record_at k s (get_or table x 0)
  its_node = record_there e.asked.sheet e.asked.known e.kind

  pub its_kind : (0x10 ≤ k) × (k ≤ 0x1D)
  its_kind = kind_range e.asked.sheet e.asked.known e.kind

  -- what the function of its kind is asked
  pub body_ready : Ready s table b sc top (suc (levels - 1)) (suc (left - 1)) (own k s (get_or table x 0))
  body_ready =
      let w = e.asked in
      let p : suc (levels - 1) ≡ levels = omega (arith, e.deep) in
      let q : suc (left - 1) ≡ left = omega (arith, e.paid) in
      rw (p, q) (ready_later w (kept_refl top b) top levels left (le_refl top) w.few w.room (le_refl levels)
      (x, record_known w.sheet w.known its_node))

  -- no chain has more nodes than there are levels
  few_nodes : {a : List ℕ} {q : ℕ} → GetShows b a s sc top top (left - 1) q (levels - 1) (own k s (get_or table x 0)) → is_refusal q ≡ true → len_of q ≤ levels
  unfolding run Semantics.get entered below why_in
  few_nodes {a} {q} g n =
      let w = e.asked in
      let d = not_had (g.told w.sheet.sh w.sheet.read w.env w.scoped) (decoded_refused a (levels - 1) q n) in
      let z : length (bytes_at a (chain_at (levels - 1)) (len_of q)) ≤ suc (levels - 1) =
      nodes_below (levels - 1) w.sheet.sh x w.env (left - 1) its_node d.1 in
      omega (arith, length_bytes a (chain_at (levels - 1)) (len_of q), e.deep)

  -- what is told, of the answer q that its function gave
  pub body_told : {m a : List ℕ} {q r : ℕ} → GetShows b m s sc top top (left - 1) q (levels - 1) (own k s (get_or table x 0)) → Left x levels q m a r
      → GetShows b a s sc top top left r levels (enter x) × Sized top left levels r
  unfolding run Semantics.get
  body_told {m} {a} {q} {r} g v = let h = told in (h, sized e.asked h)
    where
      w : Ready s table b sc top levels left (enter x)
      w = e.asked

      few : is_refusal q ≡ false → 1 + steps_of q < 16777216
      few n = let z = few_steps body_ready g n in omega (arith, w.few)

      -- a success leaves the arena as it was
      same : (sh : Sheet) (μ : Env) → Represents (GotAt m top) (decoded m (levels - 1) q) (left - 1) (run (levels - 1) sh (own k s (get_or table x 0)) μ)
          → Represents (GotAt a top) (decoded m (levels - 1) q) (left - 1) (run (levels - 1) sh (own k s (get_or table x 0)) μ)
      same sh μ t = by v
        where
          by : Left x levels q m a r → Represents (GotAt a top) (decoded m (levels - 1) q) (left - 1) (run (levels - 1) sh (own k s (get_or table x 0)) μ)
          by (up n f d) = let z = decoded_refused m (levels - 1) q n in as_refused (not_had t z).1 z
          by (on n f d) = rw f t

      entered_told : (l : ℕ) (sh : Sheet) (μ : Env) → read_sheet s ≡ ok sh → suc l ≡ levels
          → Represents (GotAt a top) (decoded m l q) (left - 1) (run l sh (own k s (get_or table x 0)) μ)
          → Represents (GotAt a top) (decoded a levels r) left (run levels sh (enter x) μ)
      entered_told l sh μ es z t =
          let n : get_or sh.nodes x False ≡ record_at k s (get_or table x 0) = ap (λ (y : Sheet). get_or y.nodes x False)
          (sym (same_sheet e.asked.sheet es)) ∙ its_node in
          let d : decoded a (suc l) r ≡ beneath x (decoded m l q) =
          left_said (g.kept.long ∙ w.long) (omega (arith, w.room, z)) (λ n. let z = few_nodes g n in omega (arith, w.room)) few (rw z v) in
          rw (← z) (step x _ (omega (arith, e.paid)) (rw n t) d)

      told : GetShows b a s sc top top left r levels (enter x)
      told = record {
        kept = kept_then g.kept (left_kept (omega (arith, w.room)) v) (le_refl top);
        told = λ sh es μ u. entered_told (levels - 1) sh μ es (omega (arith, e.deep)) (same sh μ (g.told sh es μ u));
      }

-- AT THE PLACE that the code makes
module _ {at at' : At} {sc : Scope} (e : at ≡ at') where
  pub own_as : {s table a : List ℕ} {k n : ℕ} → Ready s table a sc at'.top (suc at'.levels) (suc at'.left) (own k s n)
      → Ready s table a sc at.top (suc at.levels) (suc at.left) (own k s n)
  own_as w = rw e w

  pub told_as : {b a s : List ℕ} {r k n : ℕ} → GetShows b a s sc at.top at.top at.left r at.levels (own k s n)
      → GetShows b a s sc at'.top at'.top at'.left r at'.levels (own k s n)
  told_as g = rw e at g

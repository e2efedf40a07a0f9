-- Entering a node for put: depth, allowance, the record that is read, and the node's own put once its step is paid.
use Rattle.std.specs.Prelude.{◌≡◌, refl, true, false, List, get_or}
use Rattle.std.proofs.Common.{sym, ap, subst, ◌∙◌, le_refl, arith}
use Prim.Native.Nat.{ℕ, zero, suc, ◌+◌, ◌-◌, ◌≤◌, ◌<◌}
use Rattle.std.proofs.Math.ListN.{length}
use Rattle.outcome.specs.Outcome.{is_refusal, len_of, steps_of}
use Rattle.value.specs.Result.{ok}
use Rattle.value.specs.Value.{Value}
use Rattle.node.specs.declared.Node.{Node}
use Rattle.node.specs.declared.Node.TheVariants.{False}
use Rattle.sheet.specs.Records.{record_at}
use Rattle.sheet.specs.Sheet.{Sheet, read_sheet}
use Rattle.rules.specs.Semantics
use Rattle.rules.specs.Semantics.{Env}
use Rattle.rules.specs.Explain.{Cause, Exit, met, Explained, below, entered, within, Cells, get, put_node, put}
use Rattle.rules.specs.Explain.Chain.{Chain, Meets, stop}
use Rattle.rules.proofs.Explain.Chain.{put_chain}
use Rattle.scopes.specs.declared.Scope.{Scope}
use Rattle.walk.specs.declared.at.At.{At}
use Rattle.arena.specs.Chain.{chain_at}
use Rattle.walk.specs.Decoded.{decoded, beneath, why_in, bytes_at, length_bytes, Left, up, on, barred_said, left_said, decoded_refused}
use Rattle.walk.specs.Represents.{Represents, refuse, as_refused, step, no_step, not_had}
use Rattle.walk.specs.Arena.Frames.{kept_frame, frame_then}
use Rattle.walk.specs.Get.Enter.{EntryCode, no_level_left, no_step_left, left_kept, same_sheet, kind_range, record_there, record_known}
use Rattle.walk.specs.Put.{enter, own, run, Ready, Wrote, PutShows, Few}
use Rattle.walk.specs.Put.Requires.{ready_for, few}

-- one node further up
nodes_below : (l : ℕ) (sh : Sheet) (x : ℕ) (μ : Env) (σ : List ℕ) (v : Value) (W : Cells) (left : ℕ) {nd : Node} {y : Cause} {n : ℕ}
    → get_or sh.nodes x False ≡ nd → within left (put_node x (get l sh) (put l sh) sh nd μ σ v W) ≡ met y n → length y.chain ≤ suc l
unfolding Semantics.put entered below
nodes_below l sh x μ σ v W left {nd} {y} {n} e d =
    let f : within left (put_node x (get l sh) (put l sh) sh (get_or sh.nodes x False) μ σ v W) ≡ met y n =
    ap (λ (z : Node). within left (put_node x (get l sh) (put l sh) sh z μ σ v W)) e ∙ d in
    go (subst (λ (t : Exit Cells). Meets (Chain sh x (suc l)) (below x t)) f (put_chain (suc l) sh x μ σ v W (suc left)))
  where
    go : Meets {A = Cells} (Chain sh x (suc l)) (below x (met y n)) → length y.chain ≤ suc l
    go (stop c) = let z = ap (λ (k : List ℕ). length k) c.begins in omega (arith, c.short)

pub enter_refused : {s table b a slots cells : List ℕ} {P : Value → Type 0} {sc : Scope} {count m top left x levels c r : ℕ}
    → Ready s table b slots P sc cells count m top levels left (enter x) → EntryCode levels left c → Left x levels c b a r
    → PutShows b a slots slots s P sc cells count m top left r levels (enter x)
unfolding run Semantics.put
enter_refused {levels = zero} w (no_level_left e) q = record {
  frame = kept_frame (left_kept (omega (arith, w.room)) q) w.base;
  long = refl;
  told = λ g. refuse (barred_said (omega arith) (omega arith) w.long (omega arith) q);
}
enter_refused {levels = suc l} w (no_level_left e) q = absurd (omega arith)
enter_refused {levels = zero} w (no_step_left n e) q = absurd (n refl)
enter_refused {levels = suc l} w (no_step_left n e) q = record {
  frame = kept_frame (left_kept (omega (arith, w.room)) q) w.base;
  long = refl;
  told = λ g. no_step _ _ e (barred_said (omega arith) (omega arith) w.long (omega (arith, w.room)) q);
}

-- AT A STAGE: a node is entered, a level and a step are there for it, and its record's kind byte is k
pub record PutEntered (s table b slots : List ℕ) (P : Value → Type 0) (sc : Scope) (cells : List ℕ) (count top levels left x k : ℕ) : Type 0 where
  pub asked : Ready s table b slots P sc cells count count top levels left (enter x)
  pub deep : levels ≡ 0 → ⊥
  pub paid : left ≡ 0 → ⊥
  pub kind : k ≡ get_or s (get_or table x 0 + 0) 0

module _ {s table b slots : List ℕ} {P : Value → Type 0} {sc : Scope} {cells : List ℕ} {count top levels left x k : ℕ}
    (e : PutEntered s table b slots P sc cells count top levels left x k) where
  its_node : get_or e.asked.sheet.sh.nodes x False ≡ record_at k s (get_or table x 0)
  its_node = record_there e.asked.sheet e.asked.known e.kind

  pub its_kind : (0x10 ≤ k) × (k ≤ 0x1D)
  its_kind = kind_range e.asked.sheet e.asked.known e.kind

  -- what the function of its kind is asked
  pub body_ready : Ready s table b slots P sc cells count count top (suc (levels - 1)) (suc (left - 1)) (own x k s (get_or table x 0))
  body_ready =
      let w = e.asked in
      let p : suc (levels - 1) ≡ levels = omega (arith, e.deep) in
      let q : suc (left - 1) ≡ left = omega (arith, e.paid) in
      rw (p, q) (ready_for w (w.known, (x, record_known w.sheet w.known its_node)) w.given refl (le_refl _) (le_refl _) (le_refl _) w.room)

  -- no chain has more nodes than there are levels
  few_nodes : {a slots' : List ℕ} {q : ℕ} → PutShows b a slots slots' s P sc cells count count top (left - 1) q (levels - 1) (own x k s (get_or table x 0))
      → is_refusal q ≡ true → len_of q ≤ levels
  unfolding run why_in
  few_nodes {a} {q = q} g n =
      let w = e.asked in
      let d = not_had (g.told w.given) (decoded_refused a (levels - 1) q n) in
      let z : length (bytes_at a (chain_at (levels - 1)) (len_of q)) ≤ suc (levels - 1) =
      nodes_below (levels - 1) w.sheet.sh x w.env w.names w.value w.cells_now (left - 1) its_node d.1 in
      omega (arith, length_bytes a (chain_at (levels - 1)) (len_of q), e.deep)

  -- what is told, of the answer q that its function gave
  pub body_told : {m a slots' : List ℕ} {q r : ℕ} → PutShows b m slots slots' s P sc cells count count top (left - 1) q (levels - 1)
      (own x k s (get_or table x 0))
      → Left x levels q m a r
      → PutShows b a slots slots' s P sc cells count count top left r levels (enter x) × Few left r
  unfolding run Semantics.put
  body_told {m} {a} {slots'} {q} {r} g v = let h = told in (h, few w h)
    where
      w : Ready s table b slots P sc cells count count top levels left (enter x)
      w = e.asked

      short : is_refusal q ≡ false → 1 + steps_of q < 16777216
      short n = let z = (few body_ready g).at n in omega (arith, w.few)

      -- a success leaves the arena as it was
      same : (o : Explained Cells) → Represents (Wrote m slots' count) (decoded m (levels - 1) q) (left - 1) o
          → Represents (Wrote a slots' count) (decoded m (levels - 1) q) (left - 1) o
      same o t = by v
        where
          by : Left x levels q m a r → Represents (Wrote a slots' count) (decoded m (levels - 1) q) (left - 1) o
          by (up n f d) = let z = decoded_refused m (levels - 1) q n in as_refused (not_had t z).1 z
          by (on n f d) = rw f t

      entered_told : (l : ℕ) (sh : Sheet) (μ : Env) (σ : List ℕ) (u : Value) (W : Cells) → read_sheet s ≡ ok sh → suc l ≡ levels
          → Represents (Wrote a slots' count) (decoded m l q) (left - 1) (run l sh count (own x k s (get_or table x 0)) μ σ u W)
          → Represents (Wrote a slots' count) (decoded a levels r) left (run levels sh count (enter x) μ σ u W)
      entered_told l sh μ σ u W es z t =
          let n : get_or sh.nodes x False ≡ record_at k s (get_or table x 0) = ap (λ (y : Sheet). get_or y.nodes x False)
          (sym (same_sheet e.asked.sheet es)) ∙ its_node in
          let d : decoded a (suc l) r ≡ beneath x (decoded m l q) =
          left_said (g.frame.long ∙ w.long) (omega (arith, w.room, z)) (λ n. let y = few_nodes g n in omega (arith, w.room)) short (rw z v) in
          rw (← z) (step x _ (omega (arith, e.paid)) (rw n t) d)

      told : PutShows b a slots slots' s P sc cells count count top left r levels (enter x)
      told = record {
        frame = frame_then g.frame (kept_frame (left_kept (omega (arith, w.room)) v) w.base) w.base (le_refl top);
        long = g.long;
        told = λ {sh} {μ} {σ} {v = u} {W} z. entered_told (levels - 1) sh μ σ u W z.read (omega (arith, e.deep)) (same _ (g.told z));
      }

-- at the place that the code makes
pub own_as : {at at' : At} {sc : Scope} {s table a slots cells : List ℕ} {P : Value → Type 0} {x k n : ℕ} → at ≡ at'
    → Ready s table a slots P sc cells at'.cells at'.cells at'.top (suc at'.levels) (suc at'.left) (own x k s n)
    → Ready s table a slots P sc cells at.cells at.cells at.top (suc at.levels) (suc at.left) (own x k s n)
own_as e w = rw e w

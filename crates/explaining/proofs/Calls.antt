-- From the walk's explanation to the call's: refused at the door, and behind it.
use Rattle.std.specs.Prelude.{◌≡◌, List, leb}
use Rattle.std.proofs.Math.Path.{refl}
use Rattle.std.proofs.Common.{sym, ap, ◌∙◌, arith}
use Prim.Native.Nat.{ℕ, ◌≤◌}
use Rattle.std.proofs.Math.Decide.{dec_le}
use Rattle.std.proofs.lemmas.Bool.{lt-leb}
use Rattle.std.proofs.Math.ListN.{length}
use Rattle.rules.specs.Numbers.{allowance_limit, scratch_size}
use Rattle.rules.specs.Outcome.{Out}
use Rattle.rules.specs.Laws.Answers.{DoorOpens}
use Rattle.rules.proofs.Laws.Answers.{door-scratch, door_none, door_over}
use Rattle.rules.specs.Explain.Calls.{Explanation, success, before, walked, explain_get, explain_put, why_door, why_get, why_put}
use Rattle.walk.specs.declared.chain.Met.{Met}
use Rattle.walk.specs.Call.{WalkCall}
use Rattle.walk.specs.Call.Explained.{why_of, Explains}
use Rattle.explaining.specs.Explain.{WhyReply}
use Rattle.walk.specs.Reply.{Reply}
use Rattle.buffers.specs.Buffers.{zeroed}
use Rattle.calls.specs.Calls.{after_refusal}
use Rattle.calls.specs.CallLaws.{zeros_same}
use Rattle.arena.specs.Door.{shut, shut_is, shut_open}
use Rattle.explaining.specs.Explain.{unmet, told_as, why_cleared, WhyAnswered}
use Rattle.explaining.specs.Explain.Calls.{why_open, why_2, why_none, why_over, High, high_get, high_put}

-- refused at the door
why_shut : (allowance : ℕ) (s : List ℕ) (e : Explanation) {c : ℕ} → c ≡ shut 0 0 (length s) allowance → (c ≡ 0 → ⊥)
    → {r : WhyReply} → r ≡ unmet c → WhyAnswered (why_door allowance (length s) e) r s s
unfolding told_as why_cleared after_refusal
why_shut allowance s e {c} f z {r} u = go (dec_le scratch_size (length s)) (dec_le 1 allowance) (dec_le allowance allowance_limit)
  where
    by : (k : ℕ) → c ≡ k → leb k 3 ≡ leb 3 3 → why_door allowance (length s) e ≡ before k → WhyAnswered (why_door allowance (length s) e) r s s
    by k q l w = rw w (record { answer = u ∙ ap unmet q; scratch = rw l refl })

    go : Dec (scratch_size ≤ length s) → Dec (1 ≤ allowance) → Dec (allowance ≤ allowance_limit) → WhyAnswered (why_door allowance (length s) e) r s s
    go (no q) i t = by 2 (f ∙ sym (shut_is _ _ _ _ (door-scratch _ _ _ _ _ (omega arith) (omega arith)))) refl (why_2 allowance e (omega arith))
    go (yes q) (no i) t = by 3 (f ∙ sym (shut_is _ _ _ _ (door_none _ _ _ _ _ (omega arith) q (omega arith)))) refl (why_none allowance e q (omega arith))
    go (yes q) (yes i) (no t) =
        by 3 (f ∙ sym (shut_is _ _ _ _ (door_over _ _ _ _ _ (omega arith) q (omega arith)))) refl (why_over allowance e q i (omega arith))
    go (yes q) (yes i) (yes t) =
        let l : DoorOpens 0 0 (length s) allowance = record { output_long = omega arith; scratch_long = q; some_steps = i; few_steps = t } in
        absurd (z (f ∙ sym (shut_open l)))

module _ (allowance : ℕ) (s : List ℕ) {c : ℕ} (f : c ≡ shut 0 0 (length s) allowance) (z : c ≡ 0 → ⊥) {r : WhyReply} (u : r ≡ unmet c) where
  pub get_shut : (sheet plan : List ℕ) → WhyAnswered (why_get sheet plan allowance (length s)) r s s
  unfolding why_get
  get_shut sheet plan = why_shut allowance s (explain_get sheet plan allowance) f z u

  pub put_shut : (sheet plan view : List ℕ) → WhyAnswered (why_put sheet plan view allowance (length s)) r s s
  unfolding why_put
  put_shut sheet plan view = why_shut allowance s (explain_put sheet plan view allowance) f z u

cleared_high : (e : Explanation) (s : List ℕ) → High e → zeroed s ≡ why_cleared e s
unfolding why_cleared after_refusal
cleared_high success s h = refl
cleared_high (before c) s h = rw (lt-leb c 3 (h c refl))
cleared_high (walked y) s h = refl

module _ {allowance : ℕ} {s a : List ℕ} (l : DoorOpens 0 0 (length s) allowance) {U : Type 0} {need : ℕ} {o : Out (List ℕ)} {w : Reply}
    (g : WalkCall U need o allowance s a w) where
  pub why_long : scratch_size ≤ length a
  why_long = omega (arith, g.free.long, l.scratch_long)

  module _ {e : Explanation} {m : Met} (x : Explains e allowance s a w m) {r : WhyReply} {s' : List ℕ} (t : r ≡ told_as (why_of a w m))
      (z : s' ≡ zeroed a) where
    behind : High e → WhyAnswered (why_door allowance (length s) e) r s s'
    behind h = rw (why_open allowance e l) (record {
      answer = t ∙ ap told_as (x.why l);
      scratch = z ∙ zeros_same scratch_size s a g.free.behind ∙ cleared_high e s h;
    })

module _ {allowance : ℕ} {s a : List ℕ} (l : DoorOpens 0 0 (length s) allowance) {U : Type 0} {need : ℕ} {o : Out (List ℕ)} {w : Reply}
    (g : WalkCall U need o allowance s a w) {m : Met} {r : WhyReply} {s' : List ℕ} (t : r ≡ told_as (why_of a w m)) (z : s' ≡ zeroed a) where
  pub get_explained : (sheet plan : List ℕ) → Explains (explain_get sheet plan allowance) allowance s a w m
      → WhyAnswered (why_get sheet plan allowance (length s)) r s s'
  unfolding why_get
  get_explained sheet plan x = behind l g x t z (high_get sheet plan allowance)

  pub put_explained : (sheet plan view : List ℕ) → Explains (explain_put sheet plan view allowance) allowance s a w m
      → WhyAnswered (why_put sheet plan view allowance (length s)) r s s'
  unfolding why_put
  put_explained sheet plan view x = behind l g x t z (high_put sheet plan view allowance)

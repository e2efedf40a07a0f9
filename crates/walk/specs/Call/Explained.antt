-- Cause a walk was refused: what an entry shows of where it was met.
use Rattle.std.specs.Prelude.{◌≡◌, take, drop, Ok, Err}
use Rattle.std.proofs.Math.Path.{refl, sym, ap, ap₂}
use Rattle.std.proofs.Common.{subst, ◌∙◌, arith, length-take-le}
use Rattle.std.proofs.Math.Option.{Option, none, some}
use mathlib.Core.List.{List, ◌++◌}
use Prim.Native.Nat.{ℕ, zero, suc, ◌+◌, ◌≤◌}
use Rattle.std.proofs.Math.ListN.{length, get_or-append}
use Rattle.outcome.specs.Outcome.{code_of, len_of, start_of}
use Rattle.rules.specs.Numbers.{level_limit, scratch_size, chain_start, chain_limit}
use Rattle.rules.specs.Laws.Answers.{DoorOpens}
use Rattle.rules.specs.Explain.{Cause, Exit, got, met}
use Rattle.rules.specs.Explain.Chain.{Chain, Meets, stop}
use Rattle.rules.specs.Explain.Calls.{Explanation, success, before, walked, explained}
use Rattle.sheet.specs.Sheet.{Sheet}
use Rattle.refusal.specs.declared.Refusal.{Refusal}
use Rattle.refusal.specs.Refusal.{number_of}
use Rattle.walk.specs.Reply.{Reply}
use Rattle.walk.specs.declared.Done.{Done}
use Rattle.walk.specs.declared.GetWalked.{GetWalked}
use Rattle.walk.specs.declared.chain.Met.{Met}
use Rattle.walk.specs.Decoded.{bytes_at, writer, why_in, length_bytes}

-- in no node
unfoldable pub nowhere : Met
nowhere = record { depth = 0; first = 0 }

-- a get that is refused before the walk
unfoldable pub refused_get : Refusal → GetWalked
refused_get c = record { walked = Err c; met = nowhere }

module _ {r : GetWalked} (c : Refusal) (e : r ≡ refused_get c) where
  pub unread_walked : r.walked ≡ Err c
  unfolding refused_get
  unread_walked = ap (λ (g : GetWalked). g.walked) e

  pub unread_met : r.met ≡ nowhere
  unfolding refused_get
  unread_met = ap (λ (g : GetWalked). g.met) e

-- a refusal from before the walk, or one with a chain of nodes, which stand from byte 65,487 of the arena on
unfoldable pub met_at : (a : List ℕ) (c depth first : ℕ) → Explanation
met_at a c zero first = before c
met_at a c (suc d) first = walked (record { code = c; chain = bytes_at a chain_start (suc d); first = writer first })

-- what an entry's answer and the arena explain
unfoldable pub why_of : (a : List ℕ) → Reply → Met → Explanation
why_of a (Ok d) m = success
why_of a (Err c) m = met_at a (number_of c) m.depth m.first

-- one more than a node, or 0 where there is none
unfoldable pub numbered : Option ℕ → ℕ
numbered none = 0
numbered (some n) = suc n

-- where an explanation was met: how many nodes its chain has, and the node that wrote first
unfoldable pub met_by : Explanation → Met
met_by success = nowhere
met_by (before c) = nowhere
met_by (walked y) = record { depth = length y.chain; first = numbered y.first }

-- a call with the arena b before and a behind it explains e, where the arena and the allowance will do; it is met nowhere where they will not
pub record Explains (e : Explanation) (allowance : ℕ) (b a : List ℕ) (w : Reply) (m : Met) : Type 0 where
  pub few : m.depth ≤ chain_limit
  pub why : DoorOpens 0 0 (length b) allowance → why_of a w m ≡ e
  pub place : DoorOpens 0 0 (length b) allowance → m ≡ met_by e
  pub idle : (DoorOpens 0 0 (length b) allowance → ⊥) → m ≡ nowhere

-- A REFUSAL FROM BEFORE THE WALK

module _ {e : Explanation} {allowance : ℕ} {b : List ℕ} {c : Refusal} where
  pub unmet_shut : (DoorOpens 0 0 (length b) allowance → ⊥) → Explains e allowance b b (Err c) nowhere
  unfolding nowhere
  unmet_shut n = record { few = omega arith; why = λ l. absurd (n l); place = λ l. absurd (n l); idle = λ _. refl }

  pub unmet : e ≡ before (number_of c) → Explains e allowance b b (Err c) nowhere
  unfolding nowhere why_of met_at met_by
  unmet f = record { few = omega arith; why = λ _. sym f; place = λ _. sym (ap met_by f); idle = λ _. refl }

-- THE WALK FROM THE ROOT: its answer r, and what the rules give under the allowance

-- what holds of a refusal, of this one
met_so : {A : Type 0} {P : Cause → Type 0} {t : Exit A} {y : Cause} {s : ℕ} → Meets P t → t ≡ met y s → P y
met_so {A} {P} {t} {y} {s} m e = go (subst (Meets P) e m)
  where
    go : Meets {A = A} P (met y s) → P y
    go (stop p) = p

module _ {A : Type 0} (a : List ℕ) (r : ℕ) (sh : Sheet) (n : ℕ) {t : Exit A} {s : ℕ} (meets : Meets (Chain sh n level_limit) t)
    (d : t ≡ met (why_in a level_limit r) s) where
  chain : Chain sh n level_limit (why_in a level_limit r)
  chain = met_so meets d

  nodes : len_of r ≡ suc (length chain.rest)
  unfolding why_in
  nodes = sym (length_bytes a chain_start (len_of r)) ∙ ap (λ (l : List ℕ). length l) chain.begins

  pub few_nodes : len_of r ≤ chain_limit
  few_nodes = omega (arith, nodes, chain.short)

  met_why : (x : Refusal) → number_of x ≡ code_of r → why_of a (Err x) (record { depth = len_of r; first = start_of r }) ≡ explained t
  unfolding why_of met_at explained why_in
  met_why x c = ap (λ (n : ℕ). met_at a n (len_of r) (start_of r)) c ∙ go (len_of r) refl ∙ sym (ap explained d)
    where
      go : (k : ℕ) → len_of r ≡ k → met_at a (code_of r) (len_of r) (start_of r) ≡ walked (why_in a level_limit r)
      go zero e = absurd (omega (arith, nodes, e))
      go (suc k) e = rw e refl

  met_place : record { depth = len_of r; first = start_of r } ≡ met_by (explained t)
  unfolding met_by explained why_in numbered writer
  met_place = ap₂ (λ (d f : ℕ). at d f) (sym (length_bytes a chain_start (len_of r))) (first (start_of r)) ∙ sym (ap (λ (u : Exit A). met_by (explained u)) d)
    where
      at : ℕ → ℕ → Met
      at d f = record { depth = d; first = f }

      first : (n : ℕ) → n ≡ numbered (writer n)
      first zero = refl
      first (suc n) = refl

  pub met_explains : {e : Explanation} {allowance : ℕ} {b : List ℕ} (x : Refusal) → number_of x ≡ code_of r → DoorOpens 0 0 (length b) allowance
      → e ≡ explained t → Explains e allowance b a (Err x) (record { depth = len_of r; first = start_of r })
  met_explains x c l f = record { few = few_nodes; why = λ _. met_why x c ∙ sym f; place = λ _. met_place ∙ sym (ap met_by f); idle = λ n. absurd (n l) }

done_why : {A : Type 0} (a : List ℕ) (w : Done) (m : Met) {s : ℕ} {t : Exit A} {v : A} → t ≡ got v s → why_of a (Ok w) m ≡ explained t
unfolding why_of explained
done_why a w m d = sym (ap explained d)

done_place : {A : Type 0} {s : ℕ} {t : Exit A} {v : A} → t ≡ got v s → nowhere ≡ met_by (explained t)
unfolding met_by explained
done_place d = sym (ap (λ (u : Exit _). met_by (explained u)) d)

pub done_explains : {A : Type 0} {a b : List ℕ} {w : Done} {s allowance : ℕ} {t : Exit A} {v : A} {e : Explanation} → t ≡ got v s → e ≡ explained t
    → Explains e allowance b a (Ok w) nowhere
unfolding nowhere
done_explains d f =
    record { few = omega arith; why = λ _. done_why _ _ _ d ∙ sym f; place = λ _. done_place d ∙ sym (ap met_by f); idle = λ _. refl }

-- THE WHOLE ARENA, of which the walk has the front

bytes_front : (a x : List ℕ) (i d : ℕ) → i + d ≤ length a → bytes_at (a ++ x) i d ≡ bytes_at a i d
unfolding bytes_at
bytes_front a x i zero h = refl
bytes_front a x i (suc d) h = rw (get_or-append a x 0 i (omega arith), bytes_front a x (suc i) d (omega arith)) refl

met_front : (a x : List ℕ) (c depth first : ℕ) → depth ≤ chain_limit → length a ≡ scratch_size → met_at (a ++ x) c depth first ≡ met_at a c depth first
unfolding met_at
met_front a x c zero first h l = refl
met_front a x c (suc d) first h l = rw (bytes_front a x chain_start (suc d) (omega arith)) refl

-- a front of 65,536 bytes will do where the whole does
pub lent_front : {allowance : ℕ} (b : List ℕ) → DoorOpens 0 0 (length b) allowance → DoorOpens 0 0 (length (take scratch_size b)) allowance
lent_front b l = record {
  output_long = l.output_long;
  scratch_long = rw (length-take-le scratch_size b l.scratch_long) (omega arith);
  some_steps = l.some_steps;
  few_steps = l.few_steps;
}

pub explains_whole : {e : Explanation} {allowance : ℕ} {b a : List ℕ} {w : Reply} {m : Met} → DoorOpens 0 0 (length b) allowance → length a ≡ scratch_size
    → Explains e allowance (take scratch_size b) a w m → Explains e allowance b (a ++ drop scratch_size b) w m
unfolding why_of
explains_whole {e} {allowance} {b} {a} {w} {m} lent l x = record {
  few = x.few;
  why = λ _. go w (x.why (lent_front b lent));
  place = λ _. x.place (lent_front b lent);
  idle = λ n. absurd (n lent);
}
  where
    go : (w : Reply) → why_of a w m ≡ e → why_of (a ++ drop scratch_size b) w m ≡ e
    go (Ok d) h = h
    go (Err c) h = met_front a (drop scratch_size b) (number_of c) m.depth m.first x.few l ∙ h

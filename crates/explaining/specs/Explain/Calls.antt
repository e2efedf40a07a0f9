-- From the walk's explanation to the call's.
use Rattle.std.specs.Prelude.{◌≡◌, List, [], ◌∷◌, ◌++◌, drop, replicate}
use Rattle.std.proofs.Math.Path.{refl}
use Rattle.std.proofs.Common.{sym, ap, ◌∙◌, arith, drop-cons}
use Rattle.std.proofs.Math.Option.{some}
use Prim.Native.Nat.{ℕ, zero, suc, ◌+◌, ◌≤◌, ◌<◌}
use Rattle.std.proofs.Math.ListN.{length, take}
use Rattle.std.proofs.Math.Seq.{paste}
use Rattle.rules.specs.Numbers.{allowance_limit, scratch_size, chain_start, chain_limit}
use Rattle.rules.specs.Outcome.{Out, done, refused}
use Rattle.rules.specs.Answer.{get_bytes, put_bytes}
use Rattle.rules.specs.Laws.Answers.{DoorOpens}
use Rattle.rules.proofs.Laws.Refusals.{Lists, l_refused, listed_above, lists_get_bytes, lists_put_bytes}
use Rattle.rules.specs.Explain.Calls.{Explanation, success, before, walked, explain_get, explain_put, unless_before, why_door, number, refusal_of}
use Rattle.rules.proofs.Explain.Calls.{get_number, put_number}
use Rattle.starts.specs.Starts.{firsts}
use Rattle.starts.proofs.Lookup.{length-firsts}
use Rattle.walk.specs.declared.chain.Met.{Met}
use Rattle.walk.specs.Decoded.{bytes_at, writer, length_bytes}
use Rattle.walk.specs.Call.Explained.{met_at, why_of}
use Rattle.explaining.specs.Explain.{WhyReply}
use Rattle.std.specs.Prelude.{Ok, Err}
use Rattle.refusal.specs.declared.Refusal.{Refusal}
use Rattle.refusal.specs.Refusal.{number_of}
use Rattle.walk.specs.Reply.{Reply}
use Rattle.walk.specs.declared.Done.{Done}
use Rattle.buffers.specs.Buffers.{copied, copied_room}
use Rattle.calls.specs.CallLaws.{at_front}
use Rattle.explaining.specs.Explain.{unmet, first_number, told_as, WhyAnswered}

-- A WALK'S ANSWER, CASE BY CASE

module _ (a : List ℕ) {w : Reply} (m : Met) where
  pub told_done : {d : Done} → w ≡ Ok d → unmet 0 ≡ told_as (why_of a w m)
  unfolding told_as why_of
  told_done e = rw e

  pub told_refused : {e : Refusal} → w ≡ Err e → told_as (met_at a (number_of e) m.depth m.first) ≡ told_as (why_of a w m)
  unfolding why_of
  told_refused e = rw e

-- bytes of scratch with zeros behind them
bytes_taken : (a : List ℕ) (i d : ℕ) → i + d ≤ length a → bytes_at a i d ≡ take d (drop i a)
unfolding bytes_at
bytes_taken a i zero h = refl
bytes_taken a i (suc d) h = rw (drop-cons a i 0 (omega arith), bytes_taken a (suc i) d (omega arith)) refl

firsts_zeros : (n : ℕ) (l : List ℕ) (d : ℕ) → length l ≡ d → d ≤ n → l ++ drop d (replicate n 0) ≡ firsts n l
firsts_zeros zero [] d e h = let z : d ≡ 0 = omega arith in rw z refl
firsts_zeros (suc n) [] d e h =
    let z : d ≡ 0 = omega arith in
    rw z (ap (λ (k : List ℕ). 0 ∷ k) (firsts_zeros n [] 0 refl (omega arith)))
firsts_zeros n (x ∷ l) zero e h = absurd (omega arith)
firsts_zeros zero (x ∷ l) (suc d) e h = absurd (omega arith)
firsts_zeros (suc n) (x ∷ l) (suc d) e h = ap (λ (k : List ℕ). x ∷ k) (firsts_zeros n l d (omega arith) (omega arith))

told_parts : {c d d' f f' : ℕ} {l l' : List ℕ} → d ≡ d' → l ≡ l' → f ≡ f'
    → ◌≡◌ {A = WhyReply} (record { refusal = c; depth = d; chain = l; first = f }) (record { refusal = c; depth = d'; chain = l'; first = f' })
told_parts e p q = rw (e, p, q)

first_back : (f : ℕ) → first_number (writer f) ≡ f
unfolding first_number writer
first_back zero = refl
first_back (suc f) = refl

module _ (a : List ℕ) (c d f : ℕ) where
  pub met_none : d ≡ 0 → unmet c ≡ told_as (met_at a c d f)
  unfolding told_as met_at
  met_none e = rw e

  pub met_some : (d ≡ 0 → ⊥) → d ≤ chain_limit → scratch_size ≤ length a → {nodes : List ℕ} → nodes ≡ copied chain_start 0 d a (replicate chain_limit 0)
      → record { refusal = c; depth = d; chain = nodes; first = f } ≡ told_as (met_at a c d f)
  unfolding told_as met_at
  met_some z h l {nodes} e =
      let n : length {A = ℕ} (replicate chain_limit 0) ≡ chain_limit = refl in
      go d z h (bytes_taken a chain_start d (omega arith)) (e ∙ copied_room chain_start 0 d a (replicate chain_limit 0) (omega arith) (omega arith))
    where
      go : (k : ℕ) → (k ≡ 0 → ⊥) → k ≤ chain_limit → bytes_at a chain_start k ≡ take k (drop chain_start a) → nodes ≡ paste (replicate chain_limit 0) 0
          (drop chain_start a) k
          → record { refusal = c; depth = k; chain = nodes; first = f } ≡ told_as (met_at a c k f)
      go zero z h t e = absurd (z refl)
      go (suc k) z h t e =
          let b = bytes_at a chain_start (suc k) in
          let n : length b ≡ suc k = length_bytes a chain_start (suc k) in
          told_parts (sym n) (e ∙ at_front (replicate chain_limit 0) a b chain_start (suc k) (sym t) ∙ firsts_zeros chain_limit b (suc k) n h)
          (sym (first_back f))

-- THE DOOR

module _ {P : Type 0} (c : ℕ) (e : Explanation) where
  open_door : (d : Dec P) → P → unless_before c d e ≡ e
  unfolding unless_before
  open_door (yes p) h = refl
  open_door (no p) h = absurd (p h)

  shut_door : (d : Dec P) → (P → ⊥) → unless_before c d e ≡ before c
  unfolding unless_before
  shut_door (yes p) h = absurd (h p)
  shut_door (no p) h = refl

module _ (allowance : ℕ) {scratch : ℕ} (e : Explanation) where
  pub why_open : DoorOpens 0 0 scratch allowance → why_door allowance scratch e ≡ e
  unfolding why_door
  why_open l =
      open_door 2 _ _ l.scratch_long ∙ open_door 3 _ _ l.some_steps ∙ open_door 3 _ _ l.few_steps

  pub why_2 : scratch < scratch_size → why_door allowance scratch e ≡ before 2
  unfolding why_door
  why_2 h = shut_door 2 _ _ (λ k. omega arith)

  pub why_none : scratch_size ≤ scratch → allowance < 1 → why_door allowance scratch e ≡ before 3
  unfolding why_door
  why_none q h = open_door 2 _ _ q ∙ shut_door 3 _ _ (λ k. omega arith)

  pub why_over : scratch_size ≤ scratch → 1 ≤ allowance → allowance_limit < allowance → why_door allowance scratch e ≡ before 3
  unfolding why_door
  why_over q r h = open_door 2 _ _ q ∙ open_door 3 _ _ r ∙ shut_door 3 _ _ (λ k. omega arith)

-- BEHIND IT

-- a refusal from before the walk is none of the door's
abbrev pub High : Explanation → Type 0
High e = (c : ℕ) → e ≡ before c → 3 < c

high_of : {c : ℕ} {A : Type 0} (o : Out A) → Lists o → some c ≡ refusal_of o → 3 < c
unfolding refusal_of
high_of {c} (done a n) l e = let z : ◌≡◌ {A = ℕ} 0 1 = cc in absurd (omega arith)
high_of {c} (refused k n) (l_refused h) e = let z : k ≡ c = cc in rw z at (listed_above k h)

pub high_get : (sheet plan : List ℕ) (allowance : ℕ) → High (explain_get sheet plan allowance)
unfolding number
high_get sheet plan allowance c e =
    high_of (get_bytes sheet plan allowance) (lists_get_bytes sheet plan allowance) (sym (ap number e) ∙ get_number sheet plan allowance)

pub high_put : (sheet plan view : List ℕ) (allowance : ℕ) → High (explain_put sheet plan view allowance)
unfolding number
high_put sheet plan view allowance c e =
    high_of (put_bytes sheet plan view allowance) (lists_put_bytes sheet plan view allowance) (sym (ap number e) ∙ put_number sheet plan view allowance)

-- ITS NODES

told_long : (e : Explanation) → length (told_as e).chain ≡ chain_limit
unfolding told_as unmet
told_long success = length-firsts chain_limit []
told_long (before c) = length-firsts chain_limit []
told_long (walked y) = length-firsts chain_limit y.chain

module _ {e : Explanation} {w : WhyReply} {s s' : List ℕ} (h : WhyAnswered e w s s') where
  pub nodes_long : length w.chain ≡ chain_limit
  nodes_long = ap (λ (x : WhyReply). length x.chain) h.answer ∙ told_long e

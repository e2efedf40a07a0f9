-- The door of a walk and of a call: what it refuses before anything is read. A walk asks for no output.
use Rattle.std.specs.Prelude.{◌≡◌, refl, true, ℕ, ◌≤◌, leb, ⊤, Result, MatchResult}
use Rattle.std.proofs.Math.Path.{sym}
use Rattle.std.proofs.Common.{ap, ◌∙◌, arith}
use mathlib.Core.List.{List, []}
use Rattle.std.proofs.Math.Decide.{dec_le}
use Rattle.refusal.specs.declared.Refusal.{Refusal}
use Rattle.refusal.specs.Refusal.{number_of}
use Rattle.outcome.proofs.Numbers.{number_fits}
use Rattle.rules.specs.Numbers.{allowance_limit, scratch_size}
use Rattle.rules.specs.Outcome.{Out, done, refused}
use Rattle.rules.proofs.Laws.Outcomes.{given_yes}
use Rattle.rules.specs.Answer.{door}
use Rattle.rules.specs.Laws.Answers.{DoorOpens}
use Rattle.rules.proofs.Laws.Answers.{door_open, door-output, door-scratch, door_none, door_over}

-- the number of a refusal, 0 where there is none
unfoldable pub number : Out (List ℕ) → ℕ
number (done bs n) = 0
number (refused c n) = c

-- the refusal of the door for these sizes and this allowance, 0 where it opens
unfoldable pub shut : (need output scratch allowance : ℕ) → ℕ
shut need output scratch allowance = number (door need output scratch allowance (done [] 0))

-- r is that refusal, or that there is none
abbrev pub Judges : (need output scratch allowance : ℕ) → Result ⊤ Refusal → Type 0
Judges need output scratch allowance r =
    MatchResult r (λ _. shut need output scratch allowance ≡ 0) (λ e. number_of e ≡ shut need output scratch allowance)

-- what shut says: all is lent that is needed, or a refusal 1 to 3, whatever stands behind the door
pub data Door (need output scratch allowance : ℕ) : ℕ → Type 0 where
  opens : DoorOpens need output scratch allowance → Door need output scratch allowance 0
  shuts : {c : ℕ} → 1 ≤ c → leb c 3 ≡ true → ((o : Out (List ℕ)) → door need output scratch allowance o ≡ refused c 0) → Door need output scratch allowance c

-- a return of the code
pub shut_is : (need output scratch allowance : ℕ) {c : ℕ} → door need output scratch allowance (done [] 0) ≡ refused c 0
    → c ≡ shut need output scratch allowance
unfolding shut number
shut_is need output scratch allowance e = sym (ap number e)

-- where the output will do, the door of a call is that of the walk
pub past_output : {need output : ℕ} → need ≤ output → (scratch allowance : ℕ) → shut 0 0 scratch allowance ≡ shut need output scratch allowance
unfolding shut door
past_output {need} {output} h scratch allowance =
    ap number (given_yes 1 (dec_le 0 0) (omega arith) ∙ sym (given_yes 1 (dec_le need output) h))

module _ {need output scratch allowance : ℕ} where
  pub shut_open : DoorOpens need output scratch allowance → 0 ≡ shut need output scratch allowance
  unfolding shut number
  shut_open l = sym (ap number (door_open {o = done [] 0} l))

  shutting : {c : ℕ} → 1 ≤ c → leb c 3 ≡ true → ((o : Out (List ℕ)) → door need output scratch allowance o ≡ refused c 0)
      → Door need output scratch allowance (shut need output scratch allowance)
  shutting h l f = rw (← shut_is need output scratch allowance (f (done [] 0))) (shuts h l f)

  pub door_cases : Door need output scratch allowance (shut need output scratch allowance)
  door_cases = go (dec_le need output) (dec_le scratch_size scratch) (dec_le 1 allowance) (dec_le allowance allowance_limit)
    where
      go : Dec (need ≤ output) → Dec (scratch_size ≤ scratch) → Dec (1 ≤ allowance) → Dec (allowance ≤ allowance_limit)
          → Door need output scratch allowance (shut need output scratch allowance)
      go (no h) q r t = shutting (omega arith) refl (λ o. door-output _ _ _ _ o (omega arith))
      go (yes h) (no q) r t = shutting (omega arith) refl (λ o. door-scratch _ _ _ _ o h (omega arith))
      go (yes h) (yes q) (no r) t = shutting (omega arith) refl (λ o. door_none _ _ _ _ o h q (omega arith))
      go (yes h) (yes q) (yes r) (no t) = shutting (omega arith) refl (λ o. door_over _ _ _ _ o h q (omega arith))
      go (yes h) (yes q) (yes r) (yes t) =
          let l : DoorOpens need output scratch allowance = record { output_long = h; scratch_long = q; some_steps = r; few_steps = t } in
          rw (← shut_open l) (opens l)

  -- behind it
  pub door_lent : {c : ℕ} → c ≡ shut need output scratch allowance → c ≡ 0 → DoorOpens need output scratch allowance
  door_lent {c} e z = go door_cases (sym e ∙ z)
    where
      go : {k : ℕ} → Door need output scratch allowance k → k ≡ 0 → DoorOpens need output scratch allowance
      go (opens l) y = l
      go (shuts h l f) y = absurd (omega arith)

  -- it stays shut, so that not all is lent
  pub door_shut : {c : ℕ} → c ≡ shut need output scratch allowance → (c ≡ 0 → ⊥) → DoorOpens need output scratch allowance → ⊥
  door_shut e n l = n (e ∙ sym (shut_open l))

  -- as a judge says it
  pub door_opens : shut need output scratch allowance ≡ 0 → DoorOpens need output scratch allowance
  door_opens e = door_lent (sym e) refl

  pub door_stays : (x : Refusal) → number_of x ≡ shut need output scratch allowance → DoorOpens need output scratch allowance → ⊥
  door_stays x e = door_shut e (λ z. omega (arith, (number_fits x).0, z))

-- What a success of a whole call shows, and what shows one; its steps and larger allowances.
use Rattle.std.proofs.Math.Path.{◌≡◌, refl, ap}
use Rattle.std.proofs.Common.{◌∙◌, arith, le_trans}
use Rattle.std.proofs.Math.Option.{Option, none, some}
use Rattle.std.specs.Prelude.{List, ℕ, ◌≤◌, ◌<◌}
use Rattle.std.proofs.Math.Decide.{dec_le}
use Rattle.value.specs.Result.{Result, ok}
use Rattle.rules.specs.Numbers.{allowance_limit, scratch_size, get_output, put_output}
use Rattle.rules.specs.Outcome.{Out, done, refused, map_out, given, reading}
use Rattle.rules.specs.Answer.{success, answer, door, get_walk, get_bytes, get_answer, put_walk, put_bytes, put_answer}
use Rattle.rules.proofs.Laws.Outcomes.{given_yes, given_not}
use Rattle.rules.proofs.Laws.Allowances.{within-done, done-within}
use Rattle.rules.specs.Laws.Answers.{DoorOpens, Got, PutBack}

module _ {A B : Type 0} where
  given-done : (c : ℕ) (o : Option A) (f : A → Out B) {b : B} {s : ℕ} → given c o f ≡ done b s → (a : A) × (o ≡ some a) × (f a ≡ done b s)
  unfolding given
  given-done c none f e = let z : ◌≡◌ {A = ℕ} 0 1 = cc in absurd (omega arith)
  given-done c (some a) f e = (a, refl, e)

  reading-done : (r : Result A) (f : A → Out B) {b : B} {s : ℕ} → reading r f ≡ done b s → (a : A) × (r ≡ ok a) × (f a ≡ done b s)
  unfolding reading
  reading-done (ok a) f e = (a, refl, e)
  reading-done (Rattle.value.specs.Result.refusal c) f e = let z : ◌≡◌ {A = ℕ} 0 1 = cc in absurd (omega arith)

  map_done : (f : A → B) (o : Out A) {b : B} {s : ℕ} → map_out f o ≡ done b s → (a : A) × (o ≡ done a s) × (b ≡ f a)
  unfolding map_out
  map_done f (done a t) e = (a, cc, cc)
  map_done f (refused c t) e = let z : ◌≡◌ {A = ℕ} 0 1 = cc in absurd (omega arith)

answer-success : (o : Out (List ℕ)) {bs : List ℕ} {s : ℕ} → answer o ≡ success bs s → o ≡ done bs s
unfolding answer
answer-success (done a t) e = cc
answer-success (refused c t) e = let z : ◌≡◌ {A = ℕ} 0 1 = cc in absurd (omega arith)

module _ {need output scratch allowance : ℕ} {o : Out (List ℕ)} where
  door-done : {bs : List ℕ} {s : ℕ} → door need output scratch allowance o ≡ done bs s → DoorOpens need output scratch allowance × (o ≡ done bs s)
  unfolding door
  door-done e =
      let (h₁, _, e₁) = given-done _ _ _ e in let (h₂, _, e₂) = given-done _ _ _ e₁ in
      let (h₃, _, e₃) = given-done _ _ _ e₂ in let (h₄, _, e₄) = given-done _ _ _ e₃ in
      (record { output_long = h₁; scratch_long = h₂; some_steps = h₃; few_steps = h₄ }, e₄)

  -- it opens
  pub door_open : DoorOpens need output scratch allowance → door need output scratch allowance o ≡ o
  unfolding door
  door_open l = given_yes 1 (dec_le need output) l.output_long ∙ given_yes 2 (dec_le scratch_size scratch) l.scratch_long
      ∙ given_yes 3 (dec_le 1 allowance) l.some_steps ∙ given_yes 3 (dec_le allowance allowance_limit) l.few_steps

-- and the four ways in which it stays shut
module _ (need output scratch allowance : ℕ) (o : Out (List ℕ)) where
  pub door-output : output < need → door need output scratch allowance o ≡ refused 1 0
  unfolding door
  door-output h = given_not 1 (dec_le need output) _ (λ k. omega arith)

  pub door-scratch : need ≤ output → scratch < scratch_size → door need output scratch allowance o ≡ refused 2 0
  unfolding door
  door-scratch h k = given_yes 1 (dec_le need output) h ∙ given_not 2 (dec_le scratch_size scratch) _ (λ l. omega arith)

  pub door_none : need ≤ output → scratch_size ≤ scratch → allowance ≡ 0 → door need output scratch allowance o ≡ refused 3 0
  unfolding door
  door_none h k e = given_yes 1 (dec_le need output) h ∙ given_yes 2 (dec_le scratch_size scratch) k ∙ given_not 3 (dec_le 1 allowance) _ (λ l. omega arith)

  pub door_over : need ≤ output → scratch_size ≤ scratch → allowance_limit < allowance → door need output scratch allowance o ≡ refused 3 0
  unfolding door
  door_over h k e = given_yes 1 (dec_le need output) h ∙ given_yes 2 (dec_le scratch_size scratch) k ∙ given_yes 3 (dec_le 1 allowance) (omega arith)
      ∙ given_not 3 (dec_le allowance allowance_limit) _ (λ l. omega arith)

lent_larger : {need output scratch allowance : ℕ} (b : ℕ) → allowance ≤ b → b ≤ allowance_limit → DoorOpens need output scratch allowance
    → DoorOpens need output scratch b
lent_larger b h k l = record { output_long = l.output_long; scratch_long = l.scratch_long; some_steps = le_trans l.some_steps h; few_steps = k }

module _ {sheet plan : List ℕ} {allowance output scratch : ℕ} where
  pub get_shows : {view : List ℕ} {n : ℕ} → get_answer sheet plan allowance output scratch ≡ success view n
      → DoorOpens get_output output scratch allowance × Got sheet plan allowance view n
  unfolding get_answer get_bytes get_walk
  get_shows e =
      let (l, e₀) = door-done (answer-success _ e) in let (sh, es, e₁) = reading-done _ _ e₀ in let (μ, ep, e₂) = reading-done _ _ e₁ in
      let (v, ew, eb) = map_done _ _ e₂ in let (eg, h) = within-done allowance _ ew in
      (l, record { sh = sh; sheet_read = es; μ = μ; plan_read = ep; v = v; walk = eg; few = h; bytes = eb })

  pub get_answers : {view : List ℕ} {n : ℕ} → DoorOpens get_output output scratch allowance → Got sheet plan allowance view n
      → get_answer sheet plan allowance output scratch ≡ success view n
  unfolding get_answer get_bytes get_walk answer reading map_out
  get_answers l g = ap answer (door_open l) ∙ rw (g.sheet_read, g.plan_read, g.walk, done-within allowance g.v _ g.few, g.bytes)

module _ {sheet plan view : List ℕ} {allowance output scratch : ℕ} where
  pub put_shows : {new : List ℕ} {n : ℕ} → put_answer sheet plan view allowance output scratch ≡ success new n
      → DoorOpens put_output output scratch allowance × PutBack sheet plan view allowance new n
  unfolding put_answer put_bytes put_walk
  put_shows e =
      let (l, e₀) = door-done (answer-success _ e) in let (sh, es, e₁) = reading-done _ _ e₀ in let (μ, ep, e₂) = reading-done _ _ e₁ in
      let (vs, ev, e₃) = reading-done _ _ e₂ in let (X, ew, eb) = map_done _ _ e₃ in let (eg, h) = within-done allowance _ ew in
      (l, record { sh = sh; sheet_read = es; μ = μ; plan_read = ep; vs = vs; view_read = ev; X = X; walk = eg; few = h; bytes = eb })

  pub put_answers : {new : List ℕ} {n : ℕ} → DoorOpens put_output output scratch allowance → PutBack sheet plan view allowance new n
      → put_answer sheet plan view allowance output scratch ≡ success new n
  unfolding put_answer put_bytes put_walk answer reading map_out
  put_answers l g = ap answer (door_open l) ∙ rw (g.sheet_read, g.plan_read, g.view_read, g.walk, done-within allowance g.X _ g.few, g.bytes)

-- STEPS AND ALLOWANCES

module _ (sheet plan : List ℕ) (allowance output scratch : ℕ) (bs : List ℕ) (n : ℕ) where
  -- the steps of a success are at most the allowance
  pub get_steps : get_answer sheet plan allowance output scratch ≡ success bs n → n ≤ allowance
  get_steps e = (get_shows e).1.few

  pub put_steps : (view : List ℕ) → put_answer sheet plan view allowance output scratch ≡ success bs n → n ≤ allowance
  put_steps view e = (put_shows e).1.few

  -- and it is the same success, with the same steps, under every larger one
  pub get_larger : (b : ℕ) → allowance ≤ b → b ≤ allowance_limit → get_answer sheet plan allowance output scratch ≡ success bs n
      → get_answer sheet plan b output scratch ≡ success bs n
  get_larger b h k e = let (l, g) = get_shows e in get_answers (lent_larger b h k l)
      (record {
        sh = g.sh;
        sheet_read = g.sheet_read;
        μ = g.μ;
        plan_read = g.plan_read;
        v = g.v;
        walk = g.walk;
        few = le_trans g.few h;
        bytes = g.bytes;
      })

  pub put_larger : (view : List ℕ) (b : ℕ) → allowance ≤ b → b ≤ allowance_limit → put_answer sheet plan view allowance output scratch ≡ success bs n
      → put_answer sheet plan view b output scratch ≡ success bs n
  put_larger view b h k e = let (l, g) = put_shows e in put_answers (lent_larger b h k l) (record {
    sh = g.sh;
    sheet_read = g.sheet_read;
    μ = g.μ;
    plan_read = g.plan_read;
    vs = g.vs;
    view_read = g.view_read;
    X = g.X;
    walk = g.walk;
    few = le_trans g.few h;
    bytes = g.bytes;
  })

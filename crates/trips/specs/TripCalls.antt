-- Each return of the two functions that make both calls.
use Rattle.std.specs.Prelude.{◌≡◌, refl, List, ℕ, ◌*◌, ◌≤◌, length, take}
use Rattle.std.proofs.Common.{sym, le_trans, le_refl, length-take-le}
use Rattle.rules.specs.Numbers.{allowance_limit, factor, get_output, put_output}
use Rattle.rules.specs.Answer.{success, get_answer, put_answer}
use Rattle.rules.proofs.Laws.Answers.{get_shows, put_shows, get_steps, put_steps}
use Rattle.rules.proofs.Laws.Trips.{consistency, acceptability}
use Rattle.calls.specs.Reply.{Reply, Done, Refused}
use Rattle.together.specs.Trip.{Trip, Stopped}
use Rattle.calls.specs.Calls.{Answered}
use Rattle.arena.specs.Door.{shut}
use Rattle.rules.specs.Laws.Answers.{DoorOpens}
use Rattle.calls.specs.Trips.{success_of}
use Rattle.calls.specs.WalkCalls.{get_behind, put_behind, call_shut}
use Rattle.together.specs.RoundTrips.{Tripped, ListStands, PlanStays, back_and_out, out_and_back, verdict, refusal_of, first_refused, second_shut}
use Rattle.together.specs.RoundTrips.{second_judged}

-- a front that is lent
pub front_long : (n : ℕ) (xs : List ℕ) → n ≤ length xs → n ≡ length (take n xs)
front_long n xs h = sym (length-take-le n xs h)

-- PUT, THEN GET
module _ (sheet plan view : List ℕ) (allowance : ℕ) (new out s : List ℕ) {new' s₁ : List ℕ} {r₁ : Reply}
    (w₁ : Answered (put_answer sheet plan view allowance (length new) (length s)) r₁ new new' s s₁) where
  abbrev PutGet : Trip → List ℕ → List ℕ → Type 0
  PutGet r out' s₂ =
      Tripped (put_answer sheet plan view allowance (length new) (length s)) (back_and_out sheet allowance (length out) (length s)) r new new' out out' s s₂
      × ListStands sheet plan view allowance (length new) (length out) (length s) r out'

  pub put_stopped : {c : ℕ} → r₁ ≡ Refused c → PutGet (Stopped c) out s₁
  put_stopped e = first_refused (back_and_out sheet allowance (length out) (length s)) view (λ n. n) (λ n. get_output ≤ length out) w₁ out e

  module _ (k : length s₁ ≡ length s) {len p : ℕ} (d : r₁ ≡ Done len p) where
    stands : get_output ≤ length out → (g : ℕ) × (get_answer sheet (take len new') allowance (length out) (length s) ≡ success view g) × (g ≤ p)
    stands h =
        let e = success_of w₁ d in
        consistency sheet plan view allowance (length new) (length s) (take len new') p e (length out) (length s) h (put_shows e).0.scratch_long

    pub get_shut : {c : ℕ} → c ≡ shut get_output (length out) (length s₁) allowance → (c ≡ 0 → ⊥) → PutGet (Stopped c) out s₁
    get_shut e z = second_shut (back_and_out sheet allowance (length out) (length s)) view (λ n. n) (λ n. get_output ≤ length out) w₁ d stands out
        (rw k at (refusal_of (call_shut (get_behind sheet (take len new') allowance out s₁) e z) refl))

    pub get_judged : DoorOpens get_output (length out) (length s₁) allowance → {out' s₂ : List ℕ} {r₂ : Reply} {r : Trip}
        → Answered (get_answer sheet (take len new') allowance (length out) (length s₁)) r₂ out out' s₁ s₂ → r ≡ verdict p r₂ p out' view → PutGet r out' s₂
    get_judged l w₂ v = second_judged (back_and_out sheet allowance (length out) (length s)) view (λ n. n) (λ n. get_output ≤ length out) w₁ d stands
        (rw k at w₂) l.output_long v

-- GET, THEN PUT

-- the steps of the get, so that 48 times as many fit in a number
pub get_few : (sheet plan : List ℕ) (allowance output scratch : ℕ) {view view' s s₁ : List ℕ} {r₁ : Reply}
    → Answered (get_answer sheet plan allowance output scratch) r₁ view view' s s₁ → {len n : ℕ} → r₁ ≡ Done len n → n ≤ allowance_limit
get_few sheet plan allowance output scratch w d =
    let e = success_of w d in
    le_trans (get_steps sheet plan allowance output scratch _ _ e) (get_shows e).0.few_steps

module _ (sheet plan : List ℕ) (allowance : ℕ) (view out s : List ℕ) {view' s₁ : List ℕ} {r₁ : Reply}
    (w₁ : Answered (get_answer sheet plan allowance (length view) (length s)) r₁ view view' s s₁) where
  abbrev GetPut : Trip → List ℕ → List ℕ → Type 0
  GetPut r out' s₂ =
      Tripped (get_answer sheet plan allowance (length view) (length s)) (out_and_back sheet plan (length out) (length s)) r view view' out out' s s₂
      × PlanStays sheet plan allowance (length view) (length out) (length s) r out'

  abbrev Lends : ℕ → Type 0
  Lends n = (put_output ≤ length out) × (factor * n ≤ allowance_limit)

  pub get_stopped : {c : ℕ} → r₁ ≡ Refused c → GetPut (Stopped c) out s₁
  get_stopped e = first_refused (out_and_back sheet plan (length out) (length s)) plan (λ n. factor * n) Lends w₁ out e

  module _ (k : length s₁ ≡ length s) {len n : ℕ} (d : r₁ ≡ Done len n) where
    unmoved : Lends n → (p : ℕ) × (put_answer sheet plan (take len view') (factor * n) (length out) (length s) ≡ success plan p) × (p ≤ factor * n)
    unmoved (h, b) =
        let e = success_of w₁ d in
        let (p, q) = acceptability sheet plan allowance (length view) (length s) (take len view') n e
        (factor * n) (length out) (length s) (le_refl _) b h (get_shows e).0.scratch_long in
        (p, q, put_steps sheet plan (factor * n) (length out) (length s) plan p (take len view') q)

    pub put_shut : {c : ℕ} → c ≡ shut put_output (length out) (length s₁) (factor * n) → (c ≡ 0 → ⊥) → GetPut (Stopped c) out s₁
    put_shut e z = second_shut (out_and_back sheet plan (length out) (length s)) plan (λ n. factor * n) Lends w₁ d unmoved out
        (rw k at (refusal_of (call_shut (put_behind sheet plan (take len view') (factor * n) out s₁) e z) refl))

    pub put_judged : DoorOpens put_output (length out) (length s₁) (factor * n) → {out' s₂ : List ℕ} {r₂ : Reply} {r : Trip}
        → Answered (put_answer sheet plan (take len view') (factor * n) (length out) (length s₁)) r₂ out out' s₁ s₂
        → r ≡ verdict n r₂ (factor * n) out' plan → GetPut r out' s₂
    put_judged l w₂ v =
        second_judged (out_and_back sheet plan (length out) (length s)) plan (λ n. factor * n) Lends w₁ d unmoved (rw k at w₂) (l.output_long, l.few_steps) v

-- Each return of `put_and_undo`.
use Rattle.std.specs.Prelude.{◌≡◌, List, ℕ, length, take}
use Rattle.std.proofs.Common.{◌∙◌}
use Rattle.rules.specs.Answer.{get_answer, put_answer}
use Rattle.calls.specs.Reply.{Reply, Done, Refused}
use Rattle.together.specs.Trip.{Trip, Stopped}
use Rattle.calls.specs.Calls.{Answered}
use Rattle.together.specs.Undone.{ThreeCalls, TakesBack, first_into_new, replied}
use Rattle.together.proofs.Undone.{get_refused, put_refused, all_made, relies}

module _ (sheet plan edited : List ℕ) (reading allowance : ℕ) (list new out s : List ℕ) {list' s₁ : List ℕ} {r₁ : Reply}
    (w₁ : Answered (get_answer sheet plan reading (length list) (length s)) r₁ list list' s s₁) where
  abbrev Made : Trip → (new' out' s' : List ℕ) → Type 0
  Made r new' out' s' =
      ThreeCalls plan (get_answer sheet plan reading (length list) (length s)) (put_answer sheet plan edited allowance (length new) (length s))
      (first_into_new sheet allowance (length out) (length s)) r list list' new new' out out' s s'
      × TakesBack sheet plan (get_answer sheet plan reading (length list) (length s)) (put_answer sheet plan edited allowance (length new) (length s))
      (length out) r out'

  made : {r : Trip} {new' out' s' : List ℕ}
      → ThreeCalls plan (get_answer sheet plan reading (length list) (length s)) (put_answer sheet plan edited allowance (length new) (length s))
      (first_into_new sheet allowance (length out) (length s)) r list list' new new' out out' s s' → Made r new' out' s'
  made = relies sheet plan edited reading allowance (length list) (length new) (length out) (length s)

  -- the get is refused
  pub list_refused : {c : ℕ} → r₁ ≡ Refused c → Made (Stopped c) new out s₁
  list_refused e = made (get_refused plan (first_into_new sheet allowance (length out) (length s)) w₁ new out e)

  -- the edited list is refused
  module _ (k₁ : length s₁ ≡ length s) {len m : ℕ} (d₁ : r₁ ≡ Done len m) {r₂ : Reply} {new' s₂ : List ℕ}
      (w₂ : Answered (put_answer sheet plan edited allowance (length new) (length s₁)) r₂ new new' s₁ s₂) where
    pub edit_refused : {c : ℕ} → r₂ ≡ Refused c → Made (Stopped c) new' out s₂
    edit_refused e = made (put_refused plan (first_into_new sheet allowance (length out) (length s)) w₁ d₁ (rw k₁ at w₂) out e)

    -- all three were made
    module _ (k₂ : length s₂ ≡ length s₁) {end n : ℕ} (d₂ : r₂ ≡ Done end n) {r₃ : Reply} {out' s₃ : List ℕ}
        (w₃ : Answered (put_answer sheet (take end new') (take len list') allowance (length out) (length s₂)) r₃ out out' s₂ s₃) where
      pub last_judged : {r : Trip} → r ≡ replied n r₃ out' plan → Made r new' out' s₃
      last_judged e = made (all_made plan (first_into_new sheet allowance (length out) (length s)) w₁ d₁ (rw k₁ at w₂) d₂ (rw (k₂ ∙ k₁) at w₃) e)

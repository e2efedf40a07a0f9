-- A sheet that holds all that another one meets, from its root on, answers as the other does: whole walks, whole calls on bytes, and why a call
-- is refused, in its own numbers.
use Rattle.std.specs.Prelude.{◌≡◌, ◌∷◌, ℕ, zero, suc, replicate}
use Rattle.std.proofs.Math.Path.{refl, ap}
use Rattle.std.proofs.Math.Option.{none}
use Rattle.std.proofs.Math.Decide.{dec_le}
use Rattle.value.specs.Result.{Result, ok, refusal}
use Rattle.rules.specs.Numbers.{allowance_limit, scratch_size}
use Rattle.rules.specs.Outcome.{Out, reading}
use Rattle.rules.specs.Explain.{Exit, got, met}
use Rattle.rules.specs.Explain.Calls.{Explanation, success, before, walked, explained, afterwards, unless_before, why_door}
use Rattle.embedding.specs.EmbeddingLaws.{why_anew, cells_anew, told_anew}

pub reading_same : {A B : Type 0} (r : Result A) {r' : Result A} {j k : A → Out B} → r' ≡ r → ((a : A) → j a ≡ k a) → reading r' j ≡ reading r k
unfolding reading
reading_same (ok a) e h = rw e (h a)
reading_same (refusal c) e h = rw e

module _ (f : ℕ → ℕ) where
  unfoldable pub explanation_anew : Explanation → Explanation
  explanation_anew success = success
  explanation_anew (before c) = before c
  explanation_anew (walked y) = walked (why_anew f y)

  pub anew_told : {A B : Type 0} (h : A → B) (t : Exit A) → explained (told_anew f h t) ≡ explanation_anew (explained t)
  unfolding explained told_anew explanation_anew
  anew_told h (got a s) = refl
  anew_told h (met y s) = refl

  pub anew_after : {A : Type 0} (r : Result A) {r' : Result A} {j : A → Explanation} (k : A → Explanation) → r' ≡ r → ((a : A) → j a ≡ explanation_anew (k a))
      → afterwards r' j ≡ explanation_anew (afterwards r k)
  unfolding afterwards explanation_anew
  anew_after (ok a) k e h = rw e (h a)
  anew_after (refusal c) k e h = rw e

  anew_unless : {Q : Type 0} (c : ℕ) (d : Dec Q) {x : Explanation} (y : Explanation) → x ≡ explanation_anew y
      → unless_before c d x ≡ explanation_anew (unless_before c d y)
  unfolding unless_before explanation_anew
  anew_unless c (yes p) y e = e
  anew_unless c (no p) y e = refl

  pub anew_door : (allowance scratch : ℕ) {x : Explanation} (y : Explanation) → x ≡ explanation_anew y
      → why_door allowance scratch x ≡ explanation_anew (why_door allowance scratch y)
  unfolding why_door
  anew_door allowance scratch y e = anew_unless 2 (dec_le scratch_size scratch) _
      (anew_unless 3 (dec_le 1 allowance) _ (anew_unless 3 (dec_le allowance allowance_limit) y e))

  pub blank_anew : (n : ℕ) → cells_anew f (replicate n none) ≡ replicate n none
  blank_anew zero = refl
  blank_anew (suc n) = ap (λ z. none ∷ z) (blank_anew n)

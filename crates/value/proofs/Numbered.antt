-- Laws of answers: what a `?` passes on, and what a contract that says `numbered result ≡ map_result f x` tells.
use Rattle.std.specs.Prelude.{◌≡◌, ℕ, Result as Answer, Err}
use Rattle.std.proofs.Common.{refl, ap, ◌∙◌}
use Rattle.std.specs.Result.{IsErrAnd}
use Rattle.std.proofs.lemmas.Result.{err_from_is_err_and}
use Rattle.value.specs.Result.{Result, ok, refusal, map_result}

-- a `?` passes the error on as it is
pub passed_on : {T E : Type 0} {e : E} (r : Answer T E) → IsErrAnd r (λ y. y ≡ e) → r ≡ Err e
passed_on r h = let p = err_from_is_err_and r h in p.1 ∙ ap Err p.2

-- what was found, and the answer made of it
pub record Answered {A B : Type 0} (f : A → B) (x : Result A) (t : B) : Type 0 where
  pub value : A
  pub found : x ≡ ok value
  pub made : t ≡ f value

-- where the code answers a value, one was found; where it answers a refusal, that was met (`numbered` of either computes)
module _ {A B : Type 0} where
  pub numbered_ok : {f : A → B} {x : Result A} {t : B} → ok t ≡ map_result f x → Answered f x t
  unfolding map_result
  numbered_ok {f} {x = ok a} {t} e = record { value = a; found = refl; made = cc }
  numbered_ok {f} {x = refusal c} {t} e = absurd (cc)

  pub numbered_err : (f : A → B) {x : Result A} {c : ℕ} → refusal c ≡ map_result f x → x ≡ refusal c
  unfolding map_result
  numbered_err f {x = ok a} e = absurd (cc)
  numbered_err f {x = refusal c} e = cc

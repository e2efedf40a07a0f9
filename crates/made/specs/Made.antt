-- What a tool answers that writes bytes at the front of an output, and what the output then holds.
use Rattle.std.proofs.Math.Path.{◌≡◌, refl, ap}
use Rattle.std.proofs.Common.{sym, ◌∙◌, arith}
use Rattle.std.specs.Prelude.{List, ◌++◌, ℕ, ◌≤◌, take, drop, Result as Answer, Ok, Err}
use Rattle.std.proofs.Math.ListN.{length}
use Rattle.std.proofs.Math.Seq.{take-append_seam}
use Rattle.refusal.specs.declared.Refusal.{Refusal}
use Rattle.refusal.specs.Refusal.{number_of}
use Rattle.value.specs.Result.{Result, ok, refusal, map_result}
use Rattle.value.specs.Numbered.{numbered}
use Rattle.report.specs.Writing.{Wrote, wrote_front}

-- how many bytes were written, or a refusal
abbrev pub Made : Type 0
Made = Answer ℕ Refusal

-- the bytes stand at the front of the output, and those behind them do not change; a refusal writes none
unfoldable pub written : Result (List ℕ) → List ℕ → List ℕ
written (ok bs) o = bs ++ drop (length bs) o
written (refusal c) o = o

-- the call's answer is a: r says so, and the output o became o'
pub record Makes (a : Result (List ℕ)) (r : Made) (o o' : List ℕ) : Type 0 where
  pub answer : numbered r ≡ map_result length a
  pub output : o' ≡ written a o

-- the number of each case in the papers, 0 for a success; and what is told beside it
unfoldable pub code_of : Made → ℕ
code_of (Ok n) = 0
code_of (Err e) = number_of e

unfoldable pub length_of : Made → ℕ
length_of (Ok n) = n
length_of (Err e) = 0

-- WHAT SHOWS IT OF THE CODE

pub makes_no : {a : Result (List ℕ)} (e : Refusal) {o : List ℕ} → a ≡ refusal (number_of e) → Makes a (Err e) o o
unfolding map_result written
makes_no e h = rw h record { answer = refl; output = refl }

pub makes_ok : {a : Result (List ℕ)} (bs : List ℕ) {n : ℕ} {o o' : List ℕ} → a ≡ ok bs → n ≡ length bs → o' ≡ bs ++ drop n o → Makes a (Ok n) o o'
unfolding map_result written
makes_ok bs {o} e f g = rw e record { answer = ap ok f; output = g ∙ ap (λ (k : ℕ). bs ++ drop k o) f }

-- a text that was written at the front, and has room there
pub makes_text : {a : Result (List ℕ)} (bs : List ℕ) {n : ℕ} {o o' : List ℕ} → a ≡ ok bs → Wrote bs 0 o o' n → length bs ≤ length o → Makes a (Ok n) o o'
unfolding map_result written
makes_text bs {o} e w h = let f = wrote_front w h in rw e record { answer = ap ok f.long; output = f.made ∙ ap (λ (k : ℕ). bs ++ drop k o) f.long }

-- WHAT IT TELLS A CALLER

-- the bytes that were made, of a success
pub record Front (a : Result (List ℕ)) (n : ℕ) (o' : List ℕ) : Type 0 where
  pub bytes : List ℕ
  pub is : a ≡ ok bytes
  pub long : n ≡ length bytes
  pub front : take n o' ≡ bytes

module _ {a : Result (List ℕ)} {r : Made} {o o' : List ℕ} (m : Makes a r o o') where
  pub done_front : {n : ℕ} → r ≡ Ok n → Front a n o'
  unfolding map_result written
  done_front {n} e = go a refl (sym (ap numbered e) ∙ m.answer) m.output
    where
      go : (b : Result (List ℕ)) → a ≡ b → ok n ≡ map_result length b → o' ≡ written b o → Front a n o'
      go (ok bs) q f w =
          let l : n ≡ length bs = cc in
          record { bytes = bs; is = q; long = l; front = rw (l, w) (take-append_seam bs (drop (length bs) o)) }
      go (refusal c) q f w = let z : ◌≡◌ {A = ℕ} 0 1 = cc in absurd (omega arith)

  pub refused_is : {e : Refusal} → r ≡ Err e → a ≡ refusal (number_of e)
  unfolding map_result
  refused_is {e} h = go a refl (sym (ap numbered h) ∙ m.answer)
    where
      go : (b : Result (List ℕ)) → a ≡ b → refusal (number_of e) ≡ map_result length b → a ≡ refusal (number_of e)
      go (ok bs) q f = absurd (cc)
      go (refusal d) q f = cc

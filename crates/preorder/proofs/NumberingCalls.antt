-- A sheet's bytes written anew in the one numbering (request 12): what is written is read out and back as before, and written again it is the same.
use Rattle.std.specs.Prelude.{◌≡◌, refl, Bool, true, false, cond, List, ℕ, ◌≤◌, leb, ltb, length}
use Rattle.std.proofs.Common.{ap, sym, ◌∙◌, arith, ltb-false}
use Rattle.value.specs.Result.{Result, ok, refusal, and_then, map_result}
use Rattle.value.specs.Reading.{read_plan}
use Rattle.sheet.specs.Sheet.{Sheet, read_sheet}
use Rattle.sheet.specs.Laws.{Ranges, sheet_ranges}
use Rattle.sheet.specs.Rows.{sheet_written}
use Rattle.rules.specs.Answer.{get_answer, put_answer}
use Rattle.rules.specs.Bits.{put_written}
use Rattle.starts.specs.Starts.{starts_of, load_of}
use Rattle.rules.specs.Explain.Calls.{why_get, why_put}
use Rattle.embedding.specs.EmbeddingAnswers.{explanation_anew}
use Rattle.embedding.proofs.EmbeddingAnswers.{get_answer_same, put_answer_same, put_written_same, why_get_same, why_put_same}
use Rattle.sheet.proofs.Ranging.{read_back, written_short}
use Rattle.preorder.specs.Numbering.{new_number, numbered}
use Rattle.preorder.proofs.Numbering.{main_met, root-numbered, numbered_holds}
use Rattle.preorder.proofs.NumberingLaws.{uses_in, same_k, numbered_ranges, numbered_twice, numbered_once}
use Rattle.preorder.specs.Uses.{lowest_twice}
use Rattle.preorder.proofs.Uses.{all_once, once_all}
use Rattle.preorder.specs.NumberAnswer.{done, refused, twice, sheet_answer, number_answer, number_done}
use Rattle.preorder.specs.NumberingCalls.{Anew}

pub numbered_told : (s : List ℕ) (n : ℕ) {t : List ℕ} → number_answer s n ≡ done t → Anew s t
unfolding number_answer sheet_answer
numbered_told s n {t} e = pass (leb 2048 n) e
  where
    once : (sh : Sheet) → read_sheet s ≡ ok sh → (b : Bool) → ltb (lowest_twice sh) (length sh.nodes) ≡ b
        → cond b (twice (lowest_twice sh)) (done (sheet_written (numbered sh))) ≡ done t → Anew s t
    once sh q true o e = let z : ◌≡◌ {A = ℕ} 0 1 = cc in absurd (omega arith)
    once sh q false o e = record {
      sheet = sh;
      read = q;
      once = all_once sh (ltb-false (lowest_twice sh) (length sh.nodes) o) (λ n i. uses_in (sheet_ranges s q) i);
      written = cc;
    }

    go : (r : Result Sheet) → read_sheet s ≡ r → sheet_answer r ≡ done t → Anew s t
    go (ok sh) q e = once sh q (ltb (lowest_twice sh) (length sh.nodes)) refl e
    go (refusal c) q e = let z : ◌≡◌ {A = ℕ} 0 1 = cc in absurd (omega arith)

    pass : (b : Bool) → cond b (sheet_answer (read_sheet s)) (refused 1) ≡ done t → Anew s t
    pass true e = go (read_sheet s) refl e
    pass false e = let z : ◌≡◌ {A = ℕ} 0 1 = cc in absurd (omega arith)

module _ {s t : List ℕ} (h : Anew s t) where
  ranges : Ranges h.sheet
  ranges = sheet_ranges s h.read

  -- it is a sheet
  pub numbered_read : read_sheet t ≡ ok (numbered h.sheet)
  numbered_read = rw h.written (read_back (numbered_ranges ranges h.once))

  -- of at most 1,619 bytes
  pub numbered_short : length t ≤ 1619
  numbered_short = rw h.written (written_short (numbered_ranges ranges h.once))

  -- it reads out and back as before, steps and refusals included
  pub numbered_get : (plan : List ℕ) (allowance output scratch : ℕ) → get_answer t plan allowance output scratch ≡ get_answer s plan allowance output scratch
  numbered_get = get_answer_same (numbered_holds ranges) (main_met ranges) (root-numbered ranges) (same_k ranges h.once) s t h.read numbered_read

  pub numbered_put : (plan : List ℕ) (allowance : ℕ) (view : List ℕ) (output scratch : ℕ)
      → put_answer t plan view allowance output scratch ≡ put_answer s plan view allowance output scratch
  numbered_put = put_answer_same (numbered_holds ranges) (main_met ranges) (root-numbered ranges) (same_k ranges h.once) s t h.read numbered_read

  -- the same variables take a view, and loading a plan gives the same starts
  pub numbered_written : (plan view : List ℕ) (allowance : ℕ) → put_written t plan view allowance ≡ put_written s plan view allowance
  numbered_written plan view allowance =
      put_written_same (numbered_holds ranges) (main_met ranges) (root-numbered ranges) (same_k ranges h.once) s t
      h.read numbered_read plan allowance view

  pub numbered_load : (plan : List ℕ) → load_of t plan ≡ load_of s plan
  unfolding load_of and_then
  numbered_load plan = rw (h.read, numbered_read) (ap (λ k. map_result starts_of (read_plan k plan)) (same_k ranges h.once))

  -- and is refused where it was, in the new numbers
  pub numbered_why_get : (plan : List ℕ) (allowance scratch : ℕ)
      → why_get t plan allowance scratch ≡ explanation_anew (new_number h.sheet) (why_get s plan allowance scratch)
  numbered_why_get = why_get_same (numbered_holds ranges) (main_met ranges) (root-numbered ranges) (same_k ranges h.once) s t h.read numbered_read

  pub numbered_why_put : (plan : List ℕ) (allowance : ℕ) (view : List ℕ) (scratch : ℕ)
      → why_put t plan view allowance scratch ≡ explanation_anew (new_number h.sheet) (why_put s plan view allowance scratch)
  numbered_why_put = why_put_same (numbered_holds ranges) (main_met ranges) (root-numbered ranges) (same_k ranges h.once) s t h.read numbered_read

-- written once more, it changes no further
pub numbered_again : (s : List ℕ) (n : ℕ) {t : List ℕ} → 2048 ≤ n → number_answer s n ≡ done t → number_answer t n ≡ done t
numbered_again s n {t} room e =
    let h = numbered_told s n e in
    let r = ranges h in
    number_done t n room (numbered_read h) (omega (arith, once_all (numbered h.sheet) (numbered_once r h.once)))
    ∙ ap done (ap sheet_written (numbered_twice r h.once) ∙ sym h.written)

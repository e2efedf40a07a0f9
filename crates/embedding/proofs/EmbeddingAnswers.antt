-- A sheet that holds all that another one meets, from its root on, answers as the other does: whole walks, whole calls on bytes, and why a call
-- is refused, in its own numbers.
use Rattle.std.specs.Prelude.{◌≡◌, List, ℕ, length, get_or, replicate}
use Rattle.std.proofs.Math.Path.{refl, ap}
use Rattle.std.proofs.Common.{◌∙◌}
use Rattle.std.proofs.Math.Option.{none}
use Rattle.value.specs.Result.{ok}
use Rattle.value.specs.Value.{Value, vfalse, encode, flat}
use Rattle.value.specs.Reading.{read_plan, read_view}
use Rattle.sheet.specs.Sheet.{Sheet, read_sheet}
use Rattle.rules.specs.Numbers.{level_limit, get_output, put_output}
use Rattle.rules.specs.Outcome.{map_out, reading}
use Rattle.rules.specs.Allowance.{within}
use Rattle.rules.specs.Counting.{Env, get, put}
use Rattle.rules.specs.Answer.{answer, door, count, new_plan, get_walk, get_bytes, get_answer, put_walk, put_bytes, put_answer}
use Rattle.rules.specs.Bits.{took_in, put_written}
use Rattle.rules.specs.Explain as Explain
use Rattle.rules.specs.Explain.{Exit, got, met}
use Rattle.rules.specs.Explain.Calls.{explained, afterwards, explain_get, explain_put, why_get, why_put}
use Rattle.rules.specs.Laws.Embedding.{Holds, itself}
use Rattle.embedding.specs.EmbeddingLaws.{get_embedded, put_embedded, cells_anew, told_anew}
use Rattle.embedding.proofs.EmbeddingLaws.{get_explained, put_explained}
use Rattle.embedding.specs.EmbeddingAnswers.{reading_same, explanation_anew, anew_told, anew_after, anew_door, blank_anew}

module _ {P : ℕ → Type 0} {f g : ℕ → ℕ} {sh sh' : Sheet} (held : Holds P f g sh sh') (main : P sh.root) (root : sh'.root ≡ f sh.root) where
  -- WALKS
  pub get_walk_same : (allowance : ℕ) (μ : Env) → get_walk allowance sh' μ ≡ get_walk allowance sh μ
  unfolding get_walk
  get_walk_same allowance μ = ap (within allowance) (ap (λ n. get level_limit sh' n μ) root ∙ get_embedded held level_limit sh.root μ main)

  pub put_walk_same : (allowance : ℕ) (μ : Env) (v : Value) → put_walk allowance sh' μ v ≡ put_walk allowance sh μ v
  unfolding put_walk
  put_walk_same allowance μ v =
      ap (within allowance) (ap (λ n. put level_limit sh' n μ (count 0 (length μ)) v (replicate (length μ) none)) root
      ∙ put_embedded held level_limit sh.root μ (count 0 (length μ)) v (replicate (length μ) none) main)

  why_get_told : (allowance : ℕ) (μ : Env) → Explain.get level_limit sh' sh'.root μ allowance ≡ told_anew f itself (Explain.get level_limit sh sh.root μ
      allowance)
  why_get_told allowance μ = ap (λ n. Explain.get level_limit sh' n μ allowance) root ∙ get_explained held level_limit sh.root μ main allowance

  why_put_told : (allowance : ℕ) (μ : Env) (v : Value)
      → Explain.put level_limit sh' sh'.root μ (count 0 (length μ)) v (replicate (length μ) none) allowance
      ≡ told_anew f (cells_anew f) (Explain.put level_limit sh sh.root μ (count 0 (length μ)) v (replicate (length μ) none) allowance)
  why_put_told allowance μ v =
      ap (λ n. Explain.put level_limit sh' n μ (count 0 (length μ)) v (replicate (length μ) none) allowance) root
      ∙ (rw (blank_anew f (length μ)) at (put_explained held level_limit sh.root μ (count 0 (length μ)) v (replicate (length μ) none) main allowance))

  -- CALLS, of the bytes of both
  module _ (k : sh'.k ≡ sh.k) (s s' : List ℕ) (e : read_sheet s ≡ ok sh) (e' : read_sheet s' ≡ ok sh') (plan : List ℕ) (allowance : ℕ) where
    same_plan : read_plan sh'.k plan ≡ read_plan sh.k plan
    same_plan = ap (λ n. read_plan n plan) k

    pub get_answer_same : (output scratch : ℕ) → get_answer s' plan allowance output scratch ≡ get_answer s plan allowance output scratch
    unfolding get_answer get_bytes reading
    get_answer_same output scratch = ap (λ o. answer (door get_output output scratch allowance o))
        (rw (e, e') (reading_same (read_plan sh.k plan) same_plan λ μ. ap (map_out encode) (get_walk_same allowance μ)))

    pub put_answer_same : (view : List ℕ) (output scratch : ℕ)
        → put_answer s' plan view allowance output scratch ≡ put_answer s plan view allowance output scratch
    unfolding put_answer put_bytes reading
    put_answer_same view output scratch = ap (λ o. answer (door put_output output scratch allowance o))
        (rw (e, e') (reading_same (read_plan sh.k plan) same_plan λ μ. reading_same (read_view view) refl λ vs.
        ap (map_out (λ X. flat (new_plan X μ))) (put_walk_same allowance μ (get_or vs 0 vfalse))))

    -- the same variables take a view
    pub put_written_same : (view : List ℕ) → put_written s' plan view allowance ≡ put_written s plan view allowance
    unfolding put_written reading
    put_written_same view = ap took_in (rw (e, e') (reading_same (read_plan sh.k plan) same_plan λ μ. reading_same (read_view view) refl λ vs.
        put_walk_same allowance μ (get_or vs 0 vfalse)))

    pub why_get_same : (scratch : ℕ) → why_get s' plan allowance scratch ≡ explanation_anew f (why_get s plan allowance scratch)
    unfolding why_get explain_get afterwards
    why_get_same scratch = anew_door f allowance scratch _
        (rw (e, e') (anew_after f (read_plan sh.k plan) _ same_plan λ μ. ap explained (why_get_told allowance μ) ∙ anew_told f itself _))

    pub why_put_same : (view : List ℕ) (scratch : ℕ) → why_put s' plan view allowance scratch ≡ explanation_anew f (why_put s plan view allowance scratch)
    unfolding why_put explain_put afterwards
    why_put_same view scratch = anew_door f allowance scratch _
        (rw (e, e') (anew_after f (read_plan sh.k plan) _ same_plan λ μ. anew_after f (read_view view) _ refl λ vs.
        ap explained (why_put_told allowance μ (get_or vs 0 vfalse)) ∙ anew_told f (cells_anew f) _))

-- The answers of whole calls on bytes: the door, the sheet, the plan, the view, the walk, each refusal in its row's order
-- (document 01, "Where each refusal is met"; docs/SHEETS.md, "All refusals on one page").
use Rattle.std.proofs.Math.Option.{none}
use Rattle.std.specs.Prelude.{List, [], ◌∷◌, ℕ, zero, suc, length, get_or, replicate}
use Rattle.std.proofs.Math.Decide.{dec_le}
use Rattle.value.specs.Value.{Value, vfalse, encode, flat}
use Rattle.value.specs.Reading.{read_plan, read_view}
use Rattle.sheet.specs.Sheet.{Sheet, read_sheet}
use Rattle.rules.specs.Numbers.{level_limit, allowance_limit, scratch_size, get_output, put_output}
use Rattle.rules.specs.Outcome.{Out, done, refused, when, map_out, given, reading}
use Rattle.rules.specs.Allowance.{within}
use Rattle.rules.specs.Counting.{Env, Cells, get, or_old, put}

-- a refusal's number in document 01's table, or the bytes at the front of the output and the steps
pub data Answer : Type 0 where
  refusal : ℕ → Answer
  success : List ℕ → ℕ → Answer

unfoldable pub answer : Out (List ℕ) → Answer
answer (done bs s) = success bs s
answer (refused c s) = refusal c

-- 1 output under `need` bytes; 2 scratch under 65,536; 3 allowance 0 or over 1,000,000
unfoldable pub door : (need output scratch allowance : ℕ) → Out (List ℕ) → Out (List ℕ)
door need output scratch allowance o =
    given 1 (when (dec_le need output)) λ _. given 2 (when (dec_le scratch_size scratch)) λ _.
    given 3 (when (dec_le 1 allowance)) λ _. given 3 (when (dec_le allowance allowance_limit)) λ _. o

-- GET: the root, in the scope of the plan

unfoldable pub get_walk : ℕ → Sheet → Env → Out Value
get_walk allowance sh μ = within allowance (get level_limit sh sh.root μ)

unfoldable pub get_bytes : (sheet plan : List ℕ) (allowance : ℕ) → Out (List ℕ)
get_bytes sheet plan allowance =
    reading (read_sheet sheet) λ sh. reading (read_plan sh.k plan) λ μ. map_out encode (get_walk allowance sh μ)

unfoldable pub get_answer : (sheet plan : List ℕ) (allowance output scratch : ℕ) → Answer
get_answer sheet plan allowance output scratch = answer (door get_output output scratch allowance (get_bytes sheet plan allowance))

-- PUT: variable i is cell i, and nothing is written yet; at the end each plan variable not written keeps its old value

unfoldable pub count : ℕ → ℕ → List ℕ
count from zero = []
count from (suc n) = from ∷ count (suc from) n

unfoldable pub new_plan : Cells → Env → Env
new_plan [] [] = []
new_plan [] (v ∷ μ) = v ∷ μ
new_plan (o ∷ X) [] = []
new_plan (o ∷ X) (v ∷ μ) = or_old o v ∷ new_plan X μ

unfoldable pub put_walk : ℕ → Sheet → Env → Value → Out Cells
put_walk allowance sh μ v = within allowance (put level_limit sh sh.root μ (count 0 (length μ)) v (replicate (length μ) none))

unfoldable pub put_bytes : (sheet plan view : List ℕ) (allowance : ℕ) → Out (List ℕ)
put_bytes sheet plan view allowance =
    reading (read_sheet sheet) λ sh. reading (read_plan sh.k plan) λ μ. reading (read_view view) λ vs.
    map_out (λ X. flat (new_plan X μ)) (put_walk allowance sh μ (get_or vs 0 vfalse))

unfoldable pub put_answer : (sheet plan view : List ℕ) (allowance output scratch : ℕ) → Answer
put_answer sheet plan view allowance output scratch = answer (door put_output output scratch allowance (put_bytes sheet plan view allowance))

-- Whether a new plan stands (document 02, request 10).
use Rattle.std.specs.Prelude.{Bool, true, ◌&&◌, ◌||◌, List, ℕ, zero, suc, leb, get_or}
use Rattle.value.specs.Result.{Result, ok, refusal, and_then, unless}
use Rattle.value.specs.Value.{vfalse, encode}
use Rattle.shapes.specs.Parts.{same_bytes}
use Rattle.value.specs.Reading.{read_plan, read_view}
use Rattle.sheet.specs.Sheet.{Sheet, read_sheet}
use Rattle.rules.specs.Numbers.{allowance_limit, scratch_size}
use Rattle.rules.specs.Outcome.{Out, done, refused}
use Rattle.rules.specs.Counting.{Env}
use Rattle.rules.specs.Answer.{get_walk}
use Rattle.undo.specs.Alike.{names}

-- variable x has the same bytes in both plans, or its number stands as a variable in a record of the sheet (10, 1A or 1C)
unfoldable pub spared : Sheet → (μ ν : Env) → ℕ → Bool
spared sh μ ν x = same_bytes (encode (get_or μ x vfalse)) (encode (get_or ν x vfalse)) || names x sh.nodes

-- so each of n variables from x on
unfoldable pub spared_from : Sheet → (μ ν : Env) → (x n : ℕ) → Bool
spared_from sh μ ν x zero = true
spared_from sh μ ν x (suc n) = spared sh μ ν x && spared_from sh μ ν (suc x) n

unfoldable pub kept : Sheet → (μ ν : Env) → Bool
kept sh μ ν = spared_from sh μ ν 0 sh.k

module _ {A : Type 0} where
  -- what was read; whatever refuses it, the number is c
  unfoldable pub or_code : ℕ → Result A → Result A
  or_code c (ok a) = ok a
  or_code c (refusal d) = refusal c

  -- what a walk gives, its steps left aside
  unfoldable pub result : Out A → Result A
  result (done a n) = ok a
  result (refused c n) = refusal c

-- the sheet, the old plan, the list, 85 the new plan, what it reads out to; then both comparisons
unfoldable pub judged_of : (sheet old view new : List ℕ) (allowance : ℕ) → Result Bool
judged_of sheet old view new allowance =
    and_then (read_sheet sheet) λ sh. and_then (read_plan sh.k old) λ μ. and_then (read_view view) λ _. and_then (or_code 85 (read_plan sh.k new)) λ ν.
    and_then (result (get_walk allowance sh ν)) λ v. ok (same_bytes (encode v) view && kept sh μ ν)

-- before them 2 scratch under 65,536 bytes, 3 an allowance of 0 or over 1,000,000
unfoldable pub accepts_of : (sheet old view new : List ℕ) (allowance scratch : ℕ) → Result Bool
accepts_of sheet old view new allowance scratch =
    unless 2 (leb scratch_size scratch) (unless 3 (leb 1 allowance) (unless 3 (leb allowance allowance_limit) (judged_of sheet old view new allowance)))

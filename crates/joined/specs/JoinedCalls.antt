-- Two sheets' bytes joined (request 7), and what the joined sheet answers.
use Rattle.std.specs.Prelude.{◌≡◌, List, ℕ, suc, ◌+◌, ◌≤◌, leb, eqb, length}
use Rattle.value.specs.Result.{Result, ok, and_then, unless}
use Rattle.sheet.specs.Sheet.{Sheet, read_sheet}
use Rattle.sheet.specs.Rows.{sheet_written}
use Rattle.joined.specs.Joined.{joined}

-- 83 k differs; 84 over 200 nodes or 8 sections; after both sheets' own refusals, the first sheet's first
unfoldable pub joined_bytes : (s t : List ℕ) → Result (List ℕ)
joined_bytes s t = and_then (read_sheet s) λ a. and_then (read_sheet t) λ b. unless 83 (eqb a.k b.k)
    (unless 84 (leb (suc (length a.nodes + length b.nodes)) 200) (unless 84 (leb (length a.sections + length b.sections) 8)
    (ok (sheet_written (joined a b)))))

pub record Joins (s t u : List ℕ) : Type 0 where
  pub first : Sheet
  pub second : Sheet
  pub read_first : read_sheet s ≡ ok first
  pub read_second : read_sheet t ≡ ok second
  pub variables : first.k ≡ second.k
  pub few_nodes : suc (length first.nodes + length second.nodes) ≤ 200
  pub few_sections : length first.sections + length second.sections ≤ 8
  pub written : u ≡ sheet_written (joined first second)

-- What the tool of request 14 tells, and its counts.
use Rattle.std.specs.Prelude.{◌≡◌, Bool, true, List, ℕ, ◌+◌, ◌≤◌, min, get_or, drop}
use Rattle.std.proofs.Math.ListN.{length}
use Rattle.value.specs.Result.{Result, ok, refusal}
use Rattle.node.specs.declared.Node.{Node}
use Rattle.sheet.specs.declared.Table.{Table}
use Rattle.node.specs.Kinds.{children}
use Rattle.sheet.specs.Sheet.{Sheet, read_sheet}
use Rattle.sheet.specs.Laws.{Reads}
use Rattle.growth.specs.Growth.{plain, all_plain, own, total, entered, capped}

-- the number of each case in document 02, 0 for a success; and what is told beside it
unfoldable pub code_of : Result ℕ → ℕ
code_of (ok r) = 0
code_of (refusal c) = c

unfoldable pub times_of : Result ℕ → ℕ
times_of (ok r) = r
times_of (refusal c) = 0

-- a sheet that was read, with its table
pub record Readied (s : List ℕ) (t : Table) : Type 0 where
  pub sh : Sheet
  pub reads : Reads s t sh

-- whether every node is of the kinds
abbrev pub AllJudged : List ℕ → Bool → Type 0
AllJudged s r = (sh : Sheet) → read_sheet s ≡ ok sh → r ≡ all_plain sh.nodes

-- the count of a node of the kinds, of the counts behind it
abbrev pub OneCounted : Node → ℕ → List ℕ → ℕ → Type 0
OneCounted n x counts r = plain n ≡ true → r ≡ min 257 (own x n + total (λ c. get_or counts c 0) (children n))

-- the count of the root
abbrev pub Counted : List ℕ → ℕ → ℕ → Type 0
Counted s x r = (sh : Sheet) → read_sheet s ≡ ok sh → all_plain sh.nodes ≡ true → r ≡ capped sh x

-- WHETHER ALL ARE OF THE KINDS: the first i are
pub record Plains (s : List ℕ) (t : Table) (i : ℕ) : Type 0 where
  pub few : i ≤ t.nodes
  pub rest : (sh : Sheet) → Reads s t sh → all_plain sh.nodes ≡ all_plain (drop i sh.nodes)

pub record Counts (s : List ℕ) (t : Table) (x : ℕ) (counts : List ℕ) (i : ℕ) : Type 0 where
  pub few : i ≤ t.nodes
  pub long : length counts ≡ 200
  pub at : (sh : Sheet) → Reads s t sh → all_plain sh.nodes ≡ true → (j : ℕ) → i ≤ j → get_or counts j 0 ≡ min 257 (entered sh x j)

-- How often a walk enters a variable's records (document 02, request 14).
use Rattle.std.specs.Prelude.{Bool, true, cond, ◌&&◌, ◌||◌, List, [], ◌∷◌, ℕ, zero, suc, ◌+◌, ◌-◌, min, leb, ltb, eqb, length, get_or}
use Rattle.value.specs.Result.{Result, ok, and_then, unless}
use Rattle.node.specs.declared.Node.{Node}
use Rattle.node.specs.declared.Node.TheVariants.{False}
use Rattle.node.specs.Kinds.{row, children, variables}
use Rattle.sheet.specs.Sheet.{Sheet, read_sheet}

-- 10 to 16, 1B and 1D
abbrev pub plain : Node → Bool
plain n = leb (row n).kind 0x16 || eqb (row n).kind 0x1B || eqb (row n).kind 0x1D

unfoldable pub all_plain : List Node → Bool
all_plain [] = true
all_plain (n ∷ ns) = plain n && all_plain ns

-- 1 for a 10 record for x, and 0 for any other
unfoldable pub own : ℕ → Node → ℕ
own x n = cond (eqb (row n).kind 0x10 && eqb (get_or (variables n) 0 0) x) 1 0

abbrev pub total : (ℕ → ℕ) → List ℕ → ℕ
total f [] = 0
total f (c ∷ cs) = f c + total f cs

-- how often a walk of l levels from node n enters a 10 record for x: each node of these kinds enters all its children, once
unfoldable pub walked : ℕ → Sheet → (x n : ℕ) → ℕ
walked zero sh x n = 0
walked (suc l) sh x n = own x (get_or sh.nodes n False) + total (walked l sh x) (children (get_or sh.nodes n False))

-- how often a walk from node n does, every refusal left aside. A child's number is above its node's, so that no walk has more levels than
-- there are nodes (`entered_at` of Counts.antt: what each node adds up)
unfoldable pub entered : Sheet → (x n : ℕ) → ℕ
entered sh x n = walked (length sh.nodes) sh x n

-- FOR A TOOL: the counts of the nodes from `from` on, each made of those behind it, and capped at 257
unfoldable pub capped_from : (x from : ℕ) → List Node → List ℕ
capped_from x from [] = []
capped_from x from (n ∷ ns) =
    min 257 (own x n + total (λ c. get_or (capped_from x (suc from) ns) (c - suc from) 0) (children n)) ∷ capped_from x (suc from) ns

unfoldable pub capped : Sheet → ℕ → ℕ
capped sh x = get_or (capped_from x 0 sh.nodes) sh.root 0

-- what it reports: 87 another kind of node, 23 no such variable, 88 over 256
unfoldable pub growth_of : (sheet : List ℕ) (x : ℕ) → Result ℕ
growth_of sheet x = and_then (read_sheet sheet) λ sh.
    unless 87 (all_plain sh.nodes) (unless 23 (ltb x sh.k) (unless 88 (leb (capped sh x) 256) (ok (capped sh x))))

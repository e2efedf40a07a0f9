-- What the sheet reader answers: a table of where each node's record starts, and a section's root.
use Rattle.std.specs.Prelude.{◌≡◌, Bool, List, [], ◌∷◌, ◌++◌, ℕ, ◌+◌, ◌*◌, ◌-◌, ◌<◌, length, get_or, drop, replicate}
use Rattle.value.specs.Result.{Result, ok, and_then, map_result}
use Rattle.sheet.specs.Sheet.{Sheet, read_nodes, with_nodes, roots_in_range, nodes_in_range, in_range, read_header}
use Rattle.node.specs.Kinds.{width}
use Rattle.node.specs.Decoding.{node_at}
use Rattle.node.specs.declared.Node.{Node}
use Rattle.node.specs.declared.Node.TheVariants.{False}
use Rattle.sheet.specs.declared.Table.{Table}

-- where each node's record starts, the first at `at`
unfoldable pub offsets : ℕ → List Node → List ℕ
offsets at [] = []
offsets at (n ∷ ns) = at ∷ offsets (at + width n) ns

-- where the first of a sheet's node records starts
abbrev pub first_node : ℕ → ℕ
first_node sections = 3 + 2 * sections

-- a list of at most 200 numbers in an array of 200: zeros stand behind it
abbrev pub padded : List ℕ → List ℕ
padded l = l ++ replicate (200 - length l) 0

unfoldable pub table_of : Sheet → Table
table_of sh =
    record {
      k = sh.k;
      root = sh.root;
      sections = length sh.sections;
      nodes = length sh.nodes;
      starts = padded (offsets (first_node (length sh.sections)) sh.nodes);
    }

-- the root of section i, whose record starts at byte 3 + 2 * i; 0 past the end
unfoldable pub section_at : List ℕ → ℕ → ℕ
section_at s i = get_or s (4 + 2 * i) 0

-- the table of a sheet with so many sections, whatever their roots are, and the nodes that follow them
abbrev pub NodesTable : List ℕ → ℕ → ℕ → ℕ → Result Table → Type 0
NodesTable s k root sections r =
    (secs : List ℕ) → length secs ≡ sections
    → r ≡ map_result table_of (and_then (map_result (λ ns. (secs, ns)) (read_nodes 200 (drop (first_node sections) s))) (with_nodes k root))

-- the numbers of a sheet are judged as the definition judges those of the records that stand there
abbrev pub RootsJudged : List ℕ → ℕ → ℕ → Bool → Type 0
RootsJudged s sections nodes r =
    (rs : List ℕ) → length rs ≡ sections → ((i : ℕ) → i < length rs → section_at s i ≡ get_or rs i 0) → r ≡ roots_in_range nodes rs

abbrev pub NodesJudged : List ℕ → Table → Bool → Type 0
NodesJudged s t r =
    (ns : List Node) → length ns ≡ t.nodes → ((i : ℕ) → i < length ns → node_at s (get_or t.starts i 0) ≡ get_or ns i False)
    → r ≡ nodes_in_range t.nodes t.sections 0 ns

abbrev pub SheetJudged : List ℕ → Bool → Type 0
SheetJudged s r = (sh : Sheet) → read_header s ≡ ok sh → r ≡ in_range sh

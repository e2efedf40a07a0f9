-- Lists of records: a property of each number of a list, numbers that fit their fields, and the bytes of a sheet that is written.
use Rattle.std.specs.Prelude.{ℕ, ◌<◌, List, [], ◌∷◌, ◌++◌}
use Rattle.node.specs.Kinds.{Role, a_node, a_section, a_variable, a_test, a_number, a_wide, Field, written}
use Rattle.sheet.specs.Sheet.{Sheet}
use Rattle.node.specs.declared.Node.{Node}

-- P at every number of a list
abbrev pub Every : (ℕ → Type 0) → List ℕ → Type 0
Every P [] = Unit
Every P (x ∷ xs) = P x × Every P xs

-- what a number stays below where it fits its field
abbrev pub limit : Role → ℕ
limit a_node = 256
limit a_section = 256
limit a_variable = 256
limit a_test = 256
limit a_number = 65536
limit a_wide = 4294967296

abbrev pub Small : List Field → Type 0
Small [] = Unit
Small (f ∷ fs) = (f.value < limit f.role) × Small fs

-- the records of the nodes, one behind the other
abbrev pub all_written : List Node → List ℕ
all_written [] = []
all_written (n ∷ ns) = written n ++ all_written ns

-- the records of sections with these roots, and what stands behind them
abbrev pub roots_written : List ℕ → List ℕ → List ℕ
roots_written [] l = l
roots_written (r ∷ rs) l = 0x20 ∷ r ∷ roots_written rs l

-- the bytes of a sheet
unfoldable pub sheet_written : Sheet → List ℕ
sheet_written sh = 0x01 ∷ sh.k ∷ sh.root ∷ roots_written sh.sections (all_written sh.nodes)

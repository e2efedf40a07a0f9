-- Request 14 of document 02, of the answers of whole calls on bytes.
use Rattle.std.specs.Prelude.{ℕ, T, get_or}
use Rattle.node.specs.declared.Node.TheVariants.{False}
use Rattle.sheet.specs.Sheet.{Sheet}
use Rattle.growth.specs.Growth.{plain}

-- no record of the file is of another kind
abbrev pub Plain : Sheet → Type 0
Plain sh = (n : ℕ) → T (plain (get_or sh.nodes n False))

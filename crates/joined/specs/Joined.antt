-- Two sheets joined (document 02, request 7): node 0 is a pair of the two roots, the first sheet's nodes follow, then the second's. It gets
-- and puts as the first part and then the second do, each with one level less.
use Rattle.std.specs.Prelude.{◌∷◌, ◌++◌, map, length}
use Prim.Native.Nat.{ℕ, suc, ◌+◌}
use Rattle.node.specs.declared.Node.TheVariants.{Pair}
use Rattle.sheet.specs.Renumbering.{renumber}
use Rattle.sheet.specs.Sheet.{Sheet}
use Rattle.rules.specs.Laws.Embedding.{itself}

-- THE JOINED SHEET of two sheets with as many variables

-- node n and section i of the second sheet
module _ (a : Sheet) where
  abbrev pub node_behind : ℕ → ℕ
  node_behind n = suc (length a.nodes + n)

  abbrev pub section_behind : ℕ → ℕ
  section_behind i = length a.sections + i

unfoldable pub joined : Sheet → Sheet → Sheet
joined a b = record {
  k = a.k;
  root = 0;
  sections = map suc a.sections ++ map (node_behind a) b.sections;
  nodes = Pair (suc a.root) (node_behind a b.root)
      ∷ map (renumber suc itself) a.nodes ++ map (renumber (node_behind a) (section_behind a)) b.nodes;
}

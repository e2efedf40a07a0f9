-- The reason of request 12: two sheets of which one is the other under another numbering are written as the same bytes; and a sheet that is
-- so numbered already is given back as it is.
use Rattle.std.specs.Prelude.{◌≡◌, map, ℕ}
use Rattle.sheet.specs.Sheet.{Sheet}
use Rattle.rules.specs.Explain.Chain.{◌∈◌}
use Rattle.rules.specs.Laws.Embedding.{Holds, itself}
use Rattle.preorder.specs.Numbering.{order}

-- sh' is sh under another numbering: node n is node f n, the sections are the same in their order, and no two nodes that are met are one
pub record Redrawn (f : ℕ → ℕ) (sh sh' : Sheet) : Type 0 where
  pub held : Holds (λ n. n ∈ order sh) f itself sh sh'
  pub k : sh'.k ≡ sh.k
  pub root : sh'.root ≡ f sh.root
  pub sections : sh'.sections ≡ map f sh.sections
  pub apart : (a b : ℕ) → a ∈ order sh → b ∈ order sh → f a ≡ f b → a ≡ b

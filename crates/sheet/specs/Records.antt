-- What a record says: the node that the body behind a kind byte makes, read off the row of its kind.
use Rattle.std.proofs.Math.Option.{Option, none, some}
use Rattle.std.specs.Prelude.{List, get_or}
use Prim.Native.Nat.{ℕ, suc, ◌+◌}
use Rattle.node.specs.Kinds.{Form, made, roles_of, values_of, form_at}
use Rattle.node.specs.declared.Node.{Node}
use Rattle.node.specs.declared.Node.TheVariants.{False}

-- the node of the form that the bytes b make; False where there is no form
abbrev pub of_bytes : Option Form → (ℕ → ℕ) → Node
of_bytes none b = False
of_bytes (some f) b = made f (values_of (roles_of f) b)

-- the node of kind k whose record starts at byte n of the sheet s: at a known kind it computes to the node
abbrev pub record_at : (k : ℕ) (s : List ℕ) (n : ℕ) → Node
record_at k s n = of_bytes (form_at k) (λ i. get_or s (n + suc i) 0)

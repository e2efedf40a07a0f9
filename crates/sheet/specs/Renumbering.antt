-- A node numbered anew: what each field of its body becomes, by its role.
use Rattle.std.proofs.Math.Option.{Option, none, some}
use Rattle.std.specs.Prelude.{List, map, ℕ}
use Rattle.node.specs.declared.Node.{Node}
use Rattle.node.specs.declared.Node.TheVariants.{False}
use Rattle.node.specs.Kinds.{Role, a_node, a_section, a_variable, a_test, a_number, a_wide, Field, ◌of◌, row, Form, form_of, made, values}

-- a node with its nodes and sections numbered anew, and all else as it was
module _ (φ ψ : ℕ → ℕ) where
  abbrev pub anew : Role → ℕ → ℕ
  anew a_node v = φ v
  anew a_section v = ψ v
  anew a_variable v = v
  anew a_test v = v
  anew a_number v = v
  anew a_wide v = v

  abbrev pub field_anew : Field → Field
  field_anew f = f.role of anew f.role f.value

unfoldable pub of_kind : Option Form → List ℕ → Node
of_kind none vs = False
of_kind (some f) vs = made f vs

unfoldable pub renumber : (φ ψ : ℕ → ℕ) → Node → Node
renumber φ ψ n = of_kind (form_of (row n).kind) (values (map (field_anew φ ψ) (row n).body))

-- Laws of what a record says: its row, and the record that stands at a byte.
use Rattle.std.specs.Prelude.{◌≡◌, List}
use Rattle.std.proofs.Common.{sym, ◌∙◌}
use Rattle.std.proofs.Math.Path.{ap}
use Rattle.std.proofs.Math.Option.{Option, some}
use Prim.Native.Nat.{ℕ, suc, ◌+◌}
use Rattle.std.proofs.Math.ListN.{get_or}
use Rattle.node.specs.Kinds.{Form, ◌is◌, row, roles_of, values_of, form_of, make}
use Rattle.node.specs.Forms.{fields_of, form_told, row_made, length_values}
use Rattle.sheet.specs.Reading.{Made}
use Rattle.sheet.specs.Records.{of_bytes, record_at}
use Rattle.node.specs.declared.Node.{Node}

-- its row: the fields of the form, with the bytes' values
pub record_row : (k : ℕ) (s : List ℕ) (n : ℕ) {f : Form} → form_of k ≡ some f
    → row (record_at k s n) ≡ (k is fields_of (roles_of f) (values_of (roles_of f) (λ i. get_or s (n + suc i) 0)))
unfolding form_of
record_row k s n {f} e =
    let g : ℕ → ℕ = λ i. get_or s (n + suc i) 0 in
    let t = form_told k e in
    ap (λ (o : Option Form). row (of_bytes o g)) e ∙ row_made t (values_of (roles_of f) g) (length_values (roles_of f) g ∙ t.many)

-- A RECORD THAT STANDS THERE, of which k is the kind byte
module _ {s : List ℕ} {p : ℕ} {nd : Node} (m : Made s p nd) {k : ℕ} (byte : k ≡ get_or s (p + 0) 0) where
  its_form : form_of k ≡ some m.form
  its_form = ap form_of byte ∙ m.known

  pub record_told : nd ≡ record_at k s p
  unfolding form_of make
  record_told = m.node ∙ ap (λ (o : Option Form). of_bytes o (λ i. get_or s (p + suc i) 0)) (sym its_form)

-- WHAT EACH BYTE OF A RECORD IS, read off the row of its kind; and so the nodes that a record names, and its bytes under other numbers.
use Rattle.std.specs.Prelude.{cond, List, [], ◌∷◌, ◌++◌, ℕ, zero, suc, ◌+◌, ◌-◌, eqb, ltb, length, get_or, set, replicate}
use Rattle.std.proofs.Math.Option.{Option, none, some}
use Rattle.node.specs.Kinds.{Role, a_node, a_section, a_variable, a_test, a_number, a_wide, Form, roles_of, form_of, keep}
use Rattle.node.specs.Decoding.{kind_width}
use Rattle.node.specs.Forms.{listing}
use Rattle.sheet.specs.declared.Children.{Children}

-- 1 a node's number, 2 a section's, 0 anything else
abbrev pub parts_of : Role → List ℕ
parts_of a_node = 1 ∷ []
parts_of a_section = 2 ∷ []
parts_of a_variable = 0 ∷ []
parts_of a_test = 0 ∷ []
parts_of a_number = 0 ∷ 0 ∷ []
parts_of a_wide = 0 ∷ 0 ∷ 0 ∷ 0 ∷ []

abbrev pub body_parts : List Role → List ℕ
body_parts [] = []
body_parts (r ∷ rs) = parts_of r ++ body_parts rs

-- of a whole record, the kind byte with them
unfoldable pub form_parts : Option Form → List ℕ
form_parts none = []
form_parts (some f) = 0 ∷ body_parts (roles_of f)

-- byte i of a record of kind k
unfoldable pub part_at : (k i : ℕ) → ℕ
part_at k i = get_or (form_parts (form_of k)) i 0

-- THE NODES NAMED, in body order

-- among the first n of the bytes g, whose parts are c
abbrev pub nodes_in : ℕ → (c g : ℕ → ℕ) → List ℕ
nodes_in zero c g = []
nodes_in (suc n) c g = keep (eqb (c 0) 1) (g 0) (nodes_in n (λ i. c (suc i)) (λ i. g (suc i)))

-- at most 8 numbers in an array of 8: zeros stand behind them
unfoldable pub children_of : List ℕ → Children
children_of l = record { count = length l; nodes = l ++ replicate (8 - length l) 0 }

-- those of the record that starts at byte p
unfoldable pub children_at : List ℕ → ℕ → Children
children_at s p = children_of (nodes_in (kind_width (get_or s (p + 0) 0)) (part_at (get_or s (p + 0) 0)) (λ i. get_or s (p + i) 0))

-- one number more, where it is a node's and there is room
unfoldable pub with_node : Children → (part byte : ℕ) → Children
with_node c p b = cond (eqb p 1) (cond (ltb c.count 8) (record { count = c.count + 1; nodes = set c.nodes c.count b }) c) c

-- THE BYTES UNDER OTHER NUMBERS: nodes by φ, sections by ψ
module _ (φ ψ : ℕ → ℕ) where
  unfoldable pub byte_anew : (part byte : ℕ) → ℕ
  byte_anew p b = cond (eqb p 1) (φ b) (cond (eqb p 2) (ψ b) b)

  -- the record that starts at byte p, as long as its kind says
  unfoldable pub record_anew : List ℕ → ℕ → List ℕ
  record_anew s p = listing (kind_width (get_or s (p + 0) 0)) (λ i. byte_anew (part_at (get_or s (p + 0) 0) i) (get_or s (p + i) 0))

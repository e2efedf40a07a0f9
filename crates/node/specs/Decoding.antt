-- A node decoded from its record, and how many bytes the record has.
use Rattle.std.specs.Prelude.{Bool, true, false, List, [], ◌∷◌, ℕ, suc, leb, length, get_or, drop}
use Rattle.std.proofs.Math.Option.{Option, none, some}
use Rattle.node.specs.Kinds.{Form, form_of, body_width, make}
use Rattle.node.specs.declared.Node.{Node}
use Rattle.node.specs.declared.Node.TheVariants.{False}

-- the node of a record whose form is known; False where the record is cut, or no node has its kind
unfoldable pub if_whole : Bool → Node → Node
if_whole true n = n
if_whole false n = False

unfoldable pub of_form : Option Form → List ℕ → Node
of_form none bs = False
of_form (some f) bs = if_whole (leb (body_width f) (length bs)) (make f (λ i. get_or bs i 0))

-- the node whose record the bytes begin with
unfoldable pub node_of : List ℕ → Node
node_of [] = False
node_of (b ∷ bs) = of_form (form_of b) bs

-- the node whose record starts at byte p
unfoldable pub node_at : List ℕ → ℕ → Node
node_at s p = node_of (drop p s)

-- the bytes of a record of kind b; 0 where no node has the kind
unfoldable pub form_width : Option Form → ℕ
form_width none = 0
form_width (some f) = suc (body_width f)

unfoldable pub kind_width : ℕ → ℕ
kind_width b = form_width (form_of b)

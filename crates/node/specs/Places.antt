-- Laws of the record that stands at a place of a sheet.
use Rattle.std.specs.Prelude.{◌≡◌, refl, List, ◌∷◌, ℕ, suc, ◌+◌, ◌-◌, ◌≤◌, ◌<◌, length, get_or, take, drop}
use Rattle.std.proofs.Common.{ap, ◌∙◌, add-zero, le_of_suc-le-suc, add-one, arith, length-drop, drop_of_length-le, take_all, drop-cons, get_or-drop}
use Rattle.std.proofs.Math.Option.{Option, none, some}
use Rattle.std.proofs.lemmas.Bool.{lt-leb}
use Rattle.node.specs.Kinds.{Form, form_of, body_width}
use Rattle.node.specs.Decoding.{node_of, node_at, of_form, if_whole, kind_width, form_width}
use Rattle.node.specs.declared.Node.TheVariants.{False}

-- the bytes from p on
pub take_rest : (s : List ℕ) (p : ℕ) → take (length s - p) (drop p s) ≡ drop p s
take_rest s p = take_all (length s - p) (drop p s) (simp length-drop (omega arith))

pub first_of_rest : (s : List ℕ) (p : ℕ) → get_or (drop p s) 0 0 ≡ get_or s p 0
first_of_rest s p = get_or-drop p s 0 0 ∙ ap (λ (i : ℕ). get_or s i 0) (add-zero p)

pub rest_begins : (s : List ℕ) (p : ℕ) → p < length s → drop p s ≡ get_or s p 0 ∷ drop (p + 1) s
rest_begins s p h = rw (add-one, drop-cons s p 0)

-- no node past the end
pub node_past : (s : List ℕ) (p : ℕ) → length s ≤ p → node_at s p ≡ False
unfolding node_at node_of
node_past s p h = rw (drop_of_length-le s h)

-- none whose record is cut
cut_form : (o : Option Form) (bs : List ℕ) → suc (length bs) < form_width o → of_form o bs ≡ False
unfolding of_form if_whole form_width
cut_form none bs h = refl
cut_form (some f) bs h = rw (lt-leb (body_width f) (length bs) (le_of_suc-le-suc h))

pub node_cut : (s : List ℕ) (p : ℕ) → p < length s → length s - p < kind_width (get_or s p 0) → node_at s p ≡ False
unfolding node_at node_of kind_width
node_cut s p h w =
    rw (rest_begins s p h)
    (cut_form (form_of (get_or s p 0)) (drop (p + 1) s) (simp length-drop (omega arith)))

-- what `decode` requires of the bytes from p on
pub node_there : (s : List ℕ) (p : ℕ) → p < length s → kind_width (get_or s p 0) ≤ length s - p
    → (1 ≤ length (take (length s - p) (drop p s))) × (kind_width (get_or (take (length s - p) (drop p s)) 0 0) ≤ length (take (length s - p) (drop p s)))
node_there s p h w = rw (take_rest, first_of_rest, length-drop) (omega arith, w)

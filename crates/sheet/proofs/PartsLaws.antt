-- Laws of the parts of a record: they are those of the table of kinds, the nodes named are the node's children, and the bytes under other
-- numbers are those of the node renumbered.
use Rattle.std.specs.Prelude.{◌≡◌, Bool, true, false, cond, ◌&&◌, eqb, ltb, length, set, replicate}
use Rattle.std.proofs.Math.Path.{refl, sym, ap, fun_ext}
use Rattle.std.proofs.Common.{◌∙◌, add-one, arith, length-append, get_or-append-add, eqb-true, lt-ltb}
use Rattle.std.proofs.Math.Option.{Option, none, some}
use mathlib.Core.List.{List, [], ◌∷◌, ◌++◌, map, append_assoc, append-nil}
use Prim.Native.Nat.{ℕ, zero, suc, ◌+◌, ◌*◌, ◌/◌, ◌%◌, ◌^◌, ◌-◌, ◌≤◌, ◌<◌}
use Rattle.std.proofs.Math.Decide.{ℕ_discrete}
use Rattle.std.proofs.Math.ListN.{get_or, get_or-eq_default}
use Rattle.std.proofs.Math.Seq.{set-append_seam}
use Rattle.node.specs.Kinds.{Role, a_node, a_section, a_variable, a_test, a_number, a_wide, Row, row, Form, forms, form_of, roles_of}
use Rattle.node.specs.Kinds.{values_of, size, sizes, body_bytes, body_width, make, written, keep, pick, children}
use Rattle.node.specs.Kinds.{◌is◌}
use Rattle.sheet.specs.Renumbering.{field_anew, renumber}
use Rattle.node.specs.Decoding.{kind_width, form_width}
use Rattle.node.specs.Forms.{listing, fields_of, form_told, row_made, length_values}
use Rattle.sheet.specs.Reading.{Made}
use Rattle.sheet.proofs.Rows.{row_renumbered}
use Rattle.sheet.proofs.Written.{Bytes, byte_small, role_back}
use Rattle.sheet.specs.Parts.{parts_of, body_parts, form_parts, part_at, nodes_in, children_of, children_at, with_node, byte_anew, record_anew}
use Rattle.sheet.specs.declared.Children.{Children}
use Rattle.node.specs.declared.Node.{Node}

-- as many parts as bytes
parts_long : (rs : List Role) → length (body_parts rs) ≡ sizes rs
parts_long [] = refl
parts_long (r ∷ rs) = length-append (parts_of r) (body_parts rs) ∙ ap (λ (k : ℕ). k + length (body_parts rs)) (one r) ∙
    ap (λ (k : ℕ). size r + k) (parts_long rs)
  where
    one : (r : Role) → length (parts_of r) ≡ size r
    one a_node = refl
    one a_section = refl
    one a_variable = refl
    one a_test = refl
    one a_number = refl
    one a_wide = refl

-- THE TABLE: a number for each kind, a hexadecimal digit for each of eight bytes

unfoldable pub all_below : ℕ → (ℕ → Bool) → Bool
all_below zero p = true
all_below (suc n) p = p n && all_below n p

both_true : (a b : Bool) → a && b ≡ true → (a ≡ true) × (b ≡ true)
both_true true b e = (refl, e)
both_true false b e = let z : ◌≡◌ {A = ℕ} 0 1 = cc in absurd (omega arith)

pub all_below_lem : (n : ℕ) (p : ℕ → Bool) → all_below n p ≡ true → (i : ℕ) → i < n → p i ≡ true
unfolding all_below
all_below_lem zero p e i h = absurd (omega arith)
all_below_lem (suc n) p e i h = go (both_true (p n) (all_below n p) e) (ℕ_discrete i n) (λ y z. all_below_lem n p y i z)
  where
    go : (p n ≡ true) × (all_below n p ≡ true) → Dec (i ≡ n) → (all_below n p ≡ true → i < n → p i ≡ true) → p i ≡ true
    go w (yes q) f = rw q w.0
    go w (no q) f = f w.1 (omega arith)

abbrev pub table_parts : List ℕ
table_parts = 0 ∷ 0 ∷ 0 ∷ 0 ∷ 0 ∷ 0x110 ∷ 0x110 ∷ 0x11010110 ∷ 0x10110 ∷ 0x110 ∷ 0x20 ∷ 0x10 ∷ 0x10210 ∷ 0 ∷ []

-- the digits are the parts of the forms
right : (k i : ℕ) → Bool
right k i = eqb (get_or (form_parts (get_or forms k none)) i 0) (get_or table_parts k 0 / 2 ^ (4 * i) % 16)

all_right : all_below 14 (λ k. all_below 8 (right k)) ≡ true
unfolding all_below right form_parts
all_right = refl

pub part_at_lem : (k i : ℕ) → k < 14 → i < 8 → part_at (16 + k) i ≡ get_or table_parts k 0 / 2 ^ (4 * i) % 16
unfolding part_at form_of right
part_at_lem k i h z =
    ap (λ (o : Option Form). get_or (form_parts o) i 0) (get_or-append-add (replicate 16 none) forms k none)
    ∙ eqb-true _ _ (all_below_lem 8 (right k) (all_below_lem 14 (λ k. all_below 8 (right k)) all_right k h) i z)

pub part_unknown : (k i : ℕ) → form_of k ≡ none → part_at k i ≡ 0
unfolding part_at form_parts
part_unknown k i e = rw e

pub part_past : (k i : ℕ) → 8 ≤ i → part_at k i ≡ 0
unfolding part_at form_parts body_width
part_past k i h = go (form_of k) refl
  where
    go : (o : Option Form) → form_of k ≡ o → get_or (form_parts o) i 0 ≡ 0
    go none e = refl
    go (some f) e = let z : length (0 ∷ body_parts (roles_of f)) ≤ i = omega (arith, (form_told k e).small, parts_long (roles_of f)) in
        get_or-eq_default (0 ∷ body_parts (roles_of f)) 0 z

-- no record is longer than 8 bytes
pub kind_narrow : (k : ℕ) → kind_width k ≤ 8
unfolding kind_width form_width
kind_narrow k = go (form_of k) refl
  where
    go : (o : Option Form) → form_of k ≡ o → form_width o ≤ 8
    go none e = omega arith
    go (some f) e = omega (arith, (form_told k e).small)

-- THE CHILDREN

keep_append : (b : Bool) (v : ℕ) (xs ys : List ℕ) → keep b v (xs ++ ys) ≡ keep b v xs ++ ys
keep_append true v xs ys = refl
keep_append false v xs ys = refl

nodes_more : (n : ℕ) (c g : ℕ → ℕ) → nodes_in (suc n) c g ≡ nodes_in n c g ++ keep (eqb (c n) 1) (g n) []
nodes_more zero c g = refl
nodes_more (suc n) c g =
    ap (keep (eqb (c 0) 1) (g 0)) (nodes_more n (λ i. c (suc i)) (λ i. g (suc i)))
    ∙ keep_append (eqb (c 0) 1) (g 0) (nodes_in n (λ i. c (suc i)) (λ i. g (suc i))) (keep (eqb (c (suc n)) 1) (g (suc n)) [])

nodes_few : (n : ℕ) (c g : ℕ → ℕ) → length (nodes_in n c g) ≤ n
nodes_few zero c g = omega arith
nodes_few (suc n) c g = go (eqb (c 0) 1) (nodes_in n (λ i. c (suc i)) (λ i. g (suc i))) (nodes_few n (λ i. c (suc i)) (λ i. g (suc i)))
  where
    go : (b : Bool) (l : List ℕ) → length l ≤ n → length (keep b (g 0) l) ≤ suc n
    go true l h = omega arith
    go false l h = omega arith

abbrev listed_in : List ℕ → (ℕ → ℕ) → List ℕ
listed_in cs g = nodes_in (length cs) (λ i. get_or cs i 0) g

pick_parts : (rs : List Role) (g : ℕ → ℕ) → listed_in (body_parts rs) g ≡ pick a_node (fields_of rs (values_of rs g))
pick_parts [] g = refl
pick_parts (a_node ∷ rs) g =
    ap (λ (h : ℕ → ℕ). g 0 ∷ listed_in (body_parts rs) h) (fun_ext λ i. ap g (omega arith)) ∙ ap (λ (l : List ℕ). g 0 ∷ l) (pick_parts rs (λ i. g (1 + i)))
pick_parts (a_section ∷ rs) g = ap (listed_in (body_parts rs)) (fun_ext λ i. ap g (omega arith)) ∙ pick_parts rs (λ i. g (1 + i))
pick_parts (a_variable ∷ rs) g = ap (listed_in (body_parts rs)) (fun_ext λ i. ap g (omega arith)) ∙ pick_parts rs (λ i. g (1 + i))
pick_parts (a_test ∷ rs) g = ap (listed_in (body_parts rs)) (fun_ext λ i. ap g (omega arith)) ∙ pick_parts rs (λ i. g (1 + i))
pick_parts (a_number ∷ rs) g = ap (listed_in (body_parts rs)) (fun_ext λ i. ap g (omega arith)) ∙ pick_parts rs (λ i. g (2 + i))
pick_parts (a_wide ∷ rs) g = ap (listed_in (body_parts rs)) (fun_ext λ i. ap g (omega arith)) ∙ pick_parts rs (λ i. g (4 + i))

-- the row of a node that is made of bytes
made_row : {s : List ℕ} {p : ℕ} {n : Node} (m : Made s p n)
    → row n ≡ (get_or s (p + 0) 0 is fields_of (roles_of m.form) (values_of (roles_of m.form) (λ i. get_or s (p + suc i) 0)))
unfolding make
made_row {s} {p} m =
    let g : ℕ → ℕ = λ i. get_or s (p + suc i) 0 in
    let t = form_told (get_or s (p + 0) 0) m.known in
    ap row m.node ∙ row_made t (values_of (roles_of m.form) g) (length_values (roles_of m.form) g ∙ t.many)

-- the nodes that a record names are its node's children
pub children_told : {s : List ℕ} {p : ℕ} {n : Node} → Made s p n → children_at s p ≡ children_of (children n)
unfolding children_at part_at form_parts children kind_width form_width body_width
children_told {s} {p} {n} m =
    let g : ℕ → ℕ = λ i. get_or s (p + suc i) 0 in
    let rs : List Role = roles_of m.form in
    ap children_of
    (ap (λ (o : Option Form). nodes_in (form_width o) (λ i. get_or (form_parts o) i 0) (λ i. get_or s (p + i) 0)) m.known
    ∙ ap (λ (k : ℕ). nodes_in k (λ i. get_or (body_parts rs) i 0) g) (sym (parts_long rs))
    ∙ pick_parts rs g
    ∙ sym (ap (λ (r : Row). pick a_node r.body) (made_row m)))

-- one byte more of a record
more_room : (l : List ℕ) (b : ℕ) → length l < 8
    → record { count = length l + 1; nodes = set (l ++ replicate (8 - length l) 0) (length l) b } ≡ children_of (l ++ b ∷ [])
unfolding children_of
more_room l b h =
    let q : 8 - length l ≡ suc (7 - length l) = omega arith in
    let w : 8 - (length l + 1) ≡ 7 - length l = omega arith in
    rw (length-append, q, w, set-append_seam l 0 (replicate (7 - length l) 0) b, append_assoc l (b ∷ []) (replicate (7 - length l) 0))

pub with_more : (n : ℕ) (c g : ℕ → ℕ) → n < 8 → with_node (children_of (nodes_in n c g)) (c n) (g n) ≡ children_of (nodes_in (suc n) c g)
unfolding with_node children_of
with_more n c g h = go (eqb (c n) 1) ∙ ap children_of (sym (nodes_more n c g))
  where
    l : List ℕ
    l = nodes_in n c g

    go : (b : Bool) → cond b (cond (ltb (length l) 8) (record { count = length l + 1; nodes = set (l ++ replicate (8 - length l) 0) (length l) (g n) })
        (children_of l)) (children_of l) ≡ children_of (l ++ keep b (g n) [])
    go true =
        let z : length l < 8 = omega (arith, nodes_few n c g) in
        rw (lt-ltb (length l) 8 z) (more_room l (g n) z)
    go false = ap children_of (sym (append-nil l))

-- THE BYTES

module _ (φ ψ : ℕ → ℕ) where
  abbrev listed_anew : List ℕ → (ℕ → ℕ) → List ℕ
  listed_anew cs g = listing (length cs) (λ i. byte_anew φ ψ (get_or cs i 0) (g i))

  body_anew : (rs : List Role) (g : ℕ → ℕ) → ((i : ℕ) → g i < 256) → listed_anew (body_parts rs) g ≡ body_bytes (map (field_anew φ ψ) (fields_of rs
      (values_of rs g)))
  unfolding byte_anew
  body_anew [] g small = refl
  body_anew (a_node ∷ rs) g small =
      ap (λ (h : ℕ → ℕ). φ (g 0) ∷ listed_anew (body_parts rs) h) (fun_ext λ i. ap g (omega arith))
      ∙ ap (λ (l : List ℕ). φ (g 0) ∷ l) (body_anew rs (λ i. g (1 + i)) (λ i. small (1 + i)))
  body_anew (a_section ∷ rs) g small =
      ap (λ (h : ℕ → ℕ). ψ (g 0) ∷ listed_anew (body_parts rs) h) (fun_ext λ i. ap g (omega arith))
      ∙ ap (λ (l : List ℕ). ψ (g 0) ∷ l) (body_anew rs (λ i. g (1 + i)) (λ i. small (1 + i)))
  body_anew (a_variable ∷ rs) g small =
      ap (λ (h : ℕ → ℕ). g 0 ∷ listed_anew (body_parts rs) h) (fun_ext λ i. ap g (omega arith))
      ∙ ap (λ (l : List ℕ). g 0 ∷ l) (body_anew rs (λ i. g (1 + i)) (λ i. small (1 + i)))
  body_anew (a_test ∷ rs) g small =
      ap (λ (h : ℕ → ℕ). g 0 ∷ listed_anew (body_parts rs) h) (fun_ext λ i. ap g (omega arith))
      ∙ ap (λ (l : List ℕ). g 0 ∷ l) (body_anew rs (λ i. g (1 + i)) (λ i. small (1 + i)))
  body_anew (a_number ∷ rs) g small =
      ap (λ (h : ℕ → ℕ). g 0 ∷ g 1 ∷ listed_anew (body_parts rs) h) (fun_ext λ i. ap g (omega arith))
      ∙ ap (λ (l : List ℕ). g 0 ∷ g 1 ∷ l) (body_anew rs (λ i. g (2 + i)) (λ i. small (2 + i)))
      ∙ ap (λ (l : List ℕ). l ++ body_bytes (map (field_anew φ ψ) (fields_of rs (values_of rs (λ i. g (2 + i)))))) (sym (role_back g small a_number))
  body_anew (a_wide ∷ rs) g small =
      ap (λ (h : ℕ → ℕ). g 0 ∷ g 1 ∷ g 2 ∷ g 3 ∷ listed_anew (body_parts rs) h) (fun_ext λ i. ap g (omega arith))
      ∙ ap (λ (l : List ℕ). g 0 ∷ g 1 ∷ g 2 ∷ g 3 ∷ l) (body_anew rs (λ i. g (4 + i)) (λ i. small (4 + i)))
      ∙ ap (λ (l : List ℕ). l ++ body_bytes (map (field_anew φ ψ) (fields_of rs (values_of rs (λ i. g (4 + i)))))) (sym (role_back g small a_wide))

  -- the bytes of a record under other numbers are those of its node renumbered
  pub record_anew_lem : {s : List ℕ} {p : ℕ} {n : Node} → Made s p n → Bytes s → record_anew φ ψ s p ≡ written (renumber φ ψ n)
  unfolding record_anew byte_anew part_at form_parts kind_width form_width body_width written
  record_anew_lem {s} {p} {n} m small =
      let g : ℕ → ℕ = λ i. get_or s (p + suc i) 0 in
      let b : ℕ = get_or s (p + 0) 0 in
      let rs : List Role = roles_of m.form in
      ap (λ (o : Option Form). listing (form_width o) (λ i. byte_anew φ ψ (get_or (form_parts o) i 0) (get_or s (p + i) 0))) m.known
      ∙ ap (λ (k : ℕ). b ∷ listing k (λ i. byte_anew φ ψ (get_or (body_parts rs) i 0) (g i))) (sym (parts_long rs))
      ∙ ap (λ (l : List ℕ). b ∷ l) (body_anew rs g (λ i. byte_small s small (p + suc i)))
      ∙ sym (ap (λ (r : Row). r.kind ∷ body_bytes r.body)
      (row_renumbered φ ψ n ∙ ap (λ (r : Row). r.kind is map (field_anew φ ψ) r.body) (made_row m)))

-- i BYTES OF A RECORD ARE LOOKED AT, and c are the nodes named
pub record Looked (s : List ℕ) (at : ℕ) (c : Children) (i : ℕ) : Type 0 where
  pub few : i ≤ kind_width (get_or s (at + 0) 0)
  pub so_far : c ≡ children_of (nodes_in i (part_at (get_or s (at + 0) 0)) (λ j. get_or s (at + j) 0))

pub looked_none : {s : List ℕ} {at : ℕ} → Looked s at (record { count = 0; nodes = replicate 8 0 }) 0
unfolding children_of
looked_none = record { few = omega arith; so_far = refl }

pub looked_more : {s : List ℕ} {at kind part byte i : ℕ} {c c' : Children} → Looked s at c i → i < kind_width (get_or s (at + 0) 0)
    → kind ≡ get_or s (at + 0) 0 → part ≡ part_at kind i
    → byte ≡ get_or s (at + i) 0 → c' ≡ with_node c part byte → Looked s at c' (i + 1)
looked_more {s} {at} {kind} {part} {byte} {i} {c} {c'} l h ke pe be ce =
    let k : ℕ → ℕ = part_at (get_or s (at + 0) 0) in
    let g : ℕ → ℕ = λ j. get_or s (at + j) 0 in
    let q : part ≡ k i = pe ∙ ap (λ (x : ℕ). part_at x i) ke in
    record { few = omega arith; so_far = rw (ce, q, be, l.so_far, add-one i) (with_more i k g (omega (arith, kind_narrow (get_or s (at + 0) 0)))) }

pub looked_all : {s : List ℕ} {at i : ℕ} {c : Children} → Looked s at c i → kind_width (get_or s (at + 0) 0) ≤ i → c ≡ children_at s at
unfolding children_at
looked_all {s} {at} {i} l h = let q : i ≡ kind_width (get_or s (at + 0) 0) = omega (arith, l.few) in rw q at l.so_far

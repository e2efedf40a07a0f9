-- What was read, written again: a record and a whole sheet are the bytes that they were read from.
use Rattle.std.specs.Prelude.{◌≡◌, refl, Bool, true, false, List, [], ◌∷◌, ◌++◌, ℕ, zero, suc, ◌+◌, ◌*◌, ◌/◌, ◌%◌, ◌≤◌, ◌<◌, leb, eqb, length, get_or}
use Rattle.std.specs.Prelude.{take, drop}
use Rattle.std.proofs.Common.{sym, ap, ◌∙◌, zero-add, suc-add, arith, take-append-drop, leb-true, eqb-true}
use Rattle.std.proofs.Math.Path.{fun_ext}
use Rattle.std.proofs.Math.Option.{some}
use Rattle.value.specs.Result.{Result, ok}
use Rattle.node.specs.Kinds.{Role, a_node, a_section, a_variable, a_test, a_number, a_wide, Row, row, Form, form_of, roles_of, value_of, values_of, size, sizes}
use Rattle.node.specs.Kinds.{bytes_of, body_bytes, body_width, make, width, written}
use Rattle.sheet.specs.Sheet.{Sheet, Records, read_nodes, one_section, if_section, read_records, with_nodes, read_body, in_range, read_header, read_sheet}
use Rattle.node.specs.Decoding.{node_of}
use Rattle.node.specs.Forms.{listing, fields_of, form_told, row_made, length_values, wide_form, node_whole}
use Rattle.sheet.specs.Reading.{Made, Fine, fine, refused, fine_or, fine_unless, fine_map, fine_then, fine_ok}
use Rattle.sheet.specs.Rows.{Every, limit, Small, all_written, roots_written, sheet_written}
use Rattle.node.specs.declared.Node.{Node}

-- BYTES

abbrev pub Bytes : List ℕ → Type 0
Bytes = Every (λ b. b < 256)

pub byte_small : (l : List ℕ) → Bytes l → (i : ℕ) → get_or l i 0 < 256
byte_small [] h i = omega arith
byte_small (b ∷ bs) h zero = h.0
byte_small (b ∷ bs) h (suc i) = byte_small bs h.1 i

pub drop_bytes : (k : ℕ) (l : List ℕ) → Bytes l → Bytes (drop k l)
drop_bytes zero l h = h
drop_bytes (suc k) [] h = h
drop_bytes (suc k) (b ∷ bs) h = drop_bytes k bs h.1

listing-add : (n m : ℕ) (g : ℕ → ℕ) → listing (n + m) g ≡ listing n g ++ listing m (λ i. g (n + i))
listing-add zero m g = ap (λ (k : ℕ). listing k g) (zero-add m) ∙ ap (listing m) (fun_ext λ i. ap g (sym (zero-add i)))
listing-add (suc n) m g =
    ap (λ (k : ℕ). listing k g) (suc-add n m)
    ∙ ap (λ (l : List ℕ). g 0 ∷ l) (listing-add n m (λ i. g (suc i)))
    ∙ ap (λ (h : ℕ → ℕ). listing (suc n) g ++ listing m h) (fun_ext λ i. ap g (sym (suc-add n i)))

listing-take : (n : ℕ) (l : List ℕ) → n ≤ length l → listing n (λ i. get_or l i 0) ≡ take n l
listing-take zero l h = refl
listing-take (suc n) [] h = absurd (omega arith)
listing-take (suc n) (b ∷ bs) h = ap (λ (l : List ℕ). b ∷ l) (listing-take n bs (omega arith))

-- A RECORD

module _ (g : ℕ → ℕ) (small : (i : ℕ) → g i < 256) where
  number_back : bytes_of a_number (256 * g 0 + g 1) ≡ listing 2 g
  number_back =
      let s = small 1 in
      let h : (256 * g 0 + g 1) / 256 ≡ g 0 = omega arith in
      let l : (256 * g 0 + g 1) % 256 ≡ g 1 = omega arith in
      rw (h, l) refl

  wide_back : bytes_of a_wide (256 * (256 * (256 * g 0 + g 1) + g 2) + g 3) ≡ listing 4 g
  wide_back =
      let n = 256 * (256 * (256 * g 0 + g 1) + g 2) + g 3 in
      let s₁ = small 1 in
      let s₂ = small 2 in
      let s₃ = small 3 in
      let a : n / 256 / 256 / 256 ≡ g 0 = omega arith in
      let b : n / 256 / 256 % 256 ≡ g 1 = omega arith in
      let c : n / 256 % 256 ≡ g 2 = omega arith in
      let d : n % 256 ≡ g 3 = omega arith in
      rw (a, b, c, d) refl

  -- the bytes of a field's value are those that it was read from
  pub role_back : (r : Role) → bytes_of r (value_of r g) ≡ listing (size r) g
  role_back a_node = refl
  role_back a_section = refl
  role_back a_variable = refl
  role_back a_test = refl
  role_back a_number = number_back
  role_back a_wide = wide_back

fields_back : (rs : List Role) (g : ℕ → ℕ) → ((i : ℕ) → g i < 256) → body_bytes (fields_of rs (values_of rs g)) ≡ listing (sizes rs) g
fields_back [] g small = refl
fields_back (r ∷ rs) g small =
    ap (λ (l : List ℕ). l ++ body_bytes (fields_of rs (values_of rs (λ i. g (size r + i))))) (role_back g small r)
    ∙ ap (λ (l : List ℕ). listing (size r) g ++ l) (fields_back rs (λ i. g (size r + i)) (λ i. small (size r + i)))
    ∙ sym (listing-add (size r) (sizes rs) g)

-- a node made of bytes is written as its kind and them
pub written_made : {b : ℕ} {f : Form} → form_of b ≡ some f → (g : ℕ → ℕ) → ((i : ℕ) → g i < 256) → written (make f g) ≡ b ∷ listing (body_width f) g
unfolding written make body_width
written_made {b} {f} e g small =
    let t = form_told b e in
    ap (λ (r : Row). r.kind ∷ body_bytes r.body) (row_made t (values_of (roles_of f) g) (length_values (roles_of f) g ∙ t.many))
    ∙ ap (λ (l : List ℕ). b ∷ l) (fields_back (roles_of f) g small)

pub written_back : {b : ℕ} {f : Form} → form_of b ≡ some f → (bs : List ℕ) → body_width f ≤ length bs → Bytes bs
    → written (make f (λ i. get_or bs i 0)) ≡ b ∷ take (body_width f) bs
written_back {b} {f} e bs h small = written_made e (λ i. get_or bs i 0) (byte_small bs small) ∙ ap (λ (l : List ℕ). b ∷ l) (listing-take (body_width f) bs h)

-- so a whole record, read and written, is its bytes
pub written_whole : (r : List ℕ) {f : Form} → form_of (get_or r 0 0) ≡ some f → body_width f < length r → Bytes r →
    written (node_of r) ≡ take (suc (body_width f)) r
written_whole [] e h small = absurd (omega arith)
written_whole (b ∷ bs) e h small = ap written (node_whole (b ∷ bs) refl e h) ∙ written_back e bs (omega arith) small.1

-- and so is the node of a record that stands at byte p of a sheet
pub written_there : {s : List ℕ} {p : ℕ} {n : Node} → Made s p n → Bytes s → written n ≡ listing (width n) (λ i. get_or s (p + i) 0)
written_there {s} {p} {n} m small =
    let g : ℕ → ℕ = λ i. get_or s (p + suc i) 0 in
    let w : width n ≡ suc (body_width m.form) = ap width m.node ∙ wide_form (get_or s (p + 0) 0) m.known g in
    ap written m.node ∙ written_made m.known g (λ i. byte_small s small (p + suc i)) ∙ ap (λ (k : ℕ). listing k (λ i. get_or s (p + i) 0)) (sym w)

-- and the numbers of its fields are as small as so many bytes can say
module _ (g : ℕ → ℕ) (small : (i : ℕ) → g i < 256) where
  role_small : (r : Role) → value_of r g < limit r
  role_small a_node = small 0
  role_small a_section = small 0
  role_small a_variable = small 0
  role_small a_test = small 0
  role_small a_number = omega (arith, small 0, small 1)
  role_small a_wide = omega (arith, small 0, small 1, small 2, small 3)

fields_small : (rs : List Role) (g : ℕ → ℕ) → ((i : ℕ) → g i < 256) → Small (fields_of rs (values_of rs g))
fields_small [] g small = tt
fields_small (r ∷ rs) g small = (role_small g small r, fields_small rs (λ i. g (size r + i)) (λ i. small (size r + i)))

pub read_small : {s : List ℕ} {p : ℕ} {n : Node} → Made s p n → Bytes s → Small (row n).body
unfolding make
read_small {s} {p} m small =
    let g : ℕ → ℕ = λ i. get_or s (p + suc i) 0 in
    let t = form_told (get_or s (p + 0) 0) m.known in
    let rs : List Role = roles_of m.form in
    let e = ap row m.node ∙ row_made t (values_of rs g) (length_values rs g ∙ t.many) in
    rw e (fields_small rs g (λ i. byte_small s small (p + suc i)))

-- A SHEET

nodes_back : (left : ℕ) (bs : List ℕ) → Bytes bs → Fine (λ ns. all_written ns ≡ bs) (read_nodes left bs)
unfolding read_nodes
nodes_back zero [] small = fine refl
nodes_back zero (b ∷ bs) small = fine_or 10 (form_of b) _ (omega arith) (λ f q. refused (omega arith))
nodes_back (suc left) [] small = fine refl
nodes_back (suc left) (b ∷ bs) small =
    fine_or 10 (form_of b) _ (omega arith)
    (λ f q.
    fine_unless 11 (leb (body_width f) (length bs)) (omega arith)
    (λ t.
    fine_map _
    (λ ns e.
    ap (λ (l : List ℕ). l ++ all_written ns) (written_back q bs (leb-true _ _ t) small.1)
    ∙ ap (λ (l : List ℕ). b ∷ take (body_width f) bs ++ l) e
    ∙ ap (λ (l : List ℕ). b ∷ l) (take-append-drop (body_width f) bs))
    (nodes_back left (drop (body_width f) bs) (drop_bytes (body_width f) bs small.1))))

records_if : (t : Bool) (bs : List ℕ) {r : Result Records} → Bytes bs → (t ≡ true → Fine (λ x. roots_written x.0 (all_written x.1) ≡ bs) r)
    → Fine (λ x. roots_written x.0 (all_written x.1) ≡ bs) (if_section t r bs)
unfolding if_section
records_if true bs small f = f refl
records_if false bs small f = fine_map _ (λ ns e. e) (nodes_back 200 bs small)

records_back : (left : ℕ) (bs : List ℕ) → Bytes bs → Fine (λ x. roots_written x.0 (all_written x.1) ≡ bs) (read_records left bs)
unfolding read_records one_section
records_back zero [] small = fine refl
records_back zero (b ∷ bs) small = records_if (eqb b 0x20) (b ∷ bs) small (λ t. refused (omega arith))
records_back (suc left) [] small = fine refl
records_back (suc left) (b ∷ []) small = records_if (eqb b 0x20) (b ∷ []) small (λ t. refused (omega arith))
records_back (suc left) (b ∷ r ∷ bs) small =
    records_if (eqb b 0x20) (b ∷ r ∷ bs) small
    (λ t.
    fine_map _
    (λ x e. ap (λ (l : List ℕ). 0x20 ∷ r ∷ l) e ∙ ap (λ (k : ℕ). k ∷ r ∷ bs) (sym (eqb-true b 0x20 t)))
    (records_back left bs small.1.1))

body_back : (k root : ℕ) (bs : List ℕ) (x : Records) → roots_written x.0 (all_written x.1) ≡ bs
    → Fine (λ sh. sheet_written sh ≡ 0x01 ∷ k ∷ root ∷ bs) (with_nodes k root x)
unfolding with_nodes sheet_written
body_back k root bs (secs, []) e = refused {c = 14} (omega arith)
body_back k root bs (secs, n ∷ ns) e = fine (ap (λ (l : List ℕ). 0x01 ∷ k ∷ root ∷ l) e)

header_back : (bs : List ℕ) → Bytes bs → Fine (λ sh. sheet_written sh ≡ 0x01 ∷ bs) (read_body bs)
unfolding read_body
header_back [] small = refused {c = 11} (omega arith)
header_back (k ∷ []) small = refused {c = 11} (omega arith)
header_back (k ∷ root ∷ bs) small = fine_then _ (body_back k root bs) (records_back 8 bs small.1.1)

sheet_back : (s : List ℕ) → Bytes s → Fine (λ sh. sheet_written sh ≡ s) (read_header s)
unfolding read_header
sheet_back [] small = refused {c = 14} (omega arith)
sheet_back (b ∷ bs) small =
    fine_unless 10 (eqb b 0x01) (omega arith)
    (λ t. let q : b ≡ 0x01 = eqb-true b 0x01 t in rw q (header_back bs small.1))

-- a sheet that was read, written again, is the bytes that it was read from
pub sheet_written_back : (s : List ℕ) {sh : Sheet} → Bytes s → read_sheet s ≡ ok sh → sheet_written sh ≡ s
unfolding read_sheet
sheet_written_back s small e = fine_ok (fine_then _ (λ sh h. fine_unless 13 (in_range sh) (omega arith) (λ t. fine h)) (sheet_back s small)) e

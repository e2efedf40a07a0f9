-- Laws of every node, proved once over the table: a node made anew, renumbered, written and read again, and where its children stand.
use Rattle.std.specs.Prelude.{◌≡◌, refl, Bool, true, false, eqb}
use Rattle.std.proofs.Math.Path.{sym, ap, fun_ext}
use Rattle.std.proofs.Common.{◌∙◌, inl, inr, mod-lt, div-lt_iff_lt-mul, arith, length-append, get_or-append-add}
use Rattle.std.proofs.Math.Option.{Option, none, some}
use mathlib.Core.List.{List, [], ◌∷◌, ◌++◌, map, append_assoc}
use Prim.Native.Nat.{ℕ, zero, suc, ◌+◌, ◌≤◌, ◌<◌, ◌/◌, ◌%◌}
use Rattle.std.proofs.Math.Nat.{div-add-mod}
use Rattle.std.proofs.Math.Decide.{dec_lt}
use Rattle.std.proofs.Math.ListN.{length, get_or, drop}
use Rattle.std.proofs.Math.Seq.{drop_at}
use borrow.Author.Tests.{le-leb, lt-ltb, eqb-true, ne_eqb}
use Rattle.value.specs.Result.{ok, and_then, map_result, or_refuse, unless}
use Rattle.node.specs.Kinds.{Role, a_node, a_section, a_variable, a_test, a_number, a_wide, Field, ◌of◌, Row, ◌is◌, row, Form, past, form_of, made, roles_of}
use Rattle.node.specs.Kinds.{roles, values, value_of, values_of, size, sizes, bytes_of, body_bytes, body_width, make, width, written}
use Rattle.node.specs.Kinds.{place, keep, pick, children, calls, variables, fits, all_fit, node_in_range}
use Rattle.sheet.specs.Renumbering.{anew, field_anew, of_kind, renumber}
use Rattle.sheet.specs.Sheet.{Sheet, Records, read_nodes, one_section, if_section, read_records, with_nodes, read_body, in_range, read_header, read_sheet}
use Rattle.node.specs.Decoding.{node_of, of_form, if_whole}
use Rattle.node.specs.Forms.{no_form, fields_of, Told, form_told, built, roles_of_lem, row_made}
use Rattle.sheet.specs.Laws.{Child, InRange, AllFit, Ranged}
use Rattle.sheet.specs.Rows.{Every, limit, Small, all_written, roots_written, sheet_written}
use Rattle.node.specs.declared.Node.{Node}

-- A NODE OF THE SAME KIND, WITH OTHER VALUES

fields_of_lem : (fs : List Field) → fields_of (roles fs) (values fs) ≡ fs
fields_of_lem [] = refl
fields_of_lem (f ∷ fs) = ap (λ (l : List Field). f ∷ l) (fields_of_lem fs)

length_values_of : (fs : List Field) → length (values fs) ≡ length fs
length_values_of [] = refl
length_values_of (f ∷ fs) = ap suc (length_values_of fs)

length-roles : (fs : List Field) → length (roles fs) ≡ length fs
length-roles [] = refl
length-roles (f ∷ fs) = ap suc (length-roles fs)

module _ (n : Node) where
  its_told : Told (row n).kind (built n).form
  its_told = form_told (row n).kind (built n).known

  its_row : row n ≡ ((row n).kind is fields_of (roles_of (built n).form) (values (row n).body))
  its_row = ap row (sym (built n).node) ∙ row_made its_told (values (row n).body) (length_values_of (row n).body ∙ (built n).many)

  -- the roles of its form are its own
  pub its_roles : roles (row n).body ≡ roles_of (built n).form
  its_roles =
      ap (λ (r : Row). roles r.body) its_row
      ∙ roles_of_lem (roles_of (built n).form) (values (row n).body) (length_values_of (row n).body ∙ (built n).many ∙ sym its_told.many)

  -- THE LAW: fields of its roles make a node with that row
  pub row_remade : (fs : List Field) → roles fs ≡ roles (row n).body → row (of_kind (form_of (row n).kind) (values fs)) ≡ ((row n).kind is fs)
  unfolding of_kind
  row_remade fs e =
      let l : length (values fs) ≡ length (row n).body = length_values_of fs ∙ sym (length-roles fs) ∙ ap length e ∙ length-roles (row n).body in
      rw (built n).known
      (row_made its_told (values fs) (l ∙ (built n).many)
      ∙ ap (λ (rs : List Role). (row n).kind is fields_of rs (values fs)) (sym (e ∙ its_roles))
      ∙ ap (λ (b : List Field). (row n).kind is b) (fields_of_lem fs))

  pub as_kind : of_kind (form_of (row n).kind) (values (row n).body) ≡ n
  unfolding of_kind
  as_kind = rw (built n).known (built n).node

  -- no record is longer than 8 bytes
  pub width_8 : width n ≤ 8
  unfolding width body_width
  width_8 = let e : sizes (roles (row n).body) ≡ sizes (roles_of (built n).form) = ap sizes its_roles in omega (arith, its_told.small)

-- two nodes with one row are one
pub same_row : (n m : Node) → row n ≡ row m → n ≡ m
same_row n m e = sym (as_kind n) ∙ ap (λ (r : Row). of_kind (form_of r.kind) (values r.body)) e ∙ as_kind m

-- A role by its place

role_at : ℕ → Role
role_at i = get_or (a_node ∷ a_section ∷ a_variable ∷ a_test ∷ a_number ∷ a_wide ∷ []) i a_node

role_at_lem : (r : Role) → role_at (place r) ≡ r
unfolding role_at
role_at_lem a_node = refl
role_at_lem a_section = refl
role_at_lem a_variable = refl
role_at_lem a_test = refl
role_at_lem a_number = refl
role_at_lem a_wide = refl

same_role : (q r : Role) → eqb (place q) (place r) ≡ true → q ≡ r
same_role q r e = sym (role_at_lem q) ∙ ap role_at (eqb-true (place q) (place r) e) ∙ role_at_lem r

map_same : (xs : List ℕ) → map (λ (v : ℕ). v) xs ≡ xs
map_same [] = refl
map_same (x ∷ xs) = ap (λ (l : List ℕ). x ∷ l) (map_same xs)

-- RENUMBERING

-- P at every child and Q at every section called
abbrev Named : (P Q : ℕ → Type 0) → List Field → Type 0
Named P Q fs = Every P (pick a_node fs) × Every Q (pick a_section fs)

module _ (φ ψ : ℕ → ℕ) where
  roles_anew : (fs : List Field) → roles (map (field_anew φ ψ) fs) ≡ roles fs
  roles_anew [] = refl
  roles_anew (f ∷ fs) = ap (λ (l : List Role). f.role ∷ l) (roles_anew fs)

  pub row_renumbered : (n : Node) → row (renumber φ ψ n) ≡ ((row n).kind is map (field_anew φ ψ) (row n).body)
  unfolding renumber
  row_renumbered n = row_remade n (map (field_anew φ ψ) (row n).body) (roles_anew (row n).body)

  keep-anew : (b : Bool) (q r : Role) (v : ℕ) (xs ys : List ℕ) → (b ≡ true → q ≡ r) → ys ≡ map (anew φ ψ r) xs
      → keep b (anew φ ψ q v) ys ≡ map (anew φ ψ r) (keep b v xs)
  keep-anew true q r v xs ys s e = ap (λ (x : Role). anew φ ψ x v ∷ ys) (s refl) ∙ ap (λ (l : List ℕ). anew φ ψ r v ∷ l) e
  keep-anew false q r v xs ys s e = e

  pub pick-anew : (r : Role) (fs : List Field) → pick r (map (field_anew φ ψ) fs) ≡ map (anew φ ψ r) (pick r fs)
  pick-anew r [] = refl
  pick-anew r (f ∷ fs) =
      keep-anew (eqb (place f.role) (place r)) f.role r f.value (pick r fs) (pick r (map (field_anew φ ψ) fs)) (same_role f.role r)
      (pick-anew r fs)

  module _ (n : Node) where
    -- renumbering commutes with the children and the sections called, and leaves kind, width and variables be
    pub renumbered_kind : (row (renumber φ ψ n)).kind ≡ (row n).kind
    renumbered_kind = ap (λ (r : Row). r.kind) (row_renumbered n)

    pub renumbered_width : width (renumber φ ψ n) ≡ width n
    unfolding width
    renumbered_width = ap (λ (r : Row). suc (sizes (roles r.body))) (row_renumbered n) ∙ ap (λ (rs : List Role). suc (sizes rs)) (roles_anew (row n).body)

    pub renumbered_children : children (renumber φ ψ n) ≡ map φ (children n)
    unfolding children
    renumbered_children = ap (λ (r : Row). pick a_node r.body) (row_renumbered n) ∙ pick-anew a_node (row n).body

    pub renumbered_calls : calls (renumber φ ψ n) ≡ map ψ (calls n)
    unfolding calls
    renumbered_calls = ap (λ (r : Row). pick a_section r.body) (row_renumbered n) ∙ pick-anew a_section (row n).body

    pub renumbered_variables : variables (renumber φ ψ n) ≡ variables n
    unfolding variables
    renumbered_variables = ap (λ (r : Row). pick a_variable r.body) (row_renumbered n) ∙ pick-anew a_variable (row n).body ∙ map_same (variables n)

  -- what renumbering keeps in range
  module _ (nodes sections own nodes' sections' own' : ℕ) where
    abbrev Sent : List Field → Type 0
    Sent = Named (λ c. Child nodes' own' (φ c)) (λ s. ψ s < sections')

    role_anew : (r : Role) (v : ℕ) (fs : List Field) → InRange nodes sections own r v → Sent ((r of v) ∷ fs)
        → InRange nodes' sections' own' r (anew φ ψ r v) × Sent fs
    role_anew a_node v fs h s = (s.0.0, (s.0.1, s.1))
    role_anew a_section v fs h s = (s.1.0, (s.0, s.1.1))
    role_anew a_variable v fs h s = (tt, s)
    role_anew a_test v fs h s = (h, s)
    role_anew a_number v fs h s = (h, s)
    role_anew a_wide v fs h s = (h, s)

    all_anew : (fs : List Field) → AllFit nodes sections own fs → Sent fs → AllFit nodes' sections' own' (map (field_anew φ ψ) fs)
    all_anew [] h s = tt
    all_anew (f ∷ fs) h s =
        let q = role_anew f.role f.value fs h.0 s in
        (q.0, all_anew fs h.1 q.1)

    pub ranged_anew : (n : Node) → Ranged nodes sections own n → Every (λ c. Child nodes' own' (φ c)) (children n) → Every (λ s. ψ s < sections') (calls n)
        → Ranged nodes' sections' own' (renumber φ ψ n)
    unfolding children calls
    ranged_anew n h c s = rw (row_renumbered n) (all_anew (row n).body h (c, s))

-- by functions that agree on its children and on the sections that it calls, it is renumbered to the same node
module _ (φ ψ φ' ψ' : ℕ → ℕ) where
  abbrev Agree : List Field → Type 0
  Agree = Named (λ c. φ c ≡ φ' c) (λ s. ψ s ≡ ψ' s)

  role_agrees : (r : Role) (v : ℕ) (fs : List Field) → Agree ((r of v) ∷ fs) → (anew φ ψ r v ≡ anew φ' ψ' r v) × Agree fs
  role_agrees a_node v fs h = (h.0.0, (h.0.1, h.1))
  role_agrees a_section v fs h = (h.1.0, (h.0, h.1.1))
  role_agrees a_variable v fs h = (refl, h)
  role_agrees a_test v fs h = (refl, h)
  role_agrees a_number v fs h = (refl, h)
  role_agrees a_wide v fs h = (refl, h)

  fields_agree : (fs : List Field) → Agree fs → map (field_anew φ ψ) fs ≡ map (field_anew φ' ψ') fs
  fields_agree [] h = refl
  fields_agree (f ∷ fs) h =
      let q = role_agrees f.role f.value fs h in
      ap (λ (v : ℕ). (f.role of v) ∷ map (field_anew φ ψ) fs) q.0 ∙ ap (λ (l : List Field). field_anew φ' ψ' f ∷ l) (fields_agree fs q.1)

  pub renumbered_alike : (n : Node) → Every (λ c. φ c ≡ φ' c) (children n) → Every (λ s. ψ s ≡ ψ' s) (calls n) → renumber φ ψ n ≡ renumber φ' ψ' n
  unfolding renumber children calls
  renumbered_alike n c s = ap (λ (fs : List Field). of_kind (form_of (row n).kind) (values fs)) (fields_agree (row n).body (c, s))

  -- twice is once, by one function behind the other
  role_twice : (r : Role) (v : ℕ) → anew φ' ψ' r (anew φ ψ r v) ≡ anew (λ x. φ' (φ x)) (λ x. ψ' (ψ x)) r v
  role_twice a_node v = refl
  role_twice a_section v = refl
  role_twice a_variable v = refl
  role_twice a_test v = refl
  role_twice a_number v = refl
  role_twice a_wide v = refl

  fields_twice : (fs : List Field) → map (field_anew φ' ψ') (map (field_anew φ ψ) fs) ≡ map (field_anew (λ x. φ' (φ x)) (λ x. ψ' (ψ x))) fs
  fields_twice [] = refl
  fields_twice (f ∷ fs) =
      ap (λ (v : ℕ). (f.role of v) ∷ map (field_anew φ' ψ') (map (field_anew φ ψ) fs)) (role_twice f.role f.value)
      ∙ ap (λ (l : List Field). field_anew (λ x. φ' (φ x)) (λ x. ψ' (ψ x)) f ∷ l) (fields_twice fs)

  pub renumbered_twice : (n : Node) → renumber φ' ψ' (renumber φ ψ n) ≡ renumber (λ x. φ' (φ x)) (λ x. ψ' (ψ x)) n
  renumbered_twice n =
      same_row _ _
      (row_renumbered φ' ψ' (renumber φ ψ n)
      ∙ ap (λ (r : Row). r.kind is map (field_anew φ' ψ') r.body) (row_renumbered φ ψ n)
      ∙ ap (λ (fs : List Field). (row n).kind is fs) (fields_twice (row n).body)
      ∙ sym (row_renumbered (λ x. φ' (φ x)) (λ x. ψ' (ψ x)) n))

-- and by functions that change none of them, it is the node itself
role_still : (r : Role) (v : ℕ) → anew (λ x. x) (λ x. x) r v ≡ v
role_still a_node v = refl
role_still a_section v = refl
role_still a_variable v = refl
role_still a_test v = refl
role_still a_number v = refl
role_still a_wide v = refl

fields_still : (fs : List Field) → map (field_anew (λ x. x) (λ x. x)) fs ≡ fs
fields_still [] = refl
fields_still (f ∷ fs) =
    ap (λ (v : ℕ). (f.role of v) ∷ map (field_anew (λ x. x) (λ x. x)) fs) (role_still f.role f.value)
    ∙ ap (λ (l : List Field). f ∷ l) (fields_still fs)

pub renumbered_same : (n : Node) → renumber (λ x. x) (λ x. x) n ≡ n
unfolding renumber
renumbered_same n = ap (λ (fs : List Field). of_kind (form_of (row n).kind) (values fs)) (fields_still (row n).body) ∙ as_kind n

pub renumbered_still : (φ ψ : ℕ → ℕ) (n : Node) → Every (λ c. φ c ≡ c) (children n) → Every (λ s. ψ s ≡ s) (calls n) → renumber φ ψ n ≡ n
renumbered_still φ ψ n c s = renumbered_alike φ ψ (λ x. x) (λ x. x) n c s ∙ renumbered_same n

-- IN RANGE

module _ (nodes sections own : ℕ) where
  keep_fits : (b : Bool) (q r : Role) (v : ℕ) (xs : List ℕ) → (b ≡ true → q ≡ r) → InRange nodes sections own q v → Every (InRange nodes sections own r) xs
      → Every (InRange nodes sections own r) (keep b v xs)
  keep_fits true q r v xs s h e = (rw (s refl) at h, e)
  keep_fits false q r v xs s h e = e

  -- each number of a node in range is what its role asks
  pub pick_fits : (r : Role) (fs : List Field) → AllFit nodes sections own fs → Every (InRange nodes sections own r) (pick r fs)
  pick_fits r [] h = tt
  pick_fits r (f ∷ fs) h = keep_fits (eqb (place f.role) (place r)) f.role r f.value (pick r fs) (same_role f.role r) h.0 (pick_fits r fs h.1)

  -- so its children are nodes behind it
  pub children_behind : (n : Node) → Ranged nodes sections own n → Every (Child nodes own) (children n)
  unfolding children
  children_behind n h = pick_fits a_node (row n).body h

  pub calls_inside : (n : Node) → Ranged nodes sections own n → Every (λ s. s < sections) (calls n)
  unfolding calls
  calls_inside n h = pick_fits a_section (row n).body h

  role_fits : (r : Role) (v : ℕ) → InRange nodes sections own r v → fits nodes sections own r v ≡ true
  role_fits a_node v h = rw (lt-ltb own v h.above, lt-ltb v nodes h.inside)
  role_fits a_section v h = lt-ltb v sections h
  role_fits a_variable v h = refl
  role_fits a_test v h = le-leb v 6 h
  role_fits a_number v h = le-leb v 65535 h
  role_fits a_wide v h = rw (lt-ltb 65535 v h.0, le-leb v 4294967295 h.1)

  all_fit_lem : (fs : List Field) → AllFit nodes sections own fs → all_fit nodes sections own fs ≡ true
  all_fit_lem [] h = refl
  all_fit_lem (f ∷ fs) h = rw (role_fits f.role f.value h.0) (all_fit_lem fs h.1)

  pub in_range_lem : (n : Node) → Ranged nodes sections own n → node_in_range nodes sections own n ≡ true
  unfolding node_in_range
  in_range_lem n h = all_fit_lem (row n).body h

-- WRITING

role_written : (r : Role) (v : ℕ) (l : List ℕ) → value_of r (λ i. get_or (bytes_of r v ++ l) i 0) ≡ v
role_written a_node v l = refl
role_written a_section v l = refl
role_written a_variable v l = refl
role_written a_test v l = refl
role_written a_number v l = div-add-mod v 256
role_written a_wide v l = rw (div-add-mod (v / 256 / 256) 256, div-add-mod (v / 256) 256) (div-add-mod v 256)

role_length : (r : Role) (v : ℕ) → length (bytes_of r v) ≡ size r
role_length a_node v = refl
role_length a_section v = refl
role_length a_variable v = refl
role_length a_test v = refl
role_length a_number v = refl
role_length a_wide v = refl

body_length : (fs : List Field) → length (body_bytes fs) ≡ sizes (roles fs)
body_length [] = refl
body_length (f ∷ fs) =
    length-append (bytes_of f.role f.value) (body_bytes fs)
    ∙ ap (λ (k : ℕ). k + length (body_bytes fs)) (role_length f.role f.value)
    ∙ ap (λ (k : ℕ). size f.role + k) (body_length fs)

pub written-length : (n : Node) → length (written n) ≡ width n
unfolding written width
written-length n = ap suc (body_length (row n).body)

values_written : (fs : List Field) (l : List ℕ) → values_of (roles fs) (λ i. get_or (body_bytes fs ++ l) i 0) ≡ values fs
values_written [] l = refl
values_written (f ∷ fs) l =
    let b : List ℕ = bytes_of f.role f.value in
    let h : List ℕ = body_bytes fs ++ l in
    let next : (i : ℕ) → get_or (b ++ h) (size f.role + i) 0 ≡ get_or h i 0 =
    λ i. ap (λ (k : ℕ). get_or (b ++ h) (k + i) 0) (sym (role_length f.role f.value)) ∙ get_or-append-add b h i 0 in
    rw append_assoc
    (ap (λ (v : ℕ). v ∷ values_of (roles fs) (λ i. get_or (b ++ h) (size f.role + i) 0)) (role_written f.role f.value h)
    ∙ ap (λ (g : ℕ → ℕ). f.value ∷ values_of (roles fs) g) (fun_ext next)
    ∙ ap (λ (vs : List ℕ). f.value ∷ vs) (values_written fs l))

module _ (n : Node) (l : List ℕ) where
  body_width_lem : body_width (built n).form ≡ length (body_bytes (row n).body)
  unfolding body_width
  body_width_lem = ap sizes (sym (its_roles n)) ∙ sym (body_length (row n).body)

  body_whole : body_width (built n).form ≤ length (body_bytes (row n).body ++ l)
  body_whole = omega (arith, body_width_lem, length-append (body_bytes (row n).body) l)

  body_made : make (built n).form (λ i. get_or (body_bytes (row n).body ++ l) i 0) ≡ n
  unfolding make
  body_made =
      ap (λ (rs : List Role). made (built n).form (values_of rs (λ i. get_or (body_bytes (row n).body ++ l) i 0))) (sym (its_roles n))
      ∙ ap (made (built n).form) (values_written (row n).body l)
      ∙ (built n).node

  -- a record written and read is the node
  pub read_written : node_of (written n ++ l) ≡ n
  unfolding written node_of of_form if_whole
  read_written = rw ((built n).known, le-leb _ _ body_whole) body_made

  pub node_written : (left : ℕ) → read_nodes (suc left) (written n ++ l) ≡ map_result (λ ns. n ∷ ns) (read_nodes left l)
  unfolding written read_nodes or_refuse unless
  node_written left =
      let d : drop (body_width (built n).form) (body_bytes (row n).body ++ l) ≡ l =
      drop_at (body_bytes (row n).body) l (body_width (built n).form) (sym body_width_lem) in
      rw ((built n).known, le-leb _ _ body_whole, body_made, d)

pub nodes_written : (ns : List Node) (left : ℕ) → length ns ≤ left → read_nodes left (all_written ns) ≡ ok ns
unfolding read_nodes map_result
nodes_written [] zero h = refl
nodes_written [] (suc left) h = refl
nodes_written (n ∷ ns) zero h = absurd (omega arith)
nodes_written (n ∷ ns) (suc left) h = node_written n (all_written ns) left ∙ ap (map_result (λ ms. n ∷ ms)) (nodes_written ns left (omega arith))

-- its bytes are bytes, where each number fits its field
every_append : (P : ℕ → Type 0) (xs ys : List ℕ) → Every P xs → Every P ys → Every P (xs ++ ys)
every_append P [] ys a b = b
every_append P (x ∷ xs) ys a b = (a.0, every_append P xs ys a.1 b)

role_bytes : (r : Role) (v : ℕ) → v < limit r → Every (λ b. b < 256) (bytes_of r v)
role_bytes a_node v h = (h, tt)
role_bytes a_section v h = (h, tt)
role_bytes a_variable v h = (h, tt)
role_bytes a_test v h = (h, tt)
role_bytes a_number v h = ((div-lt_iff_lt-mul {k = 256} {x = v} {y = 256} (omega arith)).1 h, (mod-lt v {m = 256} (omega arith), tt))
role_bytes a_wide v h =
    let low : (x : ℕ) → x % 256 < 256 = λ x. mod-lt x {m = 256} (omega arith) in
    (omega arith, (low (v / 256 / 256), (low (v / 256), (low v, tt))))

body_bytes_lem : (fs : List Field) → Small fs → Every (λ b. b < 256) (body_bytes fs)
body_bytes_lem [] h = tt
body_bytes_lem (f ∷ fs) h =
    every_append (λ b. b < 256) (bytes_of f.role f.value) (body_bytes fs) (role_bytes f.role f.value h.0) (body_bytes_lem fs h.1)

none-some : {f : Form} → ◌≡◌ {A = Option Form} none (some f) → ⊥
none-some e = let z : ◌≡◌ {A = ℕ} 0 1 = cc in omega arith

-- a kind is none of a section's or a header's
pub kind_near : (n : Node) → (16 ≤ (row n).kind) × ((row n).kind < past)
kind_near n = (low (dec_lt (row n).kind 16), high (dec_lt (row n).kind past))
  where
    low : Dec ((row n).kind < 16) → 16 ≤ (row n).kind
    low (yes h) = absurd (none-some (sym (no_form (row n).kind (inl h)) ∙ (built n).known))
    low (no h) = omega arith

    high : Dec ((row n).kind < past) → (row n).kind < past
    high (yes h) = h
    high (no h) = absurd (none-some (sym (no_form (row n).kind (inr (omega arith))) ∙ (built n).known))

pub written_bytes : (n : Node) → Small (row n).body → Every (λ b. b < 256) (written n)
unfolding written
written_bytes n h = (omega (arith, (kind_near n).1), body_bytes_lem (row n).body h)

-- A SHEET WRITTEN

no_section : (n : Node) (left : ℕ) (l : List ℕ) (ns : List Node) → read_nodes 200 (written n ++ l) ≡ ok ns → read_records left (written n ++ l) ≡ ok ([], ns)
unfolding written read_records if_section map_result
no_section n zero l ns e = let q : eqb (row n).kind 0x20 ≡ false = ne_eqb (row n).kind 0x20 (λ z. omega (arith, (kind_near n).1)) in rw (q, e)
no_section n (suc left) l ns e = let q : eqb (row n).kind 0x20 ≡ false = ne_eqb (row n).kind 0x20 (λ z. omega (arith, (kind_near n).1)) in rw (q, e)

records_written : (rs : List ℕ) (n : Node) (ns : List Node) (left : ℕ) → length rs ≤ left → length (n ∷ ns) ≤ 200
    → read_records left (roots_written rs (all_written (n ∷ ns))) ≡ ok (rs, n ∷ ns)
unfolding read_records if_section one_section map_result
records_written [] n ns left h few = no_section n left (all_written ns) (n ∷ ns) (nodes_written (n ∷ ns) 200 few)
records_written (r ∷ rs) n ns zero h few = absurd (omega arith)
records_written (r ∷ rs) n ns (suc left) h few = ap (map_result (λ (x : Records). (r ∷ x.0, x.1))) (records_written rs n ns left (omega arith) few)

-- a sheet in range, written and read, is the sheet
pub sheet_written_lem : (sh : Sheet) → 1 ≤ length sh.nodes → length sh.nodes ≤ 200 → length sh.sections ≤ 8 → in_range sh ≡ true
    → read_sheet (sheet_written sh) ≡ ok sh
unfolding read_sheet read_header read_body and_then with_nodes sheet_written unless
sheet_written_lem sh one few secs r = go sh.nodes refl
  where
    go : (ns : List Node) → sh.nodes ≡ ns → read_sheet (sheet_written sh) ≡ ok sh
    go [] e = absurd (omega (arith, ap length e))
    go (n ∷ ns) e = rw (e, records_written sh.sections n ns 8 secs (omega (arith, ap length e)), ← e, r)

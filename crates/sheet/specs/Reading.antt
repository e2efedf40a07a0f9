-- What is known of a sheet whose records were read: where each record stands, and how many there are.
use Rattle.std.specs.Prelude.{◌≡◌, Bool, List, [], ◌∷◌, ℕ, zero, suc, ◌+◌, ◌*◌, ◌≤◌, ◌<◌, leb, eqb, length, get_or, drop}
use Rattle.std.proofs.Math.Path.{refl, fun_ext}
use Rattle.std.proofs.Common.{sym, ap, ◌∙◌, arith, drop-drop, get_or-drop}
use Rattle.std.proofs.Math.Bool.{true, false}
use Rattle.std.proofs.Math.Option.{Option, none, some}
use Rattle.value.specs.Result.{Result, ok, refusal, and_then, map_result, or_refuse, unless}
use Rattle.sheet.specs.Sheet.{Sheet, Records, read_nodes, one_section, if_section, read_records, with_nodes, read_body, in_range, read_header, read_sheet}
use Rattle.node.specs.Kinds.{Form, form_of, body_width, make, width}
use Rattle.node.specs.Decoding.{node_of, node_at, of_form, if_whole}
use Rattle.sheet.specs.Table.{offsets, first_node}
use Rattle.node.specs.Forms.{wide_form}
use Rattle.node.specs.declared.Node.{Node}
use Rattle.node.specs.declared.Node.TheVariants.{False}

-- A RESULT of which P holds, or a refusal of a sheet

pub data Fine {A : Type 0} (P : A → Type 0) : Result A → Type 0 where
  fine : {a : A} → P a → Fine P (ok a)
  refused : {c : ℕ} → 10 ≤ c → Fine P (refusal c)

module _ {A : Type 0} {P : A → Type 0} where
  pub fine_unless : {r : Result A} (c : ℕ) (t : Bool) → 10 ≤ c → (t ≡ true → Fine P r) → Fine P (unless c t r)
  unfolding unless
  fine_unless c true h f = f refl
  fine_unless c false h f = refused h

  pub fine_ok : {r : Result A} {a : A} → Fine P r → r ≡ ok a → P a
  fine_ok {r} {a} (fine {a = b} p) e = let q : b ≡ a = cc in rw q at p
  fine_ok (refused h) e = let z : ◌≡◌ {A = ℕ} 0 1 = cc in absurd (omega arith)

module _ {A B : Type 0} {P : A → Type 0} {Q : B → Type 0} where
  pub fine_map : {r : Result A} (f : A → B) → ((a : A) → P a → Q (f a)) → Fine P r → Fine Q (map_result f r)
  unfolding map_result
  fine_map f g (fine p) = fine (g _ p)
  fine_map f g (refused h) = refused h

  pub fine_then : {r : Result A} (f : A → Result B) → ((a : A) → P a → Fine Q (f a)) → Fine P r → Fine Q (and_then r f)
  unfolding and_then
  fine_then f g (fine p) = g _ p
  fine_then f g (refused h) = refused h

pub fine_or : {A B : Type 0} {Q : B → Type 0} (c : ℕ) (o : Option A) (f : A → Result B) → 10 ≤ c → ((a : A) → o ≡ some a → Fine Q (f a))
    → Fine Q (or_refuse c o f)
unfolding or_refuse
fine_or c none f h g = refused h
fine_or c (some a) f h g = g a refl

-- THE NODE RECORDS

-- the node is made of the bytes from p on, by the form of their kind byte
pub record Made (s : List ℕ) (p : ℕ) (n : Node) : Type 0 where
  pub form : Form
  pub known : form_of (get_or s (p + 0) 0) ≡ some form
  pub node : n ≡ make form (λ i. get_or s (p + suc i) 0)

-- from byte p on, one behind the other
pub data Placed (s : List ℕ) : ℕ → List Node → Type 0 where
  end : {p : ℕ} → Placed s p []
  node : {p : ℕ} {n : Node} {ns : List Node} → node_at s p ≡ n → Made s p n → Placed s (p + width n) ns → Placed s p (n ∷ ns)

pub record NodesRead (s : List ℕ) (p left : ℕ) (ns : List Node) : Type 0 where
  pub placed : Placed s p ns
  pub few : length ns ≤ left

node_here : (s : List ℕ) (p : ℕ) {b : ℕ} {bs : List ℕ} {f : Form} → drop p s ≡ b ∷ bs → form_of b ≡ some f → leb (body_width f) (length bs) ≡ true
    → node_at s p ≡ make f (λ i. get_or bs i 0)
unfolding node_at node_of of_form if_whole
node_here s p e q t = rw (e, q, t)

made_here : (s : List ℕ) (p : ℕ) {b : ℕ} {bs : List ℕ} {f : Form} → drop p s ≡ b ∷ bs → form_of b ≡ some f → Made s p (make f (λ i. get_or bs i 0))
made_here s p {b} {bs} {f} e q = record {
  form = f;
  known = ap form_of (byte 0 ∙ ap (λ (l : List ℕ). get_or l 0 0) e) ∙ q;
  node = ap (make f) (fun_ext λ i. sym (byte (suc i) ∙ ap (λ (l : List ℕ). get_or l (suc i) 0) e));
}
  where
    byte : (i : ℕ) → get_or s (p + i) 0 ≡ get_or (drop p s) i 0
    byte i = sym (get_or-drop p s i 0)

next_here : (s : List ℕ) (p w : ℕ) {b : ℕ} {bs : List ℕ} → drop p s ≡ b ∷ bs → drop (p + suc w) s ≡ drop w bs
next_here s p w e = sym (drop-drop (suc w) p s) ∙ ap (drop (suc w)) e

pub nodes_fine : (left : ℕ) (s : List ℕ) (p : ℕ) (bs : List ℕ) → drop p s ≡ bs → Fine (NodesRead s p left) (read_nodes left bs)
unfolding read_nodes
nodes_fine zero s p [] e = fine (record { placed = end; few = omega arith })
nodes_fine zero s p (b ∷ bs) e = fine_or 10 (form_of b) _ (omega arith) (λ f q. refused (omega arith))
nodes_fine (suc left) s p [] e = fine (record { placed = end; few = omega arith })
nodes_fine (suc left) s p (b ∷ bs) e =
    fine_or 10 (form_of b) _ (omega arith)
    (λ f q.
    fine_unless 11 (leb (body_width f) (length bs)) (omega arith)
    (λ t.
    fine_map _
    (λ ns r.
    let n : width (make f (λ i. get_or bs i 0)) ≡ suc (body_width f) = wide_form b q _ in
    record { placed = node (node_here s p e q t) (made_here s p e q) (rw n r.placed); few = omega (arith, r.few) })
    (nodes_fine left s (p + suc (body_width f)) (drop (body_width f) bs) (next_here s p (body_width f) e))))

-- each node stands where the offsets say
pub placed_at : {s : List ℕ} {p : ℕ} {ns : List Node} → Placed s p ns → (i : ℕ) → i < length ns → node_at s (get_or (offsets p ns) i 0) ≡ get_or ns i False
unfolding offsets
placed_at end i h = absurd (omega arith)
placed_at (node e m r) zero h = e
placed_at (node e m r) (suc i) h = placed_at r i (omega arith)

pub made_at : {s : List ℕ} {p : ℕ} {ns : List Node} → Placed s p ns → (i : ℕ) → i < length ns → Made s (get_or (offsets p ns) i 0) (get_or ns i False)
unfolding offsets
made_at end i h = absurd (omega arith)
made_at (node e m r) zero h = m
made_at (node e m r) (suc i) h = made_at r i (omega arith)

-- THE SECTION RECORDS

-- from byte p on, one behind the other
pub data Rooted (s : List ℕ) : ℕ → List ℕ → Type 0 where
  end : {p : ℕ} → Rooted s p []
  section : {p r : ℕ} {rs : List ℕ} → get_or s (p + 1) 0 ≡ r → Rooted s (p + 2) rs → Rooted s p (r ∷ rs)

pub rooted_at : {s : List ℕ} {p : ℕ} {rs : List ℕ} → Rooted s p rs → (i : ℕ) → i < length rs → get_or s (p + 1 + 2 * i) 0 ≡ get_or rs i 0
rooted_at end i h = absurd (omega arith)
rooted_at {s} {p} (section e r) zero h = ap (λ (j : ℕ). get_or s j 0) (omega arith) ∙ e
rooted_at {s} {p} (section e r) (suc i) h = ap (λ (j : ℕ). get_or s j 0) (omega arith) ∙ rooted_at r i (omega arith)

-- the sections from byte p on, and then the nodes
pub record RecordsRead (s : List ℕ) (p left : ℕ) (x : Records) : Type 0 where
  pub rooted : Rooted s p x.0
  pub few : length x.0 ≤ left
  pub nodes : NodesRead s (p + 2 * length x.0) 200 x.1

-- what goes on where no section record stands
fine_if : (left : ℕ) (s : List ℕ) (p : ℕ) (bs : List ℕ) (t : Bool) {r : Result Records} → drop p s ≡ bs → Fine (RecordsRead s p left) r
    → Fine (RecordsRead s p left) (if_section t r bs)
unfolding if_section
fine_if left s p bs true e f = f
fine_if left s p bs false e f =
    let q : p ≡ p + 2 * 0 = omega arith in
    fine_map _ (λ ns n. record { rooted = end; few = omega arith; nodes = rw q at n }) (nodes_fine 200 s p bs e)

no_records : (left : ℕ) (s : List ℕ) (p : ℕ) → RecordsRead s p left ([], [])
no_records left s p = record { rooted = end; few = omega arith; nodes = record { placed = end; few = omega arith } }

second : (s : List ℕ) (p : ℕ) {b r : ℕ} {bs : List ℕ} → drop p s ≡ b ∷ r ∷ bs → get_or s (p + 1) 0 ≡ r
second s p e = sym (get_or-drop p s 1 0) ∙ ap (λ (l : List ℕ). get_or l 1 0) e

pub records_fine : (left : ℕ) (s : List ℕ) (p : ℕ) (bs : List ℕ) → drop p s ≡ bs → Fine (RecordsRead s p left) (read_records left bs)
unfolding read_records one_section
records_fine zero s p [] e = fine (no_records 0 s p)
records_fine zero s p (b ∷ bs) e = fine_if 0 s p (b ∷ bs) (eqb b 0x20) e (refused (omega arith))
records_fine (suc left) s p [] e = fine (no_records (suc left) s p)
records_fine (suc left) s p (b ∷ []) e = fine_if (suc left) s p (b ∷ []) (eqb b 0x20) e (refused (omega arith))
records_fine (suc left) s p (b ∷ r ∷ bs) e =
    fine_if (suc left) s p (b ∷ r ∷ bs) (eqb b 0x20) e
    (fine_map _
    (λ x f.
    let q : p + 2 + 2 * length x.0 ≡ p + 2 * suc (length x.0) = omega arith in
    record { rooted = section (second s p e) f.rooted; few = omega (arith, f.few); nodes = rw q at f.nodes })
    (records_fine left s (p + 2) bs (next_here s p 1 e)))

-- THE HEADER

pub record HeaderRead (s : List ℕ) (sh : Sheet) : Type 0 where
  pub rooted : Rooted s 3 sh.sections
  pub few_sections : length sh.sections ≤ 8
  pub placed : Placed s (first_node (length sh.sections)) sh.nodes
  pub some_node : 1 ≤ length sh.nodes
  pub few_nodes : length sh.nodes ≤ 200

nodes_there : (s : List ℕ) (k root : ℕ) (x : Records) → RecordsRead s 3 8 x → Fine (HeaderRead s) (with_nodes k root x)
unfolding with_nodes
nodes_there s k root (secs, []) f = refused {c = 14} (omega arith)
nodes_there s k root (secs, n ∷ ns) f =
    fine
    (record {
      rooted = f.rooted;
      few_sections = f.few;
      placed = f.nodes.placed;
      some_node = omega arith;
      few_nodes = f.nodes.few;
    })

body_fine : (b : ℕ) (bs : List ℕ) → Fine (HeaderRead (b ∷ bs)) (read_body bs)
unfolding read_body
body_fine b [] = refused {c = 11} (omega arith)
body_fine b (k ∷ []) = refused {c = 11} (omega arith)
body_fine b (k ∷ root ∷ bs) = fine_then _ (nodes_there (b ∷ k ∷ root ∷ bs) k root) (records_fine 8 (b ∷ k ∷ root ∷ bs) 3 bs refl)

pub header_fine : (s : List ℕ) → Fine (HeaderRead s) (read_header s)
unfolding read_header
header_fine [] = refused {c = 14} (omega arith)
header_fine (b ∷ bs) = fine_unless 10 (eqb b 0x01) (omega arith) (λ t. body_fine b bs)

-- THE SHEET

pub record SheetRead (s : List ℕ) (sh : Sheet) : Type 0 where
  pub header : HeaderRead s sh
  pub ranged : in_range sh ≡ true

pub sheet_fine : (s : List ℕ) → Fine (SheetRead s) (read_sheet s)
unfolding read_sheet
sheet_fine s =
    fine_then _ (λ sh h. fine_unless 13 (in_range sh) (omega arith) (λ t. fine (record { header = h; ranged = t })))
    (header_fine s)

-- Sheets, and how one is read from its bytes (document 01, "Sheet records" and "Where each refusal is met"; docs/SHEETS.md, "Records").
-- A sheet is HOBiT's residual program: a table of residual expressions, its nodes.
use Rattle.std.specs.Prelude.{Bool, true, false, ◌&&◌, List, [], ◌∷◌, ℕ, zero, suc, leb, ltb, eqb, length, get_or, drop}
use Rattle.value.specs.Result.{Result, ok, refusal, and_then, map_result, or_refuse, unless}
use Rattle.node.specs.declared.Node.{Node}
use Rattle.node.specs.Kinds.{form_of, body_width, make, node_in_range}

-- k variables in a plan, the root node, the root node of each section, the nodes
pub record Sheet : Type 0 where
  pub k : ℕ
  pub root : ℕ
  pub sections : List ℕ
  pub nodes : List Node

-- RECORDS: 10 kind unknown or out of its place, then 12 one too many, then 11 record cut

-- the node records, of which `left` more may come
unfoldable pub read_nodes : ℕ → List ℕ → Result (List Node)
read_nodes zero [] = ok []
read_nodes zero (b ∷ bs) = or_refuse 10 (form_of b) λ _. refusal 12
read_nodes (suc left) [] = ok []
read_nodes (suc left) (b ∷ bs) =
    or_refuse 10 (form_of b) λ f. unless 11 (leb (body_width f) (length bs))
    (map_result (λ ns. make f (λ i. get_or bs i 0) ∷ ns) (read_nodes left (drop (body_width f) bs)))

-- the sections' roots, of which `left` more may come, and then the nodes
abbrev pub Records : Type 0
Records = List ℕ × List Node

unfoldable pub one_section : (List ℕ → Result Records) → List ℕ → Result Records
one_section next [] = refusal 11
one_section next (r ∷ bs) = map_result (λ x. (r ∷ x.0, x.1)) (next bs)

unfoldable pub if_section : Bool → Result Records → List ℕ → Result Records
if_section true s bs = s
if_section false s bs = map_result (λ ns. ([], ns)) (read_nodes 200 bs)

unfoldable pub read_records : ℕ → List ℕ → Result Records
read_records zero [] = ok ([], [])
read_records zero (b ∷ bs) = if_section (eqb b 0x20) (refusal 12) (b ∷ bs)
read_records (suc left) [] = ok ([], [])
read_records (suc left) (b ∷ bs) = if_section (eqb b 0x20) (one_section (read_records left) bs) (b ∷ bs)

-- 14 no node
unfoldable pub with_nodes : ℕ → ℕ → Records → Result Sheet
with_nodes k root (secs, []) = refusal 14
with_nodes k root (secs, n ∷ ns) = ok (record { k = k; root = root; sections = secs; nodes = n ∷ ns })

unfoldable pub read_body : List ℕ → Result Sheet
read_body [] = refusal 11
read_body (k ∷ []) = refusal 11
read_body (k ∷ root ∷ bs) = and_then (read_records 8 bs) (with_nodes k root)

-- NUMBERS: 13 k, node, section or test out of range

module _ (nodes sections : ℕ) where
  -- the nodes from number `own` on
  unfoldable pub nodes_in_range : ℕ → List Node → Bool
  nodes_in_range own [] = true
  nodes_in_range own (n ∷ ns) = node_in_range nodes sections own n && nodes_in_range (suc own) ns

unfoldable pub roots_in_range : ℕ → List ℕ → Bool
roots_in_range nodes [] = true
roots_in_range nodes (r ∷ rs) = ltb r nodes && roots_in_range nodes rs

unfoldable pub in_range : Sheet → Bool
in_range sh =
    leb 1 sh.k && leb sh.k 16 && ltb sh.root (length sh.nodes) && roots_in_range (length sh.nodes) sh.sections
    && nodes_in_range (length sh.nodes) (length sh.sections) 0 sh.nodes

-- A SHEET: 14 empty, known at once; the records; their numbers

unfoldable pub read_header : List ℕ → Result Sheet
read_header [] = refusal 14
read_header (b ∷ bs) = unless 10 (eqb b 0x01) (read_body bs)

unfoldable pub read_sheet : List ℕ → Result Sheet
read_sheet bs = and_then (read_header bs) λ sh. unless 13 (in_range sh) (ok sh)

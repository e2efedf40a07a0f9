-- The reason of request 12: two sheets of which one is the other under another numbering are written as the same bytes; and a sheet that is
-- so numbered already is given back as it is.
use Rattle.std.specs.Prelude.{◌≡◌, refl, List, [], ◌∷◌, map, ℕ, suc, ◌+◌, length}
use Rattle.std.proofs.Math.Path.{ap, ap₂}
use Rattle.std.proofs.Common.{sym, ◌∙◌, arith}
use Rattle.std.proofs.Math.Decide.{ℕ_discrete}
use Rattle.value.specs.Result.{ok}
use Rattle.node.specs.Kinds.{children, calls}
use Rattle.sheet.specs.Renumbering.{renumber}
use Rattle.sheet.specs.Sheet.{Sheet, read_sheet}
use Rattle.sheet.specs.Laws.{Ranges, sheet_ranges}
use Rattle.sheet.specs.Rows.{sheet_written}
use Rattle.sheet.proofs.Rows.{renumbered_alike, renumbered_twice}
use Rattle.sheet.proofs.Written.{Bytes, sheet_written_back}
use Rattle.rules.specs.Answer.{count}
use Rattle.rules.specs.Explain.Chain.{◌∈◌, here, there}
use Rattle.rules.specs.Laws.Embedding.{itself}
use Rattle.preorder.specs.Numbering.{gathered, node_of, met_from, roots, order, place_of, new_number, numbered, every_of, in_rest, place_first}
use Rattle.preorder.specs.Numbering.{place_later}
use Rattle.preorder.proofs.Numbering.{roots_in}
use Rattle.preorder.proofs.Numbering.{root_met, children_met, main_met}
use Rattle.preorder.specs.NumberingLaws.{gathered-map}
use Rattle.preorder.proofs.NumberingLaws.{met_held, met_enough, numbered_still}
use Rattle.preorder.specs.NumberAnswer.{done, number_answer}
use Rattle.preorder.proofs.NumberingCalls.{numbered_told}
use Rattle.preorder.specs.OneNumbering.{Redrawn}

in_map : (f : ℕ → ℕ) {n : ℕ} {l : List ℕ} → n ∈ l → f n ∈ map f l
in_map f here = here
in_map f (there e) = there (in_map f e)

map_both : {A : Type 0} (f : ℕ → ℕ) (h h' : ℕ → A) (l : List ℕ) → ((n : ℕ) → n ∈ l → h' (f n) ≡ h n) → map h' (map f l) ≡ map h l
map_both f h h' [] e = refl
map_both f h h' (n ∷ l) e = ap₂ (λ a k. a ∷ k) (e n here) (map_both f h h' l (λ m i. e m (there i)))

-- places do not change where all are sent apart
place_map : (f : ℕ → ℕ) {n : ℕ} (l : List ℕ) → ((a b : ℕ) → a ∈ l → b ∈ l → f a ≡ f b → a ≡ b) → n ∈ l → place_of (map f l) (f n) ≡ place_of l n
place_map f {n = n} [] h e = elim e [ ]
place_map f {n} (m ∷ l) h e = go (λ i. place_map f l (λ a b x y. h a b (there x) (there y)) i) (ℕ_discrete m n)
  where
    go : (n ∈ l → place_of (map f l) (f n) ≡ place_of l n) → Dec (m ≡ n) → place_of (map f (m ∷ l)) (f n) ≡ place_of (m ∷ l) n
    go g (yes q) = place_first (f n) (map f l) (ap f q) ∙ sym (place_first n l q)
    go g (no q) = place_later (map f l) (λ z. q (h m n here e z)) ∙ ap suc (g (in_rest e q)) ∙ sym (place_later l q)

module _ {f : ℕ → ℕ} {sh sh' : Sheet} (r : Ranges sh) (r' : Ranges sh') (d : Redrawn f sh sh') where
  roots_same : roots sh' ≡ map f (roots sh)
  unfolding roots
  roots_same = ap₂ (λ a l. a ∷ l) d.root d.sections

  root_level : (n : ℕ) → n ∈ roots sh → met_from (length sh'.nodes) sh' (f n) ≡ map f (met_from (length sh.nodes) sh n)
  root_level n e =
      let l = length sh.nodes + length sh'.nodes in
      let a = roots_in r e in
      let i : f n ∈ roots sh' = rw roots_same (in_map f e) in
      let b = roots_in r' i in
      met_enough r' (length sh'.nodes) l (f n) b (omega arith) (omega arith)
      ∙ met_held d.held l n (root_met r e) ∙ ap (map f) (met_enough r l (length sh.nodes) n a (omega arith) (omega arith))

  -- the nodes are met in the same order
  pub order_same : order sh' ≡ map f (order sh)
  unfolding order
  order_same = ap (gathered (met_from (length sh'.nodes) sh')) roots_same
      ∙ gathered-map (λ n. n ∈ roots sh) f (met_from (length sh'.nodes) sh') (met_from (length sh.nodes) sh) (roots sh)
      (every_of (λ n. n ∈ roots sh) (roots sh) (λ n i. i)) root_level

  new_same : (n : ℕ) → n ∈ order sh → new_number sh' (f n) ≡ new_number sh n
  unfolding new_number
  new_same n e = ap (λ l. place_of l (f n)) order_same ∙ place_map f (order sh) d.apart e

  node_same : (n : ℕ) → n ∈ order sh → renumber (new_number sh') itself (node_of sh' (f n)) ≡ renumber (new_number sh) itself (node_of sh n)
  node_same n e =
      ap (renumber (new_number sh') itself) (d.held.node n e) ∙ renumbered_twice f itself (new_number sh') itself (node_of sh n)
      ∙ renumbered_alike (λ x. new_number sh' (f x)) itself (new_number sh) itself (node_of sh n)
      (every_of (λ c. new_number sh' (f c) ≡ new_number sh c) (children (node_of sh n)) (λ c i. new_same c (children_met r e i)))
      (every_of (λ i. i ≡ i) (calls (node_of sh n)) (λ i j. refl))

  section_same : (n : ℕ) → n ∈ sh.sections → new_number sh' (f n) ≡ new_number sh n
  unfolding roots
  section_same n e = new_same n (root_met r (there e))

  -- so they are one sheet in the one numbering
  pub numbered_same : numbered sh' ≡ numbered sh
  unfolding numbered
  numbered_same = same (numbered sh') (numbered sh) d.k (ap (new_number sh') d.root ∙ new_same sh.root (main_met r))
      (ap (map (new_number sh')) d.sections ∙ map_both f (new_number sh) (new_number sh') sh.sections section_same)
      (ap (map (λ n. renumber (new_number sh') itself (node_of sh' n))) order_same
      ∙ map_both f (λ n. renumber (new_number sh) itself (node_of sh n)) (λ n. renumber (new_number sh') itself (node_of sh' n)) (order sh) node_same)
    where
      same : (a b : Sheet) → a.k ≡ b.k → a.root ≡ b.root → a.sections ≡ b.sections → a.nodes ≡ b.nodes → a ≡ b
      same a b p q s t = λ i. record { k = p i; root = q i; sections = s i; nodes = t i }

-- OF WHOLE CALLS

read_one : (s : List ℕ) {sh sh' : Sheet} → read_sheet s ≡ ok sh → read_sheet s ≡ ok sh' → sh ≡ sh'
read_one s e q = cc

-- two people who draw one sheet get one file
pub one_file : (s s' : List ℕ) (n n' : ℕ) {f : ℕ → ℕ} {sh sh' : Sheet} {t t' : List ℕ} → read_sheet s ≡ ok sh → read_sheet s' ≡ ok sh' → Redrawn f sh sh'
    → number_answer s n ≡ done t → number_answer s' n' ≡ done t' → t ≡ t'
one_file s s' n n' e e' d a a' =
    let h = numbered_told s n a in
    let h' = numbered_told s' n' a' in
    h.written ∙ ap (λ x. sheet_written (numbered x)) (read_one s h.read e) ∙ sym (ap sheet_written (numbered_same (sheet_ranges s e) (sheet_ranges s' e') d))
    ∙ sym (h'.written ∙ ap (λ x. sheet_written (numbered x)) (read_one s' h'.read e'))

-- a sheet whose nodes are met in the order of their numbers, none of them left out, is given back byte for byte
pub given_back : (s : List ℕ) (n : ℕ) {sh : Sheet} {t : List ℕ} → Bytes s → read_sheet s ≡ ok sh → order sh ≡ count 0 (length sh.nodes)
    → number_answer s n ≡ done t → t ≡ s
given_back s n small e o a =
    let h = numbered_told s n a in
    h.written ∙ ap (λ x. sheet_written (numbered x)) (read_one s h.read e) ∙ ap sheet_written (numbered_still (sheet_ranges s e) o)
    ∙ sheet_written_back s small e

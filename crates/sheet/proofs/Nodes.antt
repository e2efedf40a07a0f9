-- The pass over the node records, as far as it has come.
use mathlib.Core.Path.{◌≡◌, refl, sym, ap, ◌∙◌}
use mathlib.Core.Option.{Option, none, some}
use mathlib.Core.List.{List, [], ◌∷◌, ◌++◌, append_assoc, append-nil}
use Prim.Native.Nat.{ℕ, zero, suc, ◌+◌, ◌*◌, ◌-◌, ◌≤◌, ◌<◌}
use native.Mathlib.Omega.{arith}
use lib.ListN.{length, get_or, drop, set, replicate, length-append, length-drop, drop_of_length-le}
use lib.Seq.{drop-drop, set_at}
use borrow.Author.Tests.{le-leb, lt-leb}
use Rattle.value.specs.Result.{Result, ok, refusal, and_then, map_result, or_refuse, unless}
use Rattle.sheet.specs.Sheet.{read_nodes, with_nodes}
use Rattle.node.specs.Kinds.{Form, form_of, body_width, make, width}
use Rattle.node.specs.Decoding.{kind_width, form_width}
use Rattle.sheet.specs.Table.{offsets, first_node, padded, table_of, NodesTable}
use Rattle.node.specs.Forms.{form_told, wide_form}
use Rattle.node.specs.Places.{rest_begins}
use Rattle.sheet.specs.Laws.{length-offsets}
use Rattle.node.specs.declared.Node.{Node}

-- ONE RECORD, of which `left` may come

-- the kind of a record whose width is not 0
pub record Known (b : ℕ) : Type 0 where
  pub form : Form
  pub is : form_of b ≡ some form
  pub wide : kind_width b ≡ suc (body_width form)

known_form : (o : Option Form) → (form_width o ≡ 0 → ⊥) → (f : Form) × (o ≡ some f)
unfolding form_width
known_form none h = absurd (h refl)
known_form (some f) h = (f, refl)

pub known : (b : ℕ) → (kind_width b ≡ 0 → ⊥) → Known b
unfolding kind_width form_width
known b h =
    let p = known_form (form_of b) h in
    record { form = p.0; is = p.1; wide = ap form_width p.1 }

unknown_form : (o : Option Form) → form_width o ≡ 0 → o ≡ none
unfolding form_width
unknown_form none h = refl
unknown_form (some f) h = absurd (omega arith)

module _ (s : List ℕ) (at : ℕ) (h : at < length s) where
  abbrev pub node_of : Form → Node
  node_of f = make f (λ i. get_or (drop (at + 1) s) i 0)

  pub unknown_first : (left : ℕ) → kind_width (get_or s at 0) ≡ 0 → read_nodes left (drop at s) ≡ refusal 10
  unfolding read_nodes or_refuse kind_width
  unknown_first zero e = rw (rest_begins s at h, unknown_form (form_of (get_or s at 0)) e)
  unknown_first (suc left) e = rw (rest_begins s at h, unknown_form (form_of (get_or s at 0)) e)

  module _ (f : Known (get_or s at 0)) where
    pub no_more : read_nodes 0 (drop at s) ≡ refusal 12
    unfolding read_nodes or_refuse
    no_more = rw (rest_begins s at h, f.is)

    pub cut_first : (left : ℕ) → length s - at < kind_width (get_or s at 0) → read_nodes (suc left) (drop at s) ≡ refusal 11
    unfolding read_nodes or_refuse unless
    cut_first left c =
        let l : length (drop (at + 1) s) < body_width f.form = simp length-drop (omega (arith, f.wide)) in
        rw (rest_begins s at h, f.is, lt-leb _ _ l)

    pub first_read : (left : ℕ) → kind_width (get_or s at 0) ≤ length s - at
        → read_nodes (suc left) (drop at s) ≡ map_result (λ ns. node_of f.form ∷ ns) (read_nodes left (drop (at + kind_width (get_or s at 0)) s))
    unfolding read_nodes or_refuse unless
    first_read left c =
        let l : body_width f.form ≤ length (drop (at + 1) s) = simp length-drop (omega (arith, f.wide)) in
        let q : at + 1 + body_width f.form ≡ at + kind_width (get_or s at 0) = omega (arith, f.wide) in
        let d : drop (body_width f.form) (drop (at + 1) s) ≡ drop (at + kind_width (get_or s at 0)) s =
        drop-drop (body_width f.form) (at + 1) s ∙ ap (λ (i : ℕ). drop i s) q in
        rw (rest_begins s at h, f.is, le-leb _ _ l, d)

pub read_end : (left : ℕ) → read_nodes left [] ≡ ok []
unfolding read_nodes
read_end zero = refl
read_end (suc left) = refl

-- THE PASS: n records behind byte `from` are read, the next one starts at `at`

-- where the record behind these nodes starts
pub after : ℕ → List Node → ℕ
after p [] = p
after p (n ∷ ns) = after (p + width n) ns

pub record Run (s : List ℕ) (from n at : ℕ) (starts : List ℕ) : Type 0 where
  pub nodes : List Node
  pub many : length nodes ≡ n
  pub few : n ≤ 200
  pub near : at ≤ from + 8 * n
  pub place : after from nodes ≡ at
  pub filled : starts ≡ offsets from nodes ++ replicate (200 - n) 0
  pub rest : read_nodes 200 (drop from s) ≡ map_result (λ ns. nodes ++ ns) (read_nodes (200 - n) (drop at s))

same_result : (r : Result (List Node)) → r ≡ map_result (λ ns. [] ++ ns) r
unfolding map_result
same_result (ok ns) = refl
same_result (refusal c) = refl

pub run_none : (s : List ℕ) (from : ℕ) → Run s from 0 from (replicate 200 0)
unfolding after offsets
run_none s from =
    record {
      nodes = [];
      many = refl;
      few = omega arith;
      near = omega arith;
      place = refl;
      filled = refl;
      rest = same_result (read_nodes 200 (drop from s));
    }

one_more : (ns : List Node) (m : Node) (r : Result (List Node)) → map_result (λ x. ns ++ x) (map_result (λ x. m ∷ x) r) ≡ map_result (λ x. (ns ++ m ∷ []) ++ x)
    r
unfolding map_result
one_more ns m (ok x) = ap ok (sym (append_assoc ns (m ∷ []) x))
one_more ns m (refusal c) = refl

after_more : (p : ℕ) (ns : List Node) (m : Node) → after p (ns ++ m ∷ []) ≡ after p ns + width m
unfolding after
after_more p [] m = refl
after_more p (n ∷ ns) m = after_more (p + width n) ns m

offsets_more : (p : ℕ) (ns : List Node) (m : Node) → offsets p (ns ++ m ∷ []) ≡ offsets p ns ++ after p ns ∷ []
unfolding offsets after
offsets_more p [] m = refl
offsets_more p (n ∷ ns) m = ap (λ (l : List ℕ). p ∷ l) (offsets_more (p + width n) ns m)

module _ {s : List ℕ} {from n at : ℕ} {starts : List ℕ} (run : Run s from n at starts) where
  pub run_refused : {c : ℕ} → read_nodes (200 - n) (drop at s) ≡ refusal c → read_nodes 200 (drop from s) ≡ refusal c
  unfolding map_result
  run_refused e = rw (run.rest, e)

  pub run_end : length s ≤ at → read_nodes 200 (drop from s) ≡ ok run.nodes
  unfolding map_result
  run_end h = rw (run.rest, drop_of_length-le s h, read_end (200 - n)) (ap ok (append-nil run.nodes))

  -- one record more
  run_step : (m : Node) (w : ℕ) → width m ≡ w → w ≤ 8 → n < 200
      → read_nodes (suc (200 - (n + 1))) (drop at s) ≡ map_result (λ ns. m ∷ ns) (read_nodes (200 - (n + 1)) (drop (at + w) s))
      → Run s from (n + 1) (at + w) (set starts n at)
  run_step m w e small l r =
      let left : 200 - n ≡ suc (200 - (n + 1)) = omega arith in
      let o : offsets from (run.nodes ++ m ∷ []) ≡ offsets from run.nodes ++ at ∷ [] = rw run.place at (offsets_more from run.nodes m) in
      let z : List ℕ = replicate (200 - (n + 1)) 0 in
      record {
        nodes = run.nodes ++ m ∷ [];
        many = simp length-append (omega (arith, run.many));
        few = omega arith;
        near = omega (arith, run.near);
        place = rw (run.place, e) at (after_more from run.nodes m);
        filled =
            ap (λ (l : List ℕ). set l n at) (rw left at run.filled)
            ∙ set_at (offsets from run.nodes) 0 z at n (length-offsets from run.nodes ∙ run.many)
            ∙ sym (ap (λ (l : List ℕ). l ++ z) o ∙ append_assoc (offsets from run.nodes) (at ∷ []) z);
        rest = rw (left, r) at run.rest ∙ one_more run.nodes m (read_nodes (200 - (n + 1)) (drop (at + w) s));
      }

  -- the next record, which is w bytes wide
  module _ {w : ℕ} (e : w ≡ kind_width (get_or s at 0)) (h : at < length s) where
    pub run_unknown : w ≡ 0 → read_nodes 200 (drop from s) ≡ refusal 10
    run_unknown z = run_refused (unknown_first s at h (200 - n) (sym e ∙ z))

    module _ (z : w ≡ 0 → ⊥) where
      its_kind : Known (get_or s at 0)
      its_kind = known (get_or s at 0) (λ k. z (e ∙ k))

      pub run_full : n ≡ 200 → read_nodes 200 (drop from s) ≡ refusal 12
      run_full m =
          let q : 200 - n ≡ 0 = omega arith in
          run_refused (rw q (no_more s at h its_kind))

      module _ (l : (n ≡ 200 → ⊥)) where
        few_yet : n < 200
        few_yet = omega (arith, run.few)

        pub run_cut : length s - at < w → read_nodes 200 (drop from s) ≡ refusal 11
        run_cut m =
            let q : 200 - n ≡ suc (200 - (n + 1)) = omega (arith, few_yet) in
            run_refused (rw q (cut_first s at h its_kind (200 - (n + 1)) (omega arith)))

        pub run_more : w ≤ length s - at → Run s from (n + 1) (at + w) (set starts n at)
        run_more m =
            let v = form_told (get_or s at 0) its_kind.is in
            rw e
            (run_step (node_of s at h its_kind.form) (kind_width (get_or s at 0)) (wide_form (get_or s at 0) its_kind.is _ ∙ sym its_kind.wide)
            (omega (arith, its_kind.wide, v.small)) few_yet (first_read s at h its_kind (200 - (n + 1)) (omega arith)))

-- THE TABLE that comes of it

module _ (s : List ℕ) (k root sections : ℕ) where
  pub refused_table : {c : ℕ} → read_nodes 200 (drop (first_node sections) s) ≡ refusal c → NodesTable s k root sections (refusal c)
  unfolding and_then map_result
  refused_table r secs l = rw r

  no_node_table : (ns : List Node) → length ns ≡ 0 → read_nodes 200 (drop (first_node sections) s) ≡ ok ns
      → NodesTable s k root sections (refusal 14)
  unfolding and_then map_result with_nodes
  no_node_table [] z r secs l = rw r
  no_node_table (n ∷ ns) z r secs l = absurd (omega arith)

  node_table : {n : ℕ} {starts : List ℕ} (ns : List Node) → length ns ≡ n → (n ≡ 0 → ⊥) → starts ≡ offsets (first_node sections) ns ++ replicate (200 - n) 0
      → read_nodes 200 (drop (first_node sections) s) ≡ ok ns
      → NodesTable s k root sections (ok (record { k = k; root = root; sections = sections; nodes = n; starts = starts }))
  unfolding and_then map_result with_nodes table_of
  node_table [] m z f r secs l = absurd (z (sym m))
  node_table {n} {starts} (d ∷ ds) m z f r secs l =
      let o : List ℕ = offsets (first_node sections) (d ∷ ds) in
      let q : starts ≡ padded o = f ∙ ap (λ (i : ℕ). o ++ replicate (200 - i) 0) (sym (length-offsets (first_node sections) (d ∷ ds) ∙ m)) in
      rw (r, q, ← m, ← l)

module _ {s : List ℕ} {sections n at : ℕ} {starts : List ℕ} (k root : ℕ) (run : Run s (first_node sections) n at starts) (h : length s ≤ at) where
  pub run_none_table : n ≡ 0 → NodesTable s k root sections (refusal 14)
  run_none_table z = no_node_table s k root sections run.nodes (run.many ∙ z) (run_end run h)

  pub run_table : (n ≡ 0 → ⊥) → NodesTable s k root sections (ok (record { k = k; root = root; sections = sections; nodes = n; starts = starts }))
  run_table z = node_table s k root sections run.nodes run.many z run.filled (run_end run h)

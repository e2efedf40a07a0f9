-- The pass over the section records, as far as it has come.
use mathlib.Core.Path.{◌≡◌, refl, sym, ap, ◌∙◌}
use mathlib.Core.List.{List, [], ◌∷◌, ◌++◌, append_assoc, append-nil}
use Prim.Native.Nat.{ℕ, zero, suc, ◌+◌, ◌-◌, ◌≤◌, ◌<◌}
use native.Mathlib.Omega.{arith}
use lib.ListN.{length, get_or, drop, length-append, drop_of_length-le}
use lib.Dec.{eqb}
use borrow.Author.Tests.{eq-eqb, ne_eqb}
use Rattle.value.specs.Result.{Result, ok, refusal, and_then, map_result, unless}
use Rattle.sheet.specs.Sheet.{Records, read_nodes, one_section, if_section, read_records, with_nodes, read_body, read_header}
use Rattle.sheet.specs.Table.{first_node, table_of, NodesTable}
use Rattle.node.specs.Places.{rest_begins}
use Rattle.node.specs.declared.Node.{Node}
use Rattle.sheet.specs.declared.Table.{Table}

-- these roots, before those that follow
abbrev pub with_roots : List ℕ → Records → Records
with_roots rs x = (rs ++ x.0, x.1)

abbrev with_root : ℕ → Records → Records
with_root r x = (r ∷ x.0, x.1)

abbrev pub only_roots : List ℕ → List Node → Records
only_roots rs ns = (rs, ns)

-- ONE RECORD, of which `left` may come

module _ (s : List ℕ) (at : ℕ) (h : at < length s) where
  pub no_section : (left : ℕ) → (get_or s at 0 ≡ 0x20 → ⊥) → read_records left (drop at s) ≡ map_result (only_roots []) (read_nodes 200 (drop at s))
  unfolding read_records if_section
  no_section zero e = rw (rest_begins s at h, ne_eqb _ 0x20 e)
  no_section (suc left) e = rw (rest_begins s at h, ne_eqb _ 0x20 e)

  module _ (e : get_or s at 0 ≡ 0x20) where
    pub full : read_records 0 (drop at s) ≡ refusal 12
    unfolding read_records if_section
    full = rw (rest_begins s at h, eq-eqb _ 0x20 e)

    pub cut : (left : ℕ) → length s ≤ at + 1 → read_records (suc left) (drop at s) ≡ refusal 11
    unfolding read_records if_section one_section
    cut left l = rw (rest_begins s at h, eq-eqb _ 0x20 e, drop_of_length-le s l)

    pub one : (left : ℕ) → at + 1 < length s
        → read_records (suc left) (drop at s) ≡ map_result (with_root (get_or s (at + 1) 0)) (read_records left (drop (at + 2) s))
    unfolding read_records if_section one_section
    one left l =
        let q : at + 1 + 1 ≡ at + 2 = omega arith in
        rw (rest_begins s at h, eq-eqb _ 0x20 e, rest_begins s (at + 1) l, q)

none_left : (left : ℕ) → read_records left [] ≡ ok ([], [])
unfolding read_records
none_left zero = refl
none_left (suc left) = refl

-- THE PASS: n sections are read, the next record starts at `at`

pub record Run (s : List ℕ) (n at : ℕ) : Type 0 where
  pub roots : List ℕ
  pub many : length roots ≡ n
  pub few : n ≤ 8
  pub place : at ≡ first_node n
  pub rest : read_records 8 (drop 3 s) ≡ map_result (with_roots roots) (read_records (8 - n) (drop at s))

same_result : (r : Result Records) → r ≡ map_result (with_roots []) r
unfolding map_result
same_result (ok x) = refl
same_result (refusal c) = refl

pub run_none : (s : List ℕ) → Run s 0 3
run_none s = record { roots = []; many = refl; few = omega arith; place = refl; rest = same_result (read_records 8 (drop 3 s)) }

one_more : (rs : List ℕ) (r : ℕ) (x : Result Records) → map_result (with_roots rs) (map_result (with_root r) x) ≡ map_result (with_roots (rs ++ r ∷ [])) x
unfolding map_result
one_more rs r (ok x) = ap (λ (l : List ℕ). ok (l, x.1)) (sym (append_assoc rs (r ∷ []) x.0))
one_more rs r (refusal c) = refl

these_roots : (rs : List ℕ) (r : Result (List Node)) → map_result (with_roots rs) (map_result (only_roots []) r) ≡ map_result (only_roots rs) r
unfolding map_result
these_roots rs (ok ns) = ap (λ (l : List ℕ). ok (l, ns)) (append-nil rs)
these_roots rs (refusal c) = refl

module _ {s : List ℕ} {n at : ℕ} (run : Run s n at) where
  run_refused : {c : ℕ} → read_records (8 - n) (drop at s) ≡ refusal c → read_records 8 (drop 3 s) ≡ refusal c
  unfolding map_result
  run_refused e = rw (run.rest, e)

  pub run_end : length s ≤ at → read_records 8 (drop 3 s) ≡ ok (run.roots, [])
  unfolding map_result
  run_end h = rw (run.rest, drop_of_length-le s h, none_left (8 - n)) (ap (λ (l : List ℕ). ok (l, [])) (append-nil run.roots))

  module _ (h : at < length s) where
    pub run_nodes : (get_or s at 0 ≡ 0x20 → ⊥) → read_records 8 (drop 3 s) ≡ map_result (only_roots run.roots) (read_nodes 200 (drop (first_node n) s))
    run_nodes e = rw (run.rest, no_section s at h (8 - n) e, these_roots, run.place)

    module _ (e : get_or s at 0 ≡ 0x20) where
      pub run_full : n ≡ 8 → read_records 8 (drop 3 s) ≡ refusal 12
      run_full m =
          let q : 8 - n ≡ 0 = omega arith in
          run_refused (rw q (full s at h e))

      module _ (m : (n ≡ 8 → ⊥)) where
        left : 8 - n ≡ suc (8 - (n + 1))
        left = omega (arith, run.few)

        pub run_cut : length s - at ≡ 1 → read_records 8 (drop 3 s) ≡ refusal 11
        run_cut l = run_refused (rw left (cut s at h e (8 - (n + 1)) (omega arith)))

        pub run_more : (length s - at ≡ 1 → ⊥) → Run s (n + 1) (at + 2)
        run_more l =
            let r : ℕ = get_or s (at + 1) 0 in
            record {
              roots = run.roots ++ r ∷ [];
              many = simp length-append (omega (arith, run.many));
              few = omega (arith, run.few);
              place = omega (arith, run.place);
              rest =
                  rw (left, one s at h e (8 - (n + 1)) (omega arith)) at run.rest
                  ∙ one_more run.roots r (read_records (8 - (n + 1)) (drop (at + 2) s));
            }

-- THE TABLE that comes of it, where the header gives k and root

pub record Header (s : List ℕ) (k root : ℕ) : Type 0 where
  pub body : read_body (drop 1 s) ≡ and_then (read_records 8 (drop 3 s)) (with_nodes k root)

pub whole_header : (s : List ℕ) {k root : ℕ} → 3 ≤ length s → k ≡ get_or s 1 0 → root ≡ get_or s 2 0 → Header s k root
unfolding read_body
whole_header [] h p q = absurd (omega arith)
whole_header (b ∷ []) h p q = absurd (omega arith)
whole_header (b ∷ c ∷ []) h p q = absurd (omega arith)
whole_header (b ∷ c ∷ d ∷ bs) h p q = record { body = rw (p, q) }

module _ {s : List ℕ} {k root : ℕ} (h : Header s k root) where
  pub refused_table : {c : ℕ} → read_records 8 (drop 3 s) ≡ refusal c → refusal c ≡ map_result table_of (read_body (drop 1 s))
  unfolding and_then map_result
  refused_table r = rw (h.body, r)

  module _ {n at : ℕ} (run : Run s n at) where
    pub none_table : length s ≤ at → refusal 14 ≡ map_result table_of (read_body (drop 1 s))
    unfolding and_then with_nodes map_result
    none_table l = rw (h.body, run_end run l)

    pub nodes_table : at < length s → (get_or s at 0 ≡ 0x20 → ⊥) → {r : Result Table} → NodesTable s k root n r
        → r ≡ map_result table_of (read_body (drop 1 s))
    nodes_table l z e = rw (h.body, run_nodes run l z) (e run.roots run.many)

-- THE HEADER

pub header_none : (s : List ℕ) → length s ≡ 0 → read_header s ≡ refusal 14
unfolding read_header
header_none [] h = refl
header_none (b ∷ bs) h = absurd (omega arith)

first_byte : (s : List ℕ) → (length s ≡ 0 → ⊥) → read_header s ≡ unless 10 (eqb (get_or s 0 0) 0x01) (read_body (drop 1 s))
unfolding read_header
first_byte [] h = absurd (h refl)
first_byte (b ∷ bs) h = refl

cut_body : (s : List ℕ) → length s < 3 → read_body (drop 1 s) ≡ refusal 11
unfolding read_body
cut_body [] h = refl
cut_body (b ∷ []) h = refl
cut_body (b ∷ k ∷ []) h = refl
cut_body (b ∷ k ∷ r ∷ bs) h = absurd (omega arith)

module _ (s : List ℕ) (h : (length s ≡ 0 → ⊥)) where
  pub header_kind : (get_or s 0 0 ≡ 0x01 → ⊥) → read_header s ≡ refusal 10
  unfolding unless
  header_kind e = rw (first_byte s h, ne_eqb _ 0x01 e)

  module _ (e : get_or s 0 0 ≡ 0x01) where
    pub header_body : read_header s ≡ read_body (drop 1 s)
    unfolding unless
    header_body = rw (first_byte s h, eq-eqb _ 0x01 e)

    pub header_cut : length s < 3 → read_header s ≡ refusal 11
    header_cut l = header_body ∙ cut_body s l

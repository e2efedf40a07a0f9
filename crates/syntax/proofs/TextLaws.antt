-- THE LAW, in tokens: the tokens that are printed of a sheet that request 12's writer takes are read as the sheet that it writes.
use Rattle.std.specs.Prelude.{◌≡◌, Bool, true, get_or, drop}
use Rattle.std.proofs.Math.Path.{refl, sym, ap}
use Rattle.std.proofs.Common.{◌∙◌, add-zero}
use Rattle.std.proofs.Math.Bool.{false}
use Rattle.std.proofs.Math.Option.{Option, some}
use mathlib.Core.List.{List, [], ◌∷◌, ◌++◌, map, map-append}
use Prim.Native.Nat.{ℕ, zero, suc, pred, ◌+◌, ◌≤◌, ◌<◌}
use Rattle.std.proofs.Math.Nat.{zero-add}
use native.Mathlib.Omega.{arith}
use Rattle.std.proofs.Math.ListN.{length, length-append}
use Rattle.std.proofs.lemmas.List.{length-map}
use Rattle.node.specs.declared.Node.{Node}
use Rattle.node.specs.Kinds.{row, children}
use Rattle.sheet.specs.Sheet.{Sheet}
use Rattle.sheet.specs.Laws.{Ranges, Child}
use Rattle.sheet.specs.Rows.{Small, Every}
use Rattle.rules.specs.Answer.{count}
use Rattle.rules.specs.Laws.Embedding.{itself}
use Rattle.sheet.proofs.Ranging.{children_in}
use Rattle.preorder.specs.Numbering.{gathered, node_of, met_from, roots, order, new_number, numbered}
use Rattle.preorder.specs.NumberingLaws.{Once, uses}
use Rattle.preorder.proofs.NumberingLaws.{order_short, places_count}
use Rattle.tokens.specs.Quoted.{bytes}
use Rattle.tokens.specs.Tokens.{word, mark, first, rest, word_of, mark_of, same}
use Rattle.syntax.specs.Reader.{Out, ok, Name, find, symbol, keyword, read, plan, Sections}
use Rattle.syntax.specs.Reader.{unknown, section, sections, text_of_tokens, sheet_of_tokens}
use Rattle.syntax.specs.Printer.{Piece, gap, sign, unless_plain, tokens_in, part_name, Reach, reach, called, TailOf, a_front, the_end}
use Rattle.syntax.specs.Printer.{another, tail_of, Speaker, tailed, alone, plain_node, said, plan_said, sections_said, sheet_said}
use Rattle.syntax.specs.NameLaws.{part_apart, stack, stack-length, find_in, find_new}
use Rattle.syntax.specs.ReadLaws.{then, keyword_read, quiet, bind_read, section_named}
use Rattle.syntax.specs.ReadLaws.{opens}
use Rattle.syntax.proofs.ReadLaws.{anew, met, Ready, AllReady}
use Rattle.syntax.proofs.ReadLaws.{read_node, read_tail}
use Rattle.syntax.specs.TextLaws.{Numbers}

numbers_front : (ρ : ℕ → ℕ) (m : ℕ) (xs ys : List ℕ) → Numbers ρ m (xs ++ ys) → Numbers ρ m xs
numbers_front ρ m [] ys h = tt
numbers_front ρ m (x ∷ xs) ys h = (h.0, numbers_front ρ (suc m) xs ys h.1)

numbers_behind : (ρ : ℕ → ℕ) (m : ℕ) (xs ys : List ℕ) → Numbers ρ m (xs ++ ys) → Numbers ρ (m + length xs) ys
numbers_behind ρ m [] ys h = rw add-zero h
numbers_behind ρ m (x ∷ xs) ys h = let e : suc m + length xs ≡ m + suc (length xs) = omega arith in rw e at (numbers_behind ρ (suc m) xs ys h.1)

numbers_of : (ρ : ℕ → ℕ) (m : ℕ) (ns : List ℕ) → map ρ ns ≡ count m (length ns) → Numbers ρ m ns
unfolding count
numbers_of ρ m [] e = tt
numbers_of ρ m (n ∷ ns) e = (ap (λ (l : List ℕ). get_or l 0 0) e, numbers_of ρ (suc m) ns (ap (drop 1) e))

tail_quiet : (say : Speaker) (plain : ℕ → Bool) (p q : Bool) (r : Reach) (i : ℕ) {n : Node} (t : TailOf n) (k : List Piece)
    → quiet (tokens_in (tailed say plain p q r i t k)) ≡ true
unfolding tailed tokens_in first mark_of same
tail_quiet say plain p q r i a_front k = refl
tail_quiet say plain p q r i the_end k = refl
tail_quiet say plain p q r i another k = refl

module _ {sh : Sheet} (r : Ranges sh) (smalls : (n : ℕ) → n < length sh.nodes → Small (row (node_of sh n)).body) (ρ ψ : ℕ → ℕ) (resolve : Name → Option ℕ)
    (resolved : (i : ℕ) → i < length sh.sections → resolve (part_name i) ≡ some (ψ i)) where
  abbrev N : ℕ
  N = length sh.nodes

  abbrev Fine : (l f : ℕ) → Type 0
  Fine l f = (m n : ℕ) → n < N → N ≤ n + l → Numbers ρ m (met_from l sh n) → m + length (met_from l sh n) ≤ 200 → Ready sh ρ ψ resolve l f m n

  kids_ready : (l f m own : ℕ) → Fine l f → N ≤ suc own + l → (ns : List ℕ) → Every (Child N own) ns → Numbers ρ m (gathered (met_from l sh) ns)
      → m + length (gathered (met_from l sh) ns) ≤ 200 → AllReady sh ρ ψ resolve l f m ns
  kids_ready l f m own ih deep [] c h b = tt
  kids_ready l f m own ih deep (n ∷ ns) c h b =
      let e = length-append (met_from l sh n) (gathered (met_from l sh) ns) in
      let z = c.0 in (
        ih m n z.inside (omega arith) (numbers_front ρ m (met_from l sh n) (gathered (met_from l sh) ns) h) (omega arith),
        rw (length-map (met_from l sh n))
            (kids_ready l f (m + length (met_from l sh n)) own ih deep ns c.1 (numbers_behind ρ m (met_from l sh n) (gathered (met_from l sh) ns) h)
            (omega arith)),
      )

  pub all_ready : (l f : ℕ) → l ≤ f → Fine l f
  unfolding met_from read said tokens_in first mark_of same
  all_ready zero f le m n h deep i b = absurd (omega arith)
  all_ready (suc l) zero le m n h deep i b = absurd (omega arith)
  all_ready (suc l) (suc f) le m n h deep i b =
      ready (kids_ready l f (suc m) n (all_ready l f (omega arith)) (omega arith) (children (node_of sh n)) (children_in r n h) i.1 (omega arith))
    where
      ready : AllReady sh ρ ψ resolve l f (suc m) (children (node_of sh n)) → Ready sh ρ ψ resolve (suc l) (suc f) m n
      ready c = record {
        number = i.0;
        whole = λ s j lost k q.
            read_node sh ρ ψ resolve l f m (omega arith) (plain_node sh n) s j lost k n N (length sh.sections) (node_of sh n) (r.node n h)
            (smalls n h) resolved c q;
        tail = λ p s j lost k. read_tail sh ρ ψ resolve l f m (omega arith) p s j lost k (plain_node sh n) (tail_of (node_of sh n)) c
            (read_node sh ρ ψ resolve l f m (omega arith) (plain_node sh n) s (j + 2) lost (gap (unless_plain p) ∷ sign (bytes "]") ∷ k) n N
            (length sh.sections)
            (node_of sh n) (r.node n h) (smalls n h) resolved c refl);
        opens = λ s j k. opens (said sh l) (plain_node sh) (plain_node sh n) s j (node_of sh n) k;
        quiets = λ p s j k. tail_quiet (said sh l) (plain_node sh) p (plain_node sh n) s j (tail_of (node_of sh n)) k;
      }

  -- THE SECTIONS

  sections_quiet : (i : ℕ) (ns : List ℕ) → quiet (tokens_in (sections_said sh i ns)) ≡ true
  unfolding sections_said tokens_in first mark_of same
  sections_quiet i [] = refl
  sections_quiet i (n ∷ ns) = refl

  abbrev found : ℕ → ℕ → List ℕ → Sections
  found i m ns = record { names = stack part_name (i + length ns); roots = map ρ ns; nodes = map (anew sh ρ ψ resolve) (gathered (met_from N sh) ns) }

  section_read : (i m n : ℕ) (k : List Piece) → Ready sh ρ ψ resolve N 200 m n → quiet (tokens_in k) ≡ true
      → section resolve (stack part_name i) m
      (word (part_name i) ∷ mark (bytes "(") ∷ word (called false 0) ∷ mark (bytes ",") ∷ word (called false 1) ∷ mark (bytes ")") ∷ mark (bytes "=")
      ∷ tokens_in (said sh N alone (reach 2 false) 2 n k))
      ≡ ok ((part_name i, met sh ρ ψ resolve N n), tokens_in k)
  unfolding section unknown symbol same first rest mark_of stack
  section_read i m n k c q =
      then _ (section_named i _)
      (then _ (rw (find_new part_name part_apart i i (omega arith)) refl)
      (then _ refl
      (then _ (bind_read false 0 _)
      (then _ refl
      (then _ (bind_read false 1 _)
      (then _ refl
      (then _ refl
      (then _ (c.whole (reach 2 false) 2 40 k q) refl))))))))

  same_found : (i m n : ℕ) (ns : List ℕ) → ρ n ≡ m
      → ◌≡◌ {A = Out Sections} (ok (record {
        names = stack part_name (suc i + length ns);
        roots = m ∷ map ρ ns;
        nodes = met sh ρ ψ resolve N n ++ map (anew sh ρ ψ resolve) (gathered (met_from N sh) ns);
      })) (ok (found i m (n ∷ ns)))
  same_found i m n ns e =
      let q : suc i + length ns ≡ i + suc (length ns) = omega arith in
      rw (q, e, map-append (anew sh ρ ψ resolve) (met_from N sh n) (gathered (met_from N sh) ns)) refl

  pub sections_read : (left i m : ℕ) (ns : List ℕ) → length ns ≤ left → Every (λ n. n < N) ns → Numbers ρ m (gathered (met_from N sh) ns)
      → m + length (gathered (met_from N sh) ns) ≤ 200 → N ≤ 200
      → sections resolve left (stack part_name i) m (tokens_in (sections_said sh i ns)) ≡ ok (found i m ns)
  unfolding sections sections_said tokens_in stack
  sections_read zero i m [] few h g b s = let q : i + 0 ≡ i = omega arith in rw q refl
  sections_read zero i m (n ∷ ns) few h g b s = absurd (omega arith)
  sections_read (suc left) i m [] few h g b s = let q : i + 0 ≡ i = omega arith in rw q refl
  sections_read (suc left) i m (n ∷ ns) few h g b s =
      let e = length-append (met_from N sh n) (gathered (met_from N sh) ns) in
      go (all_ready N 200 s m n h.0 (omega arith) (numbers_front ρ m (met_from N sh n) (gathered (met_from N sh) ns) g) (omega arith))
      (sections_read left (suc i) (m + length (met_from N sh n)) ns (omega arith) h.1
      (numbers_behind ρ m (met_from N sh n) (gathered (met_from N sh) ns) g) (omega arith) s)
    where
      go : Ready sh ρ ψ resolve N 200 m n
          → sections resolve left (stack part_name (suc i)) (m + length (met_from N sh n)) (tokens_in (sections_said sh (suc i) ns))
          ≡ ok (found (suc i) (m + length (met_from N sh n)) ns)
          → sections resolve (suc left) (stack part_name i) m (tokens_in (sections_said sh i (n ∷ ns))) ≡ ok (found i m (n ∷ ns))
      go c e =
          then _ (keyword_read (bytes "section") 6 _)
          (then _ (section_read i m n (sections_said sh (suc i) ns) c (sections_quiet (suc i) ns))
          (then _ (rw (length-map (met_from N sh n)) e) (same_found i m n ns c.number)))

-- THE PLAN

plan_read : (left i j : ℕ) (k : List Piece) → j < left → same (mark_of (first (tokens_in k))) (bytes ",") ≡ false
    → plan left (stack (called false) i) (tokens_in (plan_said i j k)) ≡ ok (stack (called false) (suc (i + j)), tokens_in k)
unfolding plan plan_said tokens_in stack same first rest mark_of
plan_read zero i j k h q = absurd (omega arith)
plan_read (suc left) i zero k h q = let e : i + 0 ≡ i = omega arith in then _ (bind_read false i (tokens_in k)) (rw (q, e) refl)
plan_read (suc left) i (suc j) k h q = go (plan_read left (suc i) j k (omega arith) q)
  where
    go : plan left (stack (called false) (suc i)) (tokens_in (plan_said (suc i) j k)) ≡ ok (stack (called false) (suc (suc i + j)), tokens_in k)
        → plan (suc left) (stack (called false) i) (tokens_in (plan_said i (suc j) k)) ≡ ok (stack (called false) (suc (i + suc j)), tokens_in k)
    go e = let z : suc i + j ≡ i + suc j = omega arith in then _ (bind_read false i _) (rw z at e)

-- THE WHOLE TEXT

module _ {sh : Sheet} (r : Ranges sh) (smalls : (n : ℕ) → n < length sh.nodes → Small (row (node_of sh n)).body) (ρ ψ : ℕ → ℕ) (resolve : Name → Option ℕ)
    (resolved : (i : ℕ) → i < length sh.sections → resolve (part_name i) ≡ some (ψ i)) where
  abbrev laid : Sheet
  laid = record { k = sh.k; root = 0; sections = map ρ sh.sections; nodes = map (anew sh ρ ψ resolve) (order sh) }

  roots_all : Every (λ n. n < length sh.nodes) sh.sections
  roots_all = go sh.sections r.section
    where
      go : (l : List ℕ) → ((i : ℕ) → i < length l → get_or l i 0 < length sh.nodes) → Every (λ n. n < length sh.nodes) l
      go [] h = tt
      go (x ∷ l) h = (h 0 (omega arith), go l (λ i z. h (suc i) (omega arith)))

  plan_whole : (k : List Piece) → same (mark_of (first (tokens_in k))) (bytes ",") ≡ false
      → plan 16 [] (tokens_in (plan_said 0 (pred sh.k) k)) ≡ ok (stack (called false) sh.k, tokens_in k)
  unfolding stack
  plan_whole k q =
      let e : suc (0 + pred sh.k) ≡ sh.k = omega (arith, r.some_variable) in
      plan_read 16 0 (pred sh.k) k (omega (arith, r.few_variables)) q ∙ ap (λ (x : ℕ). ok (stack (called false) x, tokens_in k)) e

  sections_whole : Numbers ρ 0 (order sh) → length (order sh) ≤ 200
      → sections resolve 8 [] (length (met sh ρ ψ resolve (length sh.nodes) sh.root)) (tokens_in (sections_said sh 0 sh.sections))
      ≡ ok (record {
        names = stack part_name (length sh.sections);
        roots = map ρ sh.sections;
        nodes = map (anew sh ρ ψ resolve) (gathered (met_from (length sh.nodes) sh) sh.sections);
      })
  unfolding order roots stack
  sections_whole g b =
      let N = length sh.nodes in
      let e = length-append (met_from N sh sh.root) (gathered (met_from N sh) sh.sections) in
      let z : 0 + length (met_from N sh sh.root) ≡ length (met sh ρ ψ resolve N sh.root) = zero-add _ ∙ sym (length-map (met_from N sh sh.root) _) in
      rw (z, zero-add (length sh.sections)) at
      (sections_read r smalls ρ ψ resolve resolved 8 0 (0 + length (met_from N sh sh.root)) sh.sections r.few_sections roots_all
      (numbers_behind ρ 0 (met_from N sh sh.root) (gathered (met_from N sh) sh.sections) g) (omega arith) r.few_nodes)

  pub text_read : Numbers ρ 0 (order sh) → length (order sh) ≤ 200 → text_of_tokens resolve (tokens_in (sheet_said sh))
      ≡ ok (stack part_name (length sh.sections), laid)
  unfolding text_of_tokens sheet_said tokens_in order roots symbol keyword same first rest word_of mark_of
  text_read g b =
      let N = length sh.nodes in
      let e = length-append (met_from N sh sh.root) (gathered (met_from N sh) sh.sections) in
      let c = all_ready r smalls ρ ψ resolve resolved N 200 r.few_nodes 0 sh.root r.root (omega arith)
      (numbers_front ρ 0 (met_from N sh sh.root) (gathered (met_from N sh) sh.sections) g) (omega arith) in
      then _ refl
      (then _ (plan_whole _ refl)
      (then _ refl
      (then _ refl
      (then _ (c.whole (reach sh.k false) 2 40 _ (sections_quiet r smalls ρ ψ resolve resolved 0 sh.sections))
      (then _ (sections_whole g b)
      (rw (stack-length (called false) sh.k, map-append (anew sh ρ ψ resolve) (met_from N sh sh.root) (gathered (met_from N sh) sh.sections)) refl))))))

-- read with the names that it gives, it is the sheet that request 12 writes
module _ {sh : Sheet} (r : Ranges sh) (smalls : (n : ℕ) → n < length sh.nodes → Small (row (node_of sh n)).body) (once : Once (uses sh)) where
  in_order : Numbers (new_number sh) 0 (order sh)
  in_order = numbers_of (new_number sh) 0 (order sh) (places_count r once)

  few : length (order sh) ≤ 200
  few = omega (arith, order_short r once, r.few_nodes)

  root_first : new_number sh sh.root ≡ 0
  unfolding order roots met_from
  root_first = go (length sh.nodes) refl in_order
    where
      go : (l : ℕ) → length sh.nodes ≡ l → Numbers (new_number sh) 0 (gathered (met_from l sh) (sh.root ∷ sh.sections)) → new_number sh sh.root ≡ 0
      go zero e h = absurd (omega (arith, r.some_node))
      go (suc l) e h = h.0

  pub sheet_read : sheet_of_tokens (tokens_in (sheet_said sh)) ≡ ok (numbered sh)
  unfolding sheet_of_tokens numbered
  sheet_read =
      then _ (text_read r smalls (new_number sh) (λ i. 0) (λ w. some 0) (λ i h. refl) in_order few)
      (then _ (text_read r smalls (new_number sh) itself (find (stack part_name (length sh.sections)))
      (λ i h. find_in part_name part_apart (length sh.sections) i h) in_order few)
      (rw root_first refl))

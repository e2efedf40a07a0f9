-- WHAT IS READ is nodes as they are met, each number in its range: for every text.
use Rattle.std.specs.Prelude.{◌≡◌, Bool, ◌||◌, cond, eqb}
use Rattle.std.proofs.Math.Path.{refl}
use Rattle.std.proofs.Common.{sym, subst, zero-add, leb-true, leb-false}
use Rattle.std.proofs.Math.Bool.{true, false}
use Rattle.std.proofs.Math.Option.{Option, none, some}
use mathlib.Core.List.{List, [], ◌∷◌}
use Prim.Native.Nat.{ℕ, zero, suc, ◌+◌, ◌≤◌, ◌<◌}
use native.Mathlib.Omega.{arith}
use Rattle.std.proofs.Math.Dec.{leb}
use Rattle.std.proofs.Math.ListN.{length, length-append}
use Rattle.std.proofs.lemmas.Bool.{eqb-false}
use Rattle.node.specs.declared.Node.{Node}
use Rattle.node.specs.declared.Node.TheVariants.{Var, False, True, Empty, Number, Front, Pair, ListCase, TruthCase, Split, Call, Add, Each, Wide}
use Rattle.node.specs.Kinds.{row, children}
use Rattle.sheet.specs.Sheet.{Sheet}
use Rattle.tokens.specs.Quoted.{bytes}
use Rattle.tokens.specs.Tokens.{Token, first, rest, word_of, mark_of, same}
use Rattle.syntax.specs.Reader.{Out, ok, fault, ◌>>=◌, Name, Scope, wild, is_name}
use Rattle.syntax.specs.Reader.{known, variable, Begin}
use Rattle.syntax.specs.Reader.{nothing, a_false, a_true, a_let, a_case, an_each, a_pair, a_list, a_name, a_hash, a_number, begin_of, Behind, a_comma, a_bar}
use Rattle.syntax.specs.Reader.{an_end, none_of, Branch, truths, lists, neither, branch_of, Part, whole, more, Reader, room, begun}
use Rattle.syntax.specs.Reader.{constant, pair_of, behind, back, front_of, list_by, list_of, let_in, amount_by, amount_of, truth_case, list_case}
use Rattle.syntax.specs.Reader.{branches, case_of, call_of, each_of, named, shaped, parted, read, plan, Sections, section, sections}
use Rattle.syntax.specs.Reader.{text_of_tokens}
use Rattle.syntax.specs.Trees.{AllKeep, Trees, Tree, join, above, roots_inside}
use Rattle.syntax.specs.Trees.{none as no_trees}
use Rattle.syntax.specs.Sound.{After, fine, bad, after, any, after_cond, number_sound, Few, variable_sound, test_sound}

after_room : {A : Type 0} {Q : A → Type 0} (n : ℕ) (ts : List Token) (f : Unit {0} → Out A) → ((n ≡ 200 → ⊥) → After Q (f tt)) → After Q (room n ts f)
unfolding room
after_room {A} {Q} n ts f h = go (eqb n 200) refl
  where
    go : (b : Bool) → eqb n 200 ≡ b → After Q (cond b (λ (u : Unit {0}). fault 94 (length ts) 0 72) f tt)
    go true e = bad
    go false e = h (eqb-false n 200 e)

known_sound : (o : Option ℕ) (left d : ℕ) → After (λ x. o ≡ some x) (known o left d)
unfolding known
known_sound none left d = bad
known_sound (some x) left d = fine refl

module _ (S : ℕ) where
  -- a tree from number n on, of the first 200 nodes
  abbrev pub Good : ℕ → (List Node × List Token) → Type 0
  Good n x = Tree S n x.0 × (n + length x.0 ≤ 200)

  abbrev pub Sound : Reader → Type 0
  Sound rd = (p : Part) (sc : Scope) (n : ℕ) (ts : List Token) → n ≤ 200 → Few sc n → After (Good n) (rd p sc n ts)

  some_node : {n : ℕ} {a : List Node} → Tree S n a → 1 ≤ length a
  some_node t = let z = roots_inside t in omega (arith, z.0)

  module _ (rd : Reader) (s : Sound rd) (sc : Scope) (n : ℕ) (few : Few sc n) (h : n < 200) where
    pair_sound : (ts : List Token) → After (Good n) (pair_of rd sc n ts)
    unfolding pair_of children
    pair_sound ts =
        after _ (s whole sc (suc n) ts (omega arith) (omega arith)) λ x (ta, la).
        after _ (any _) λ ts₂ u.
        after _ (s whole sc (suc n + length x.0) ts₂ (omega arith) (omega arith)) λ y (tb, lb).
        after _ (any _) λ ts₄ u'.
        fine (above (Pair (suc n) (suc n + length x.0)) (tt, (tt, tt)) (join ta (join tb no_trees)), simp length-append (omega arith))

    back_sound : (b : Behind) (m : ℕ) (ts : List Token) → m ≤ 200 → Few sc m → After (Good m) (behind rd b sc m ts)
    unfolding behind children
    back_sound a_comma m ts k f = s more sc m ts k f
    back_sound a_bar m ts k f =
        after _ (s whole sc m (rest ts) k f) λ x t.
        after _ (any _) λ ts₂ u.
        fine t
    back_sound an_end m ts k f = after_room m ts _ λ e. fine (above Empty tt no_trees, omega arith)
    back_sound none_of m ts k f = bad

    front_sound : (ts : List Token) → After (Good n) (front_of rd sc n ts)
    unfolding front_of back children
    front_sound ts =
        after _ (s whole sc (suc n) ts (omega arith) (omega arith)) λ x (ta, la).
        after _ (back_sound _ (suc n + length x.0) x.1 (omega arith) (omega arith)) λ y (tb, lb).
        fine (above (Front (suc n) (suc n + length x.0)) (tt, (tt, tt)) (join ta (join tb no_trees)), simp length-append (omega arith))

    list_sound : (ts : List Token) → After (Good n) (list_of rd sc n ts)
    unfolding list_of
    list_sound ts = go (same (mark_of (first ts)) (bytes "]"))
      where
        go : (b : Bool) → After (Good n) (list_by rd b sc n ts)
        go true = unfold list_by children in fine (above Empty tt no_trees, omega arith)
        go false = unfold list_by in front_sound ts

    let_sound : (ts : List Token) → After (Good n) (let_in rd sc n ts)
    unfolding let_in children
    let_sound ts =
        after _ (any _) λ ts₁ u₁.
        after _ (any _) λ x u₂.
        after _ (any _) λ ts₃ u₃.
        after _ (any _) λ y u₄.
        after _ (any _) λ ts₅ u₅.
        after _ (any _) λ ts₆ u₆.
        after _ (s whole sc (suc n) ts₆ (omega arith) (omega arith)) λ a (ta, la).
        after _ (any _) λ ts₈ u₈.
        after _ (s whole _ (suc n + length a.0) ts₈ (omega arith) (omega (arith, some_node ta))) λ b (tb, lb).
        fine (above (Split (suc n) (suc n + length a.0)) (tt, (tt, tt)) (join ta (join tb no_trees)), simp length-append (omega arith))

    constant_keeps : (v : ℕ) → v ≤ 4294967295 → AllKeep S (row (constant v)).body × (children (constant v) ≡ [])
    unfolding constant children
    constant_keeps v k = go (leb v 65535) refl
      where
        go : (b : Bool) → leb v 65535 ≡ b → AllKeep S (row (cond b (Number v) (Wide v))).body × (children (cond b (Number v) (Wide v)) ≡ [])
        go true e = ((leb-true v 65535 e, tt), refl)
        go false e = (((leb-false v 65535 e, k), tt), refl)

    amount_by_lem : (ts : List Token) (v : ℕ) → v ≤ 4294967295 → (p b : Bool) → leb v 65535 ≡ b → After (Good n) (amount_by rd p b sc n ts v)
    unfolding amount_by children
    amount_by_lem ts v k true true e =
        after _ (s whole sc (suc n) (rest ts) (omega arith) (omega arith)) λ a (ta, la).
        fine (above (Add (suc n) v) (tt, (leb-true v 65535 e, tt)) (join ta no_trees), simp length-append (omega arith))
    amount_by_lem ts v k true false e = bad
    amount_by_lem ts v k false b e =
        let (f, c) = constant_keeps v k in
        fine (above (constant v) f (subst (λ (l : List ℕ). Trees S (suc n) l []) (sym c) no_trees), omega arith)

    amount_sound : (ts : List Token) (v : ℕ) → v ≤ 4294967295 → After (Good n) (amount_of rd sc n ts v)
    unfolding amount_of
    amount_sound ts v k = amount_by_lem ts v k (same (mark_of (first ts)) (bytes "+")) (leb v 65535) refl

    truth_sound : (a : List Node) (ts : List Token) → Tree S (suc n) a → suc n + length a ≤ 200 → After (Good n) (truth_case rd sc n a ts)
    unfolding truth_case children
    truth_sound a ts ta la =
        after _ (any _) λ ts₁ u₁.
        after _ (s whole sc (suc n + length a) ts₁ (omega arith) (omega arith)) λ b (tb, lb).
        after _ (test_sound 28 29 b.1) λ t ht.
        after _ (any _) λ ts₄ u₄.
        after _ (any _) λ ts₅ u₅.
        after _ (s whole sc (suc n + length a + length b.0) ts₅ (omega arith) (omega arith)) λ c (tc, lc).
        after _ (test_sound 30 31 c.1) λ u hu.
        after _ (any _) λ ts₈ u₈.
        fine (
          above (TruthCase (suc n) (suc n + length a) t.0.0 (suc n + length a + length b.0) u.0.0) (tt, (tt, (ht, (tt, (hu, tt)))))
              (join ta (join tb (join tc no_trees))),
          simp length-append (omega arith),
        )

    cases_sound : (a : List Node) (ts : List Token) → Tree S (suc n) a → suc n + length a ≤ 200 → After (Good n) (list_case rd sc n a ts)
    unfolding list_case children
    cases_sound a ts ta la =
        let i = suc n + length a in
        after _ (any _) λ ts₁ u₁.
        after _ (any _) λ ts₂ u₂.
        after _ (s whole sc i ts₂ (omega arith) (omega arith)) λ b (tb, lb).
        after _ (test_sound 20 21 b.1) λ t ht.
        after _ (any _) λ ts₅ u₅.
        after _ (any _) λ x u₆.
        after _ (any _) λ ts₇ u₇.
        after _ (any _) λ y u₈.
        after _ (any _) λ ts₉ u₉.
        after _ (any _) λ us₀ v₀.
        after _ (s whole _ (i + length b.0) us₀ (omega arith) (omega (arith, some_node tb))) λ c (tc, lc).
        after _ (test_sound 24 25 c.1) λ u hu.
        after _ (any _) λ us₃ v₃.
        after _ (any _) λ us₄ v₄.
        after _ (any _) λ us₅ v₅.
        after _ (s whole _ (i + length b.0 + length c.0) us₅ (omega arith) (omega arith)) λ d (td, ld).
        after _ (any _) λ us₇ v₇.
        after _ (any _) λ us₈ v₈.
        after _ (any _) λ us₉ v₉.
        after _ (s whole _ (i + length b.0 + length c.0 + length d.0) us₉ (omega arith) (omega arith)) λ e (te, le).
        after _ (any _) λ vs₁ w₁.
        fine (
          above
              (ListCase (suc n) i t.0.0 (i + length b.0) u.0.0 (i + length b.0 + length c.0)
              (i + length b.0 + length c.0 + length d.0))
              (tt, (tt, (ht, (tt, (hu, (tt, (tt, tt))))))) (join ta (join tb (join tc (join td (join te no_trees))))),
          simp length-append (omega arith),
        )

    branches_sound : (b : Branch) (a : List Node) (ts : List Token) → Tree S (suc n) a → suc n + length a ≤ 200 → After (Good n) (branches rd b sc n a ts)
    unfolding branches
    branches_sound truths a ts ta la = truth_sound a (rest ts) ta la
    branches_sound lists a ts ta la = cases_sound a (rest ts) ta la
    branches_sound neither a ts ta la = bad

    case_sound : (ts : List Token) → After (Good n) (case_of rd sc n ts)
    unfolding case_of
    case_sound ts =
        after _ (s whole sc (suc n) ts (omega arith) (omega arith)) λ a (ta, la).
        after _ (any _) λ ts₂ u₂.
        branches_sound (branch_of (first ts₂)) a.0 ts₂ ta la

  module _ (resolve : Name → Option ℕ) (resolved : (w : Name) (c : ℕ) → resolve w ≡ some c → c < S) where
    module _ (rd : Reader) (s : Sound rd) (sc : Scope) (n : ℕ) (few : Few sc n) (h : n < 200) where
      call_sound : (w : Name) (left : ℕ) (ts : List Token) → After (Good n) (call_of resolve w left sc ts)
      unfolding call_of children
      call_sound w left ts =
          after _ (known_sound (resolve w) left 43) λ c hc.
          after _ (variable_sound sc n few h ts) λ x hx.
          after _ (any _) λ ts₂ u₂.
          after _ (variable_sound sc n few h ts₂) λ y hy.
          after _ (any _) λ ts₄ u₄.
          fine (above (Call c x.0 y.0) (resolved w c hc, (hx, (hy, tt))) no_trees, omega arith)

      each_sound : (ts : List Token) → After (Good n) (each_of resolve rd sc n ts)
      unfolding each_of children
      each_sound ts =
          after _ (any _) λ w u₁.
          after _ (known_sound (resolve w.0) (length ts) 43) λ c hc.
          after _ (any _) λ ts₂ u₂.
          after _ (s whole sc (suc n) ts₂ (omega arith) (omega arith)) λ a (ta, la).
          after _ (any _) λ ts₄ u₄.
          after _ (variable_sound sc n few h ts₄) λ x hx.
          after _ (any _) λ ts₆ u₆.
          after _ (any _) λ ts₇ u₇.
          after _ (s whole _ (suc n + length a.0) ts₇ (omega arith) (omega arith)) λ b (tb, lb).
          fine (
            above (Each (suc n) c x.0 (suc n + length a.0)) (tt, (resolved w.0 c hc, (hx, (tt, tt)))) (join ta (join tb no_trees)),
            simp length-append (omega arith),
          )

      var_sound : (ts : List Token) → After (Good n) (variable sc ts >>= λ (x, ts₁). ok (Var x ∷ [], ts₁))
      unfolding children
      var_sound ts = after _ (variable_sound sc n few h ts) λ x hx. fine (above (Var x.0) (hx, tt) no_trees, omega arith)

      named_sound : (w : Name) (ts : List Token) → After (Good n) (named resolve w sc ts)
      unfolding named
      named_sound w ts = after_cond (same (mark_of (first (rest ts))) (bytes "(")) (λ e. call_sound w (length ts) (rest (rest ts))) (λ e. var_sound ts)

      shaped_sound : (b : Begin) (ts : List Token) → After (Good n) (shaped resolve rd sc n ts b)
      unfolding shaped children
      shaped_sound nothing ts = bad
      shaped_sound a_false ts = fine (above False tt no_trees, omega arith)
      shaped_sound a_true ts = fine (above True tt no_trees, omega arith)
      shaped_sound a_let ts = let_sound rd s sc n few h (rest ts)
      shaped_sound a_case ts = case_sound rd s sc n few h (rest ts)
      shaped_sound an_each ts = each_sound (rest ts)
      shaped_sound a_pair ts = pair_sound rd s sc n few h (rest ts)
      shaped_sound a_list ts = list_sound rd s sc n few h (rest ts)
      shaped_sound (a_name w) ts = named_sound w ts
      shaped_sound (a_hash ds b) ts = var_sound ts
      shaped_sound (a_number ds b) ts = after _ (number_sound 4294967295 60 (length ts) 0 ds b) λ v hv. amount_sound rd s sc n few h (rest ts) v hv

    begun_sound : (n : ℕ) (ts : List Token) (b : Begin) (f : Begin → Out (List Node × List Token)) → ((n ≡ 200 → ⊥) → After (Good n) (f b))
        → After (Good n) (begun n ts b f)
    unfolding begun
    begun_sound n ts nothing f g = bad
    begun_sound n ts a_false f g = after_room n ts _ g
    begun_sound n ts a_true f g = after_room n ts _ g
    begun_sound n ts a_let f g = after_room n ts _ g
    begun_sound n ts a_case f g = after_room n ts _ g
    begun_sound n ts an_each f g = after_room n ts _ g
    begun_sound n ts a_pair f g = after_room n ts _ g
    begun_sound n ts a_list f g = after_room n ts _ g
    begun_sound n ts (a_name w) f g = after_room n ts _ g
    begun_sound n ts (a_hash ds b) f g = after_room n ts _ g
    begun_sound n ts (a_number ds b) f g = after_room n ts _ g

    parted_sound : (rd : Reader) → Sound rd → Sound (parted resolve rd)
    unfolding parted
    parted_sound rd s whole sc n ts k few = begun_sound n ts (begin_of (first ts)) _ λ e. shaped_sound rd s sc n few (omega arith) (begin_of (first ts)) ts
    parted_sound rd s more sc n ts k few = after_room n ts _ λ e. front_sound rd s sc n few (omega arith) (rest ts)

    pub read_sound : (f : ℕ) → Sound (read resolve f)
    unfolding read
    read_sound zero = parted_sound _ (λ p sc n ts k few. bad)
    read_sound (suc f) = parted_sound (read resolve f) (read_sound f)

    -- THE WHOLE TEXT

    section_sound : (names : List Name) (m : ℕ) (ts : List Token) → m ≤ 200
        → After (λ x. Tree S m x.0.1 × (m + length x.0.1 ≤ 200)) (section resolve names m ts)
    unfolding section
    section_sound names m ts k =
        after _ (any _) λ w u₁.
        after _ (any _) λ v u₂.
        after _ (any _) λ ts₂ u₃.
        after _ (any _) λ x u₄.
        after _ (any _) λ ts₄ u₅.
        after _ (any _) λ y u₆.
        after _ (any _) λ ts₆ u₇.
        after _ (any _) λ ts₇ u₈.
        after _ (read_sound 200 whole _ m ts₇ k (omega arith)) λ a ha.
        fine ha

    abbrev Found : ℕ → ℕ → ℕ → Sections → Type 0
    Found left named m r =
        Trees S m r.roots r.nodes × (m + length r.nodes ≤ 200) × (length r.names ≡ named + length r.roots) × (length r.roots ≤ left)

    sections_sound : (left : ℕ) (names : List Name) (m : ℕ) (ts : List Token) → m ≤ 200 → After (Found left (length names) m) (sections resolve left names m ts)
    unfolding sections
    sections_sound zero names m [] k = fine {a = record { names = names; roots = []; nodes = [] }} (no_trees, omega arith, omega arith, omega arith)
    sections_sound zero names m (t ∷ ts) k = after_cond (same (word_of t) (bytes "section")) (λ e. bad) (λ e. bad)
    sections_sound (suc left) names m [] k = fine {a = record { names = names; roots = []; nodes = [] }} (no_trees, omega arith, omega arith, omega arith)
    sections_sound (suc left) names m (t ∷ ts) k =
        after _ (any _) λ ts₁ u₁.
        after _ (section_sound names m ts₁ k) λ x (ta, la).
        after _ (sections_sound left (x.0.0 ∷ names) (m + length x.0.1) x.1 la) λ r (tr, lr, nr, fr).
        let z : length r.names ≡ length names + suc (length r.roots) = omega arith in
        fine (join ta tr, simp length-append (omega arith), z, omega arith)

    plan_sound : (left : ℕ) (names : List Name) (ts : List Token) → After (λ x. (1 ≤ length x.0) × (length x.0 ≤ length names + left))
        (plan left names ts)
    unfolding plan
    plan_sound zero names ts = after_cond (is_name (word_of (first ts)) || same (word_of (first ts)) wild) (λ e. bad) (λ e. bad)
    plan_sound (suc left) names ts =
        after _ (any _) λ w u.
        after_cond (same (mark_of (first w.1)) (bytes ",")) (λ e. wider (length names) (plan_sound left (w.0 ∷ names) (rest w.1)))
        (λ e. fine (omega arith, omega arith))
      where
        wider : {o : Out (List Name × List Token)} (l : ℕ) → After (λ x. (1 ≤ length x.0) × (length x.0 ≤ suc l + left)) o
            → After (λ x. (1 ≤ length x.0) × (length x.0 ≤ l + suc left)) o
        wider l (fine {a = a} p) = let z : length a.0 ≤ l + suc left = omega arith in fine (p.0, z)
        wider l bad = bad

    pub record Whole (x : List Name × Sheet) : Type 0 where
      pub trees : Trees S 0 (0 ∷ x.1.sections) x.1.nodes
      pub root : x.1.root ≡ 0
      pub k : (1 ≤ x.1.k) × (x.1.k ≤ 16)
      pub few_nodes : length x.1.nodes ≤ 200
      pub few_sections : length x.1.sections ≤ 8
      pub names : length x.0 ≡ length x.1.sections

    pub text_sound : (ts : List Token) → After Whole (text_of_tokens resolve ts)
    unfolding text_of_tokens
    text_sound ts =
        after _ (any _) λ ts₁ u₁.
        after _ (plan_sound 16 [] ts₁) λ p (hp, hq).
        after _ (any _) λ ts₃ u₃.
        after _ (any _) λ ts₄ u₄.
        after _ (read_sound 200 whole _ 0 ts₄ (omega arith) (omega arith)) λ a (ta, la).
        after _ (sections_sound 8 [] (length a.0) a.1 (omega arith)) λ r (tr, lr, nr, fr).
        fine record {
          trees = join ta (rw (zero-add (length a.0)) tr);
          root = refl;
          k = (hp, omega arith);
          few_nodes = simp length-append (omega arith);
          few_sections = fr;
          names = omega arith;
        }

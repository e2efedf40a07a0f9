-- The loop of 82: where the nodes stand after the first i, and that none below fails.
use Rattle.std.specs.Prelude.{◌≡◌, ◌⊎◌, Bool, false, not, ◌&&◌, eqb, length, replicate}
use Rattle.std.proofs.Math.Path.{refl}
use Rattle.std.proofs.Common.{sym, ◌∙◌, inl, inr, add-zero, zero-add, eq-eqb, eqb-true}
use Rattle.std.proofs.Math.Bool.{true}
use Rattle.std.proofs.Math.Option.{Option, none, some}
use mathlib.Core.List.{List, [], ◌∷◌, ◌++◌, map, append-nil}
use Prim.Native.Nat.{ℕ, zero, suc, ◌+◌, ◌*◌, ◌≤◌, ◌<◌}
use native.Mathlib.Omega.{arith}
use Rattle.std.proofs.Math.Decide.{dec_lt, ℕ_discrete}
use Rattle.std.proofs.Math.ListN.{get_or}
use Rattle.node.specs.declared.Node.{Node}
use Rattle.node.specs.declared.Node.TheVariants.{Var, False, True, Empty, Number, Front, Pair, ListCase, TruthCase, Split, Call, Add, Each, Wide}
use Rattle.sheet.specs.declared.Table.{Table}
use Rattle.node.specs.Kinds.{children}
use Rattle.sheet.specs.Rows.{Every}
use Rattle.sheet.proofs.Rows.{children_behind}
use Rattle.sheet.specs.Sheet.{Sheet}
use Rattle.sheet.specs.Laws.{Child, Ranged, Ranges, Reads}
use Rattle.node.specs.Decoding.{node_at}
use Rattle.rules.specs.Semantics.{two}
use Rattle.typing.specs.Types.{Ty, truths, lists}
use Rattle.typing.specs.Fits.{Lent, Scope, node_of, type_of, section_of, added, Fits, places, Root, section_roots, roots, Placed}
use Rattle.typing.specs.Check.{apart, found, count, used, refuted, fits?, placed?, rightly?, right?, below, standing, misfits, unfit, lowest}
use Rattle.typing.proofs.CheckLaws.{either, all_ranged, OnceBelow, in_count, found_in, count-append, standing-count, used_then}
use Rattle.std.specs.Prelude.{None, Some}
use Rattle.types.specs.Slots.{Laid}
use Rattle.types.specs.Slots as Slots
use Rattle.types.specs.Uses.{sheet_roots, lowest_in, Lower, lower_none, lower_next, lower_found, lower_done}
use Rattle.types.specs.declared.scopes.View.{View}
use Rattle.types.specs.Scopes.{Entry, slots, widen, view_of, place_of, place_all, PutAll, child_scopes, section_scopes, Scoped, base, inner, StandsIn}
use Rattle.types.specs.Scopes.{scope_width}
use Rattle.types.specs.Placing.{place_past, place_long, Both, nowhere, stands, Standing, standing_none, Filled, empty, filled, entry_is}
use Rattle.types.specs.Placing.{later, place_keeps, place_there}
use Rattle.types.specs.Placing.{place_other, Steps, ends, more, place_steps}
use Rattle.types.specs.Decided.{holds, Stood}
use Rattle.types.specs.Rooted.{Rooted}

-- THE SCOPES OF CHILDREN AND ROOTS

module _ {types starts : List ℕ} {sections nodes : ℕ} {ts : Lent} (k : Laid types starts sections nodes ts) where
  module _ {i : ℕ} (own : i < nodes) where
    view_scoped : (b : List Entry) → Scoped types starts b (view_of i) (type_of ts i ∷ [])
    view_scoped b = base (41 + i) refl refl go
      where
        go : (x : ℕ) → x < 1 → Slots.At types starts (41 + i + x) (get_or (type_of ts i ∷ []) x truths)
        go zero h = rw (add-zero (41 + i)) (k.node i own)
        go (suc x) h = absurd (omega arith)

    alone_scoped : (b : List Entry) → Scoped types starts b (slots 0 0) []
    alone_scoped b = base 0 refl refl λ x h. absurd (omega arith)

    inner_scoped : {b : List Entry} {v : View} {s : ℕ} {Γ : Scope} (p q : Ty) → s < nodes → added (type_of ts s) ≡ two p q → get_or b s None ≡ Some v
        → Scoped types starts b v Γ → Scoped types starts b (widen v s) (Γ ++ added (type_of ts s))
    inner_scoped {v = v} {s = s} {Γ = Γ} p q h d e r =
        rw d (inner {v = widen v s} {w = v} s (type_of ts s) p q Γ (omega (arith, k.few_nodes)) (omega (arith, scope_width r)) refl (k.node s h) d e r)

    module _ {a : List Entry} {v : View} {Γ : Scope} (long : length a ≡ 200) (r : Scoped types starts a v Γ) where
      inside : {c : ℕ} → Child nodes i c → c < 200
      inside h = omega (arith, h.inside, k.few_nodes)

      -- the scope, after one more node was placed in it
      again : (m : ℕ) → Scoped types starts (place_of a m v) v Γ
      again m = later m v r

      child_steps : (n : Node) → Ranged nodes sections i n → Fits ts n (type_of ts i) Γ → ((m : ℕ) → 1 ≤ count m (children n) → get_or a m None ≡ None)
          → Steps types starts a (child_scopes v i n) (places ts n (type_of ts i) Γ)
      unfolding child_scopes children count
      child_steps (Var x) g f u = ends
      child_steps False g f u = ends
      child_steps True g f u = ends
      child_steps Empty g f u = ends
      child_steps (Number v) g f u = ends
      child_steps (Wide v) g f u = ends
      child_steps (Front x y) g f u = more (inside g.0) r (more (inside g.1.0) (again x) ends)
      child_steps (Pair x y) g f u = more (inside g.0) r (more (inside g.1.0) (again x) ends)
      child_steps (ListCase s e te n tn df dr) g f u =
          let z : get_or a s None ≡ None = u s (rw (eq-eqb s s refl) (omega arith)) in
          let t = place_there a s v (inside g.0) long z in
          let t' = place_keeps (place_of a s v) e v s t in
          let d : added (type_of ts s) ≡ two (type_of ts df) (lists (type_of ts df)) = rw f.0 in
          more (inside g.0) r (more (inside g.1.0) (again s)
          (more (inside g.1.1.1.0) (inner_scoped (type_of ts df) (lists (type_of ts df)) g.0.inside d t' (later e v (again s)))
          (more (inside g.1.1.1.1.1.0) (view_scoped _) (more (inside g.1.1.1.1.1.1.0) (view_scoped _) ends))))
      child_steps (TruthCase s x tx y ty) g f u =
          more (inside g.0) r (more (inside g.1.0) (again s) (more (inside g.1.1.1.0) (later x v (again s)) ends))
      child_steps (Split s b) g f u =
          let z : get_or a s None ≡ None = u s (rw (eq-eqb s s refl) (omega arith)) in
          let d : added (type_of ts s) ≡ two f.0 f.1 = rw f.2 in
          more (inside g.0) r (more (inside g.1.0)
          (inner_scoped f.0 f.1 g.0.inside d (place_there a s v (inside g.0) long z) (again s)) ends)
      child_steps (Call c x y) g f u = ends
      child_steps (Add m v) g f u = more (inside g.0) r ends
      child_steps (Each s c x d) g f u = more (inside g.0) r (more (inside g.1.1.1.0) (alone_scoped _) ends)

  section_steps : (b : List Entry) (c : ℕ) (l : List ℕ) → ((j : ℕ) → j < length l → get_or l j 0 < nodes) → c + length l ≤ sections
      → Steps types starts b (section_scopes c l) (map (λ (r : Root). (r.node, r.scope)) (section_roots ts c l))
  unfolding section_scopes
  section_steps b c [] h f = ends
  section_steps b c (x ∷ l) h f =
      let few : x < 200 = omega (arith, h 0 (omega arith), k.few_nodes) in
      more few scoped (section_steps (place_of b x (slots 2 (16 + 3 * c))) (suc c) l (λ j q. h (suc j) (omega arith)) (omega arith))
    where
      go : (x : ℕ) → x < 2 → Slots.At types starts (16 + 3 * c + x) (get_or (two (section_of ts c).first (section_of ts c).second) x truths)
      go zero q = rw (add-zero (16 + 3 * c)) (k.first c (omega arith))
      go (suc zero) q = k.second c (omega arith)
      go (suc (suc x)) q = absurd (omega arith)

      scoped : Scoped types starts b (slots 2 (16 + 3 * c)) (two (section_of ts c).first (section_of ts c).second)
      scoped = base (16 + 3 * c) refl refl go

  root_steps : (sh : Sheet) (b : List Entry) → length sh.nodes ≡ nodes → length sh.sections ≡ sections → length ts.plan ≡ sh.k → Ranges sh
      → Steps types starts b ((sh.root, slots sh.k 0) ∷ section_scopes 0 sh.sections) (map (λ (r : Root). (r.node, r.scope)) (roots sh ts))
  root_steps sh b e d p g = let r : sh.root < 200 = omega (arith, g.root, k.few_nodes) in more r scoped
      (section_steps _ 0 sh.sections (λ j q. omega (arith, g.section j q)) (omega arith))
    where
      scoped : Scoped types starts b (slots sh.k 0) ts.plan
      scoped = base 0 (sym p) refl λ x h. rw (zero-add x) (k.plan x h)

-- HOW MANY VARIABLES SCOPES HAVE

pub record Low (a : List Entry) (w : ℕ) : Type 0 where
  pub long : length a ≡ 200
  pub is : (m : ℕ) {v : View} → get_or a m None ≡ Some v → v.width ≤ w

abbrev Below : ℕ → List (ℕ × View) → Type 0
Below w [] = Unit
Below w (p ∷ ps) = (p.1.width ≤ w) × Below w ps

low_place : {a : List Entry} {w : ℕ} (n : ℕ) (s : View) → Low a w → s.width ≤ w → Low (place_of a n s) w
low_place {a = a} {w = w} n s k h = record { long = place_long a n s ∙ k.long; is = λ m {v} e. go m v e (ℕ_discrete m n) }
  where
    same : (v : View) → get_or (place_of a n s) n None ≡ Some v → Dec (n < 200) → Filled (get_or a n None) → v.width ≤ w
    same v e (yes l) (empty z) = let q : s ≡ v = (let t = place_there a n s l k.long z in cc) in rw (← q) h
    same v e (yes l) (filled u z) = let q : u ≡ v = (let t = place_keeps a n s n z in cc) in rw (← q) (k.is n z)
    same v e (no l) f = let q : 200 ≤ n = omega arith in k.is n {v = v} (rw (place_past a n s q).is e)

    go : (m : ℕ) (v : View) → get_or (place_of a n s) m None ≡ Some v → Dec (m ≡ n) → v.width ≤ w
    go m v e (yes q) = same v (rw q at e) (dec_lt n 200) (entry_is (get_or a n None))
    go m v e (no q) = k.is m (sym (place_other a n s m q) ∙ e)

low_all : {a : List Entry} {w : ℕ} (ps : List (ℕ × View)) → Low a w → Below w ps → Low (place_all a ps) w
unfolding place_all
low_all [] k h = k
low_all {a = a} (p ∷ ps) k h = low_all {a = place_of a p.0 p.1} ps (low_place p.0 p.1 k h.0) h.1

low_more : {a : List Entry} {w : ℕ} → Low a w → Low a (w + 2)
low_more k = record { long = k.long; is = λ m e. omega (arith, k.is m e) }

child_low : (i w : ℕ) (v : View) → 1 ≤ w → v.width ≤ w → (n : Node) → Below (w + 2) (child_scopes v i n)
unfolding child_scopes
child_low i w v o h (Var x) = tt
child_low i w v o h False = tt
child_low i w v o h True = tt
child_low i w v o h Empty = tt
child_low i w v o h (Number a) = tt
child_low i w v o h (Wide a) = tt
child_low i w v o h (Front x y) = (omega arith, (omega arith, tt))
child_low i w v o h (Pair x y) = (omega arith, (omega arith, tt))
child_low i w v o h (ListCase s e te n tn df dr) = (omega arith, (omega arith, (omega arith, (omega arith, (omega arith, tt)))))
child_low i w v o h (TruthCase s x tx y ty) = (omega arith, (omega arith, (omega arith, tt)))
child_low i w v o h (Split s b) = (omega arith, (omega arith, tt))
child_low i w v o h (Call c x y) = tt
child_low i w v o h (Add m a) = (omega arith, tt)
child_low i w v o h (Each s c x d) = (omega arith, (omega arith, tt))

section_low : (c : ℕ) (l : List ℕ) → Below 16 (section_scopes c l)
unfolding section_scopes
section_low c [] = tt
section_low c (x ∷ l) = (omega arith, section_low (suc c) l)

nones : (n m : ℕ) → get_or {A = Entry} (replicate n None) m None ≡ None
nones zero m = refl
nones (suc n) zero = refl
nones (suc n) (suc m) = nones n m

low_none : Low (replicate 200 None) 16
low_none = record { long = refl; is = λ m e. let q = nones 200 m in absurd (cc) }

-- THE LOOP

-- what the loop is about: a sheet and its types, which were read, and no node is used twice
pub record Ready (sheet : List ℕ) (t : Table) (types starts : List ℕ) : Type 0 where
  pub sh : Sheet
  pub ts : Lent
  pub reads : Reads sheet t sh
  pub laid : Laid types starts (length sh.sections) (length sh.nodes) ts
  pub planned : length ts.plan ≡ sh.k
  pub once : OnceBelow sh ts (length sh.nodes)

pub record Walking (types starts : List ℕ) (sh : Sheet) (ts : Lent) (stand : List Entry) (i : ℕ) : Type 0 where
  pub lower : Lower (unfit sh ts) i (length sh.nodes)
  pub stood : Standing types starts stand (standing sh ts i)
  pub low : Low stand (16 + 2 * i)

refuted_is : (sh : Sheet) (ts : Lent) (n : ℕ) (Γ : Scope) (d : Dec (Fits ts (node_of sh n) (type_of ts n) Γ)) (e : Dec (Placed sh ts n))
    → refuted (rightly? sh ts {n = n} {Γ = Γ} d e) ≡ not (holds d && holds e)
unfolding refuted rightly? holds
refuted_is sh ts n Γ (yes f) (yes p) = refl
refuted_is sh ts n Γ (yes f) (no p) = refl
refuted_is sh ts n Γ (no f) p = refl

held : {A : Type 0} (d : Dec A) → true ≡ holds d → A
unfolding holds
held (yes a) e = a
held (no a) e = apart (cc)

counted_in : (Q : ℕ → Type 0) (m : ℕ) (l : List ℕ) → 1 ≤ count m l → Every Q l → Q m
unfolding count
counted_in Q m [] h k = absurd (omega arith)
counted_in Q m (x ∷ l) h k = go (λ q. counted_in Q m l q k.1) (either (eqb m x))
  where
    go : (1 ≤ count m l → Q m) → (eqb m x ≡ true) ⊎ (eqb m x ≡ false) → Q m
    go f (inl t) = rw (eqb-true m x t) k.0
    go f (inr e) = f (omega (arith, rw e at h))

module _ {sheet : List ℕ} {t : Table} {types starts : List ℕ} (g : Ready sheet t types starts) where
  pub walk_start : {a : List Entry} → PutAll (replicate 200 None) ((t.root, slots t.k 0) ∷ section_scopes 0 g.sh.sections) a
      → Walking types starts g.sh g.ts a 0
  unfolding standing
  walk_start {a} p =
      let r = g.reads.ranges in
      let e : a ≡ place_all (replicate 200 None) ((g.sh.root, slots g.sh.k 0) ∷ section_scopes 0 g.sh.sections) = rw (g.reads.root, g.reads.k) at
      p.is in
      record {
        lower = lower_none (unfit g.sh g.ts) (length g.sh.nodes);
        stood = rw e (place_steps [] (standing_none types starts) (root_steps g.laid g.sh (replicate 200 None) refl refl g.planned r));
        low = rw e (low_all _ low_none (omega (arith, r.few_variables), section_low 0 g.sh.sections));
      }

  module _ {stand : List Entry} {i : ℕ} (w : Walking types starts g.sh g.ts stand i) (h : i < t.nodes) where
    within : i < length g.sh.nodes
    within = omega (arith, g.reads.nodes)

    few : i < 200
    few = omega (arith, g.reads.nodes, g.reads.ranges.few_nodes)

    next_node : i + 1 ≡ suc i
    next_node = omega arith

    -- a node that is not reached
    pub walk_skip : get_or stand i None ≡ None → Walking types starts g.sh g.ts stand (i + 1)
    unfolding standing unfit misfits below
    walk_skip z = record {
      lower = lower_next (unfit g.sh g.ts) w.lower within (rw e);
      stood = rw (next_node, e, append-nil (standing g.sh g.ts i)) w.stood;
      low = record { long = w.low.long; is = λ m f. omega (arith, w.low.is m f) };
    }
      where
        go : {c : Entry} {o : Option Scope} → c ≡ None → Both types starts stand c o → o ≡ none
        go z (nowhere e) = refl
        go z (stands e r) = absurd (cc)

        e : found i (standing g.sh g.ts i) ≡ none
        e = go z (w.stood.each i few)

    -- one that is, and its scope
    pub record Here (v : View) : Type 0 where
      pub scope : Scope
      pub found_is : found i (standing g.sh g.ts i) ≡ some scope
      pub there : get_or stand i None ≡ Some v
      pub scoped : Scoped types starts stand v scope

    pub walk_here : {v : View} → get_or stand i None ≡ Some v → Here v
    walk_here {v} z = go refl (w.stood.each i few)
      where
        go : {o : Option Scope} → found i (standing g.sh g.ts i) ≡ o → Both types starts stand (get_or stand i None) o → Here v
        go e (nowhere q) = absurd (cc)
        go e (stands {v = u} {Γ = Γ} q r) = let y : u ≡ v = cc in record { scope = Γ; found_is = e; there = z; scoped = rw (← y) r }

    module _ {v : View} (k : Here v) where
      pub walk_stands : StandsIn types starts stand i k.scope
      walk_stands = record { view = v; there = k.there; scoped = k.scoped }

    module _ {v : View} (k : Here v) {n : Node} (e : n ≡ node_at sheet (get_or t.starts i 0)) where
      node_is : n ≡ node_of g.sh i
      node_is = e ∙ g.reads.node i within

      pub walk_stood : Stood types starts stand (length g.sh.sections) (length g.sh.nodes) g.ts i n k.scope
      walk_stood = record {
        laid = g.laid;
        ranged = rw node_is (all_ranged g.reads.ranges i);
        own = within;
        scoped = walk_stands k;
      }

      told : (a b : Bool) → a ≡ holds (fits? g.ts n (type_of g.ts i) k.scope) → b ≡ holds (placed? g.sh g.ts i)
          → unfit g.sh g.ts i ≡ not (a && b)
      unfolding unfit misfits right?
      told a b x y = rw k.found_is (refuted_is g.sh g.ts i k.scope _ _ ∙ rw (x, y, node_is))

      pub walk_unfit : {a : Bool} → a ≡ holds (fits? g.ts n (type_of g.ts i) k.scope) → a ≡ false
          → Some i ≡ lowest_in (lowest (unfit g.sh g.ts) 0 (length g.sh.nodes))
      walk_unfit x z = lower_found (unfit g.sh g.ts) w.lower within (told false _ (sym z ∙ x) refl)

      module _ {a b : Bool} (x : a ≡ holds (fits? g.ts n (type_of g.ts i) k.scope)) (x' : a ≡ true)
          (y : b ≡ holds (placed? g.sh g.ts i)) where
        pub walk_misplaced : b ≡ false → Some i ≡ lowest_in (lowest (unfit g.sh g.ts) 0 (length g.sh.nodes))
        walk_misplaced z = lower_found (unfit g.sh g.ts) w.lower within (told true false (sym x' ∙ x) (sym z ∙ y))

        fresh : (m : ℕ) → 1 ≤ count m (children n) → get_or stand m None ≡ None
        unfolding used
        fresh m c = go refl (w.stood.each m (omega (arith, q.inside, g.laid.few_nodes)))
          where
            q : Child (length g.sh.nodes) i m
            q = counted_in (Child (length g.sh.nodes) i) m (children n) c
                (children_behind (length g.sh.nodes) (length g.sh.sections) i n walk_stood.ranged)

            none_used : count m (used g.sh i) ≡ 0
            none_used =
                let l = used_then g.sh g.ts g.reads.ranges m (suc i) (length g.sh.nodes) within in
                let o = g.once m q.inside in
                let z = count-append m (used g.sh i) (children (node_of g.sh i)) in
                let c' : 1 ≤ count m (children (node_of g.sh i)) = rw (← node_is) c in
                omega arith

            go : {o : Option Scope} → found m (standing g.sh g.ts i) ≡ o → Both types starts stand (get_or stand m None) o → get_or stand m None ≡ None
            go f (nowhere z) = z
            go f (stands z r) =
                let l = in_count (found_in m (standing g.sh g.ts i) f) in
                absurd (omega (arith, none_used, standing-count g.sh g.ts g.reads.ranges m i))

        pub walk_next : b ≡ true → {c : List Entry} → PutAll stand (child_scopes v i n) c → Walking types starts g.sh g.ts c (i + 1)
        unfolding standing below
        walk_next z {c} p = record {
          lower = lower_next (unfit g.sh g.ts) w.lower within (told true true (sym x' ∙ x) (sym z ∙ y));
          stood = rw (p.is, next_node, k.found_is, ← node_is) (place_steps (standing g.sh g.ts i) w.stood steps);
          low = rw p.is (low_all (child_scopes v i n) more_room children_low);
        }
          where
            steps : Steps types starts stand (child_scopes v i n) (places g.ts n (type_of g.ts i) k.scope)
            steps = child_steps g.laid within w.stood.long k.scoped n walk_stood.ranged (held _ (sym x' ∙ x)) fresh

            wide : 16 + 2 * i + 2 ≡ 16 + 2 * (i + 1)
            wide = omega arith

            more_room : Low stand (16 + 2 * (i + 1))
            more_room = rw wide at (low_more w.low)

            children_low : Below (16 + 2 * (i + 1)) (child_scopes v i n)
            children_low = rw wide at (child_low i (16 + 2 * i) v (omega arith) (w.low.is i k.there) n)

    -- what placing the children asks
    pub walk_asked : {v : View} → Here v → (v.width < 1000) × (i < 200)
    walk_asked k = (omega (arith, w.low.is i k.there, few), few)

  pub ready_few : (t.k ≤ 16) × (t.sections ≤ 8)
  ready_few = let r = g.reads.ranges in (omega (arith, g.reads.k, r.few_variables), omega (arith, g.reads.sections, r.few_sections))

  pub ready_nodes : {i : ℕ} → i < t.nodes → i < 200
  ready_nodes h = omega (arith, g.reads.nodes, g.reads.ranges.few_nodes)

  pub ready_rooted : {i : ℕ} → i < t.nodes → Rooted sheet types starts t.root t.sections i g.sh g.ts
  ready_rooted h = record {
    main = g.reads.root;
    roots = sheet_roots g.reads;
    laid = rw g.reads.sections g.laid;
    own = omega (arith, g.reads.nodes);
  }

  pub walk_done : {stand : List Entry} {i : ℕ} → Walking types starts g.sh g.ts stand i → t.nodes ≤ i
      → None ≡ lowest_in (lowest (unfit g.sh g.ts) 0 (length g.sh.nodes))
  walk_done w h = lower_done (unfit g.sh g.ts) w.lower (omega (arith, g.reads.nodes))

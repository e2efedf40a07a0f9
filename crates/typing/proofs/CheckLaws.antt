-- The check says what it is to say: a sheet that passes has passed, and a node that is named is the lowest.
use Rattle.std.specs.Prelude.{◌≡◌, ◌⊎◌, Bool, true, false, eqb, length, get_or}
use Rattle.std.proofs.Math.Path.{refl, subst}
use Rattle.std.proofs.Common.{sym, ap, inl, inr}
use Rattle.std.proofs.Math.Bool.{cond}
use Rattle.std.proofs.Math.Option.{Option, none, some, none-ne-some, some-injective}
use mathlib.Core.List.{List, [], ◌∷◌, ◌++◌, map, map-append}
use Prim.Native.Nat.{ℕ, zero, suc, ◌+◌, ◌-◌, ◌≤◌, ◌<◌}
use Rattle.std.proofs.Math.Nat.{zero-add}
use native.Mathlib.Omega.{arith}
use Rattle.std.proofs.Math.Decide.{dec_lt, ℕ_discrete}
use Rattle.std.proofs.Math.ListN.{get_or-eq_default}
use borrow.Author.Tests.{eqb-true, eq-eqb, ltb-true, ltb-false}
use Rattle.node.specs.declared.Node.{Node}
use Rattle.node.specs.declared.Node.TheVariants.{Var, False, True, Empty, Number, Front, Pair, ListCase, TruthCase, Split, Call, Add, Each, Wide}
use Rattle.node.specs.Kinds.{children}
use Rattle.sheet.specs.Rows.{Every}
use Rattle.sheet.proofs.Rows.{children_behind}
use Rattle.sheet.specs.Sheet.{Sheet}
use Rattle.sheet.specs.Laws.{Child, Ranged, Ranges}
use Rattle.typing.specs.Types.{Ty}
use Rattle.typing.specs.Fits.{Lent, Scope, node_of, type_of, places, In, here, there, Root, section_roots, roots, Reached, root, child, Right, Passed}
use Rattle.typing.specs.Check.{apart, none_in, in_cons, count, used, twice, refuted, found, right?, below, standing, misfits, unfit, lowest}
use Rattle.typing.specs.Check.{Verdict, passes, refused_at, unless_at, check_sheet}

-- THE LOWEST
pub either : (b : Bool) → (b ≡ true) ⊎ (b ≡ false)
either true = inl refl
either false = inr refl

module _ (p : ℕ → Bool) where
  -- none of those up to j
  abbrev pub NoneBelow : ℕ → ℕ → Type 0
  NoneBelow i j = (k : ℕ) → i ≤ k → k < j → p k ≡ false

  from_here : {i j : ℕ} → p i ≡ false → NoneBelow (suc i) j → NoneBelow i j
  from_here {i} e h k a b = go (ℕ_discrete i k)
    where
      go : Dec (i ≡ k) → p k ≡ false
      go (yes q) = rw q at e
      go (no q) = h k (omega arith) b

  -- what is found, or that there is none
  pub data Lowest (i j : ℕ) : Option ℕ → Type 0 where
    no_such : NoneBelow i j → Lowest i j none
    such : {n : ℕ} → i ≤ n → n < j → p n ≡ true → NoneBelow i n → Lowest i j (some n)

  further : {i j : ℕ} {o : Option ℕ} → p i ≡ false → Lowest (suc i) j o → Lowest i j o
  further e (no_such h) = no_such (from_here e h)
  further {i} e (such {n} a b t h) = let le : i ≤ n = omega arith in such le b t (from_here e h)

  pub lowest_is : (i left : ℕ) → Lowest i (i + left) (lowest p i left)
  unfolding lowest
  lowest_is i zero = no_such λ k a b. apart (omega arith)
  lowest_is i (suc left) = go (lowest_is (suc i) left) (either (p i))
    where
      go : Lowest (suc i) (suc i + left) (lowest p (suc i) left) → (p i ≡ true) ⊎ (p i ≡ false)
          → Lowest i (i + suc left) (cond (p i) (some i) (lowest p (suc i) left))
      go h (inl t) =
          let le : i ≤ i = omega arith in let lt : i < i + suc left = omega arith in
          rw t (such le lt t λ k a b. apart (omega arith))
      go h (inr f) = let q : suc i + left ≡ i + suc left = omega arith in rw f (further f (rw q at h))

-- COUNTING
pub count-append : (n : ℕ) (xs ys : List ℕ) → count n (xs ++ ys) ≡ count n xs + count n ys
unfolding count
count-append n [] ys = sym (zero-add (count n ys))
count-append n (x ∷ xs) ys = let q = count-append n xs ys in rw q (omega arith)

module _ {A : Type 0} where
  pub in_count : {n : ℕ} {a : A} {l : List (ℕ × A)} → In (n, a) l → 1 ≤ count n (map (λ x. x.0) l)
  unfolding count
  in_count {n} here = rw (eq-eqb n n refl) (omega arith)
  in_count (there i) = let q = in_count i in omega arith

  pub found_in : (n : ℕ) (l : List (ℕ × A)) {a : A} → found n l ≡ some a → In (n, a) l
  unfolding found
  found_in n [] e = absurd (none-ne-some _ e)
  found_in n (x ∷ xs) {a} e = go (λ q. found_in n xs q) (either (eqb n x.0))
    where
      go : (found n xs ≡ some a → In (n, a) xs) → (eqb n x.0 ≡ true) ⊎ (eqb n x.0 ≡ false) → In (n, a) (x ∷ xs)
      go h (inl t) =
          let q : x.1 ≡ a = some-injective _ _ (rw t at e) in let z : n ≡ x.0 = eqb-true n x.0 t in
          rw (z, ← q) here
      go h (inr f) = there (h (rw f at e))

  -- where it stands once, it is found
  in_found : {n : ℕ} {a : A} {l : List (ℕ × A)} → In (n, a) l → count n (map (λ x. x.0) l) ≤ 1 → found n l ≡ some a
  unfolding found count
  in_found {n} here h = rw (eq-eqb n n refl)
  in_found {n} {a} (there {b} {l} i) h = go (λ q. in_found i q) (either (eqb n b.0))
    where
      go : (count n (map (λ x. x.0) l) ≤ 1 → found n l ≡ some a) → (eqb n b.0 ≡ true) ⊎ (eqb n b.0 ≡ false)
          → cond (eqb n b.0) (some b.1) (found n l) ≡ some a
      go k (inl t) = let j = in_count i in absurd (omega (arith, rw t at h))
      go k (inr f) = rw f (k (omega (arith, rw f at h)))

-- WHERE NODES STAND
module _ {A : Type 0} where
  in_left : {a : A} {xs : List A} (ys : List A) → In a xs → In a (xs ++ ys)
  in_left ys here = here
  in_left ys (there i) = there (in_left ys i)

  in_right : {a : A} (xs : List A) {ys : List A} → In a ys → In a (xs ++ ys)
  in_right [] i = i
  in_right (x ∷ xs) i = there (in_right xs i)

  in_append : {a : A} (xs : List A) {ys : List A} → In a (xs ++ ys) → In a xs ⊎ In a ys
  in_append [] i = inr i
  in_append (x ∷ xs) here = inl here
  in_append (x ∷ xs) (there i) = go (in_append xs i)
    where
      go : {a : A} {ys : List A} → In a xs ⊎ In a ys → In a (x ∷ xs) ⊎ In a ys
      go (inl j) = inl (there j)
      go (inr j) = inr j

in_map : {A B : Type 0} (f : A → B) {a : A} {l : List A} → In a l → In (f a) (map f l)
in_map f here = here
in_map f (there i) = there (in_map f i)

of_map : {A B : Type 0} (f : A → B) {b : B} (l : List A) → In b (map f l) → (a : A) × In a l × (f a ≡ b)
of_map f (x ∷ l) here = (x, here, refl)
of_map f (x ∷ l) (there i) = let q = of_map f l i in (q.0, there q.1, q.2)
of_map {A = A} {B = B} f {b = b} [] x' = elim x' [ ]

-- the children of a node, with their scopes
places-children : (ts : Lent) (nd : Node) (t : Ty) (Γ : Scope) → map (λ (x : ℕ × Scope). x.0) (places ts nd t Γ) ≡ children nd
unfolding children
places-children ts (Var x) t Γ = refl
places-children ts False t Γ = refl
places-children ts True t Γ = refl
places-children ts Empty t Γ = refl
places-children ts (Number n) t Γ = refl
places-children ts (Wide n) t Γ = refl
places-children ts (Front a b) t Γ = refl
places-children ts (Pair a b) t Γ = refl
places-children ts (ListCase s e te n tn df dr) t Γ = refl
places-children ts (TruthCase s f tf g tg) t Γ = refl
places-children ts (Split s i) t Γ = refl
places-children ts (Call c x y) t Γ = refl
places-children ts (Add n k) t Γ = refl
places-children ts (Each s c x d) t Γ = refl

every_in : {A : Type 0} (Q : ℕ → Type 0) {n : ℕ} {a : A} (l : List (ℕ × A)) → Every Q (map (λ x. x.0) l) → In (n, a) l → Q n
every_in Q (x ∷ l) h here = h.0
every_in Q (x ∷ l) h (there i) = every_in Q l h.1 i
every_in {A = A} Q {n = n} {a = a} [] h x'' = elim x'' [ ]

pub all_ranged : {sh : Sheet} → Ranges sh → (n : ℕ) → Ranged (length sh.nodes) (length sh.sections) n (node_of sh n)
all_ranged {sh} r n = go (dec_lt n (length sh.nodes))
  where
    go : Dec (n < length sh.nodes) → Ranged (length sh.nodes) (length sh.sections) n (node_of sh n)
    go (yes h) = r.node n h
    go (no h) = let q : length sh.nodes ≤ n = omega arith in rw (get_or-eq_default sh.nodes False q) tt

module _ (sh : Sheet) (ts : Lent) (rs : Ranges sh) where
  -- a child is a node behind
  child_behind : {n m : ℕ} (Γ : Scope) {Δ : Scope} → In (m, Δ) (places ts (node_of sh n) (type_of ts n) Γ) → Child (length sh.nodes) n m
  child_behind {n} {m} Γ i = every_in (Child (length sh.nodes) n) (places ts (node_of sh n) (type_of ts n) Γ)
      (rw (places-children ts (node_of sh n) (type_of ts n) Γ)
      (children_behind (length sh.nodes) (length sh.sections) n (node_of sh n) (all_ranged rs n))) i

  section_inside : (c : ℕ) (l : List ℕ) → ((k : ℕ) → k < length l → get_or l k 0 < length sh.nodes) → (r : Root) → In r (section_roots ts c l)
      → r.node < length sh.nodes
  section_inside c (x ∷ l) h r here = h 0 (omega arith)
  section_inside c (x ∷ l) h r (there i) = section_inside (suc c) l (λ k q. h (suc k) (omega arith)) r i
  section_inside c [] h r x'' = elim x'' [ ]

  root_inside : (r : Root) → In r (roots sh ts) → r.node < length sh.nodes
  root_inside = in_cons (λ r. r.node < length sh.nodes) rs.root (section_inside 0 sh.sections rs.section)

  pub reached_inside : {n : ℕ} {Γ : Scope} → Reached sh ts n Γ → n < length sh.nodes
  reached_inside (root i) = root_inside _ i
  reached_inside (child {Γ} r i) = (child_behind Γ i).inside

  -- what stands there is reached
  below_reached : {i m : ℕ} {Δ : Scope} (o : Option Scope) → ((Γ : Scope) → o ≡ some Γ → Reached sh ts i Γ) → In (m, Δ) (below sh ts i o)
      → Reached sh ts m Δ
  unfolding below
  below_reached none h k = none_in k refl
  below_reached (some Γ) h k = child (h Γ refl) k

  standing_reached : (i : ℕ) {m : ℕ} {Δ : Scope} → In (m, Δ) (standing sh ts i) → Reached sh ts m Δ
  unfolding standing
  standing_reached zero j =
      let q = of_map (λ (r : Root). (r.node, r.scope)) (roots sh ts) j in
      subst (λ (x : ℕ × Scope). Reached sh ts x.0 x.1) q.2 (root q.1)
  standing_reached (suc i) {m} {Δ} j = go (λ k. standing_reached i k) (λ Γ k. standing_reached i k) (in_append (standing sh ts i) j)
    where
      go : (In (m, Δ) (standing sh ts i) → Reached sh ts m Δ) → ((Γ : Scope) → In (i, Γ) (standing sh ts i) → Reached sh ts i Γ)
          → In (m, Δ) (standing sh ts i) ⊎ In (m, Δ) (below sh ts i (found i (standing sh ts i))) → Reached sh ts m Δ
      go h g (inl k) = h k
      go h g (inr k) = below_reached (found i (standing sh ts i)) (λ Γ e. g Γ (found_in i (standing sh ts i) e)) k

  -- it stays there
  later : (d i : ℕ) {x : ℕ × Scope} → In x (standing sh ts i) → In x (standing sh ts (d + i))
  unfolding standing
  later zero i h = rw zero-add h
  later (suc d) i h = let q : suc d + i ≡ suc (d + i) = omega arith in rw q (in_left _ (later d i h))

  by_then : (i j : ℕ) {x : ℕ × Scope} → i ≤ j → In x (standing sh ts i) → In x (standing sh ts j)
  by_then i j h k = let q : (j - i) + i ≡ j = omega arith in rw q at (later (j - i) i k)

  -- no oftener than it is used
  root_numbers : (c : ℕ) (l : List ℕ) → map (λ (x : ℕ × Scope). x.0) (map (λ (r : Root). (r.node, r.scope)) (section_roots ts c l)) ≡ l
  root_numbers c [] = refl
  root_numbers c (r ∷ l) = ap (λ z. r ∷ z) (root_numbers (suc c) l)

  below-count : (m i : ℕ) (o : Option Scope) → count m (map (λ (x : ℕ × Scope). x.0) (below sh ts i o)) ≤ count m (children (node_of sh i))
  unfolding below count
  below-count m i none = omega arith
  below-count m i (some Γ) = rw (places-children ts (node_of sh i) (type_of ts i) Γ) (omega arith)

  pub standing-count : (m i : ℕ) → count m (map (λ (x : ℕ × Scope). x.0) (standing sh ts i)) ≤ count m (used sh i)
  unfolding standing used
  standing-count m zero = rw (root_numbers 0 sh.sections) (omega arith)
  standing-count m (suc i) = rw (map-append, count-append, count-append)
      (omega (arith, standing-count m i, below-count m i (found i (standing sh ts i))))

  used_more : (m d i : ℕ) → count m (used sh i) ≤ count m (used sh (d + i))
  unfolding used
  used_more m zero i = rw zero-add (omega arith)
  used_more m (suc d) i = let q : suc d + i ≡ suc (d + i) = omega arith in rw (q, count-append) (omega (arith, used_more m d i))

  pub used_then : (m i j : ℕ) → i ≤ j → count m (used sh i) ≤ count m (used sh j)
  used_then m i j h = let q : (j - i) + i ≡ j = omega arith in rw q at (used_more m (j - i) i)

  module _ (once : (m : ℕ) → m < length sh.nodes → count m (used sh (length sh.nodes)) ≤ 1) where
    -- what is reached stands there, once the nodes before it are done, and is found
    pub standing-found : {m : ℕ} {Δ : Scope} → Reached sh ts m Δ → In (m, Δ) (standing sh ts m) → found m (standing sh ts m) ≡ some Δ
    standing-found {m} r i = let h = reached_inside r in
        in_found i (omega (arith, standing-count m m, used_then m m (length sh.nodes) (omega arith), once m h))

    reached_standing : {m : ℕ} {Δ : Scope} → Reached sh ts m Δ → In (m, Δ) (standing sh ts m)
    unfolding standing below
    reached_standing (root {r} i) = by_then 0 r.node (omega arith) (in_map (λ (r : Root). (r.node, r.scope)) i)
    reached_standing (child {n} {m} {Γ} r i) =
        let e = standing-found r (reached_standing r) in
        by_then (suc n) m (child_behind Γ i).above (in_right (standing sh ts n) (rw e i))

    pub reached_found : {m : ℕ} {Δ : Scope} → Reached sh ts m Δ → found m (standing sh ts m) ≡ some Δ
    reached_found r = standing-found r (reached_standing r)

  -- what is found is reached, and fits where the check finds no fault
  pub found_reached : (i : ℕ) {m : ℕ} {Δ : Scope} → found m (standing sh ts i) ≡ some Δ → Reached sh ts m Δ
  found_reached i {m} e = standing_reached i (found_in m (standing sh ts i) e)

-- THE VERDICT
refuted_no : {A : Type 0} (d : Dec A) → refuted d ≡ false → A
unfolding refuted
refuted_no (yes a) e = a
refuted_no (no a) e = apart (cc)

refuted_yes : {A : Type 0} (d : Dec A) → refuted d ≡ true → A → ⊥
unfolding refuted
refuted_yes (yes a) e = apart (cc)
refuted_yes (no a) e = a

module _ (sh : Sheet) (ts : Lent) where
  -- a node that is found, and does not fit
  pub record Unfit (n : ℕ) : Type 0 where
    pub scope : Scope
    pub reached : Reached sh ts n scope
    pub wrong : Right sh ts n scope → ⊥

  -- those below n that are reached fit
  abbrev pub RightBelow : ℕ → Type 0
  RightBelow n = (m : ℕ) (Γ : Scope) → m < n → Reached sh ts m Γ → Right sh ts m Γ

  -- each node, used at most once
  abbrev pub OnceBelow : ℕ → Type 0
  OnceBelow n = (m : ℕ) → m < n → count m (used sh (length sh.nodes)) ≤ 1

  pub data Says : Verdict → Type 0 where
    all_right : OnceBelow (length sh.nodes) → Passed sh ts → Says passes
    used_twice : {n : ℕ} → n < length sh.nodes → 2 ≤ count n (used sh (length sh.nodes)) → OnceBelow n → Says (refused_at 81 n)
    not_right : {n : ℕ} → n < length sh.nodes → OnceBelow (length sh.nodes) → Unfit n → RightBelow n → Says (refused_at 82 n)

  module _ (rs : Ranges sh) (once : OnceBelow (length sh.nodes)) where
    fit : (n : ℕ) (Γ : Scope) → Reached sh ts n Γ → unfit sh ts n ≡ false → Right sh ts n Γ
    unfolding unfit misfits
    fit n Γ r e = refuted_no (right? sh ts n Γ) (rw (reached_found sh ts rs once r) at e)

    misfit : (n : ℕ) (o : Option Scope) → found n (standing sh ts n) ≡ o → misfits sh ts n o ≡ true → Unfit n
    unfolding misfits
    misfit n none q e = apart (cc)
    misfit n (some Γ) q e = record { scope = Γ; reached = found_reached sh ts rs n q; wrong = refuted_yes (right? sh ts n Γ) e }

    says_82 : {o : Option ℕ} → Lowest (unfit sh ts) 0 (length sh.nodes) o → Says (unless_at 82 o passes)
    unfolding unless_at unfit
    says_82 (no_such h) = all_right once λ n Γ r. fit n Γ r (h n (omega arith) (reached_inside sh ts rs r))
    says_82 (such {n} a b t h) = not_right b once (misfit n (found n (standing sh ts n)) refl t) λ m Γ lt r. fit m Γ r (h m (omega arith) lt)

  says_81 : Ranges sh → {o : Option ℕ} → Lowest (twice sh) 0 (length sh.nodes) o
      → Says (unless_at 81 o (unless_at 82 (lowest (unfit sh ts) 0 (length sh.nodes)) passes))
  unfolding unless_at twice
  says_81 rs (no_such h) = says_82 rs (λ m lt. ltb-false 1 _ (h m (omega arith) lt)) (rw zero-add at (lowest_is (unfit sh ts) 0 (length sh.nodes)))
  says_81 rs (such {n} a b t h) = used_twice b (ltb-true 1 _ t) λ m lt. ltb-false 1 _ (h m (omega arith) lt)

  pub check_says : Ranges sh → Says (check_sheet sh ts)
  unfolding check_sheet
  check_says rs = says_81 rs (rw zero-add at (lowest_is (twice sh) 0 (length sh.nodes)))

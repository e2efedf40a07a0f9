-- Plans that differ only in variables that no record names read out alike, and take a list alike (document 02, request 13, second half).
-- Of every sheet: a record names a variable if it has a field for one (10, 1A and 1C).
use Rattle.std.specs.Prelude.{◌≡◌, Bool, true, false, ◌||◌, ◌⊎◌, List, [], ◌∷◌, ◌++◌, eqb, length, get_or, take, set}
use Rattle.std.proofs.Math.Path.{refl, ap, fun_ext}
use Rattle.std.proofs.Common.{◌∙◌, inl, inr, arith, length-take-le, eqb-true, eq-eqb}
use Rattle.std.proofs.Math.Option.{Option, none, some, some-injective}
use Prim.Native.Nat.{ℕ, zero, suc, ◌+◌, ◌<◌}
use Rattle.std.proofs.Math.ListN.{get_elem?, length-append, length-set}
use Rattle.value.specs.All.{All, none, each}
use Rattle.value.specs.Value.{Value, Values, vfalse, vtrue, list, number, wide, nil, cons, size}
use Rattle.node.specs.declared.Node.{Node}
use Rattle.node.specs.declared.Node.TheVariants.{Var, False, True, Empty, Number, Front, Pair, ListCase, TruthCase, Split, Call, Add, Each, Wide}
use Rattle.node.specs.Kinds.{variables}
use Rattle.sheet.specs.Rows.{Every}
use Rattle.sheet.specs.Sheet.{Sheet}
use Rattle.rules.specs.Outcome.{Out, ◌>>=◌, plus, given, choose}
use Rattle.rules.specs.Semantics
use Rattle.rules.specs.Counting.{
  Env,
  Cells,
  Getter,
  Putter,
  two,
  tested,
  on_list,
  rest_of,
  get_node,
  get,
  or_old,
  constant,
  write,
  both,
  under,
  put_each,
  mk_list,
  mk_pair,
  put_node,
  put,
}
use Rattle.rules.specs.Laws.Outcomes.{After, stopped}
use Rattle.rules.proofs.Laws.Outcomes.{fine, after_map, after_any, after_plus, after_bind, after_given, after_choose, after_list}
use Rattle.undo.specs.Alike.{Occurs, here, there, Covers, Named, stands, names, SameAt, Not, Spares, Left}

pub every : (N : ℕ → Type 0) (l : List ℕ) → ((x : ℕ) → Occurs x l → N x) → Every N l
every N [] h = tt
every N (x ∷ l) h = (h x here, every N l λ y s. h y (there s))

pub named_covers : (sh : Sheet) → Covers sh (Named sh)
named_covers sh i = every (Named sh) _ λ x s. (i, s)

or_either : (a b : Bool) → a || b ≡ true → (a ≡ true) ⊎ (b ≡ true)
or_either true b e = inl refl
or_either false b e = inr e

or-true : (b : Bool) → b || true ≡ true
or-true true = refl
or-true false = refl

or_none : (a b : Bool) → a || b ≡ false → (a ≡ false) × (b ≡ false)
or_none true b e = let z : ◌≡◌ {A = ℕ} 0 1 = cc in absurd (omega arith)
or_none false b e = (refl, e)

stands-true : (x : ℕ) (l : List ℕ) → stands x l ≡ true → Occurs x l
unfolding stands
stands-true x [] e = let z : ◌≡◌ {A = ℕ} 0 1 = cc in absurd (omega arith)
stands-true x (y ∷ l) e = go (stands-true x l) (or_either (eqb y x) (stands x l) e)
  where
    go : (stands x l ≡ true → Occurs x l) → (eqb y x ≡ true) ⊎ (stands x l ≡ true) → Occurs x (y ∷ l)
    go h (inl q) = rw (eqb-true y x q) here
    go h (inr q) = there (h q)

true-stands : {x : ℕ} {l : List ℕ} → Occurs x l → stands x l ≡ true
unfolding stands
true-stands {x} here = rw (eq-eqb x x refl)
true-stands {x} (there {y} {l} s) = rw (true-stands s) (or-true (eqb y x))

-- it says yes where a record names x
pub names-true : (x : ℕ) (ns : List Node) → names x ns ≡ true → (i : ℕ) × Occurs x (variables (get_or ns i False))
unfolding names
names-true x [] e = let z : ◌≡◌ {A = ℕ} 0 1 = cc in absurd (omega arith)
names-true x (n ∷ ns) e = go (names-true x ns) (or_either (stands x (variables n)) (names x ns) e)
  where
    go : (names x ns ≡ true → (i : ℕ) × Occurs x (variables (get_or ns i False))) → (stands x (variables n) ≡ true) ⊎ (names x ns ≡ true)
        → (i : ℕ) × Occurs x (variables (get_or (n ∷ ns) i False))
    go h (inl q) = (0, stands-true x (variables n) q)
    go h (inr q) = let (i, s) = h q in (suc i, s)

-- and no where none does
pub names-false : (x : ℕ) (ns : List Node) → names x ns ≡ false → (i : ℕ) → Occurs x (variables (get_or ns i False)) → ⊥
unfolding names variables stands
names-false x [] e i s = let q = true-stands s in let z : ◌≡◌ {A = ℕ} 0 1 = cc in omega arith
names-false x (n ∷ ns) e zero s =
    let q = true-stands s in let h = (or_none (stands x (variables n)) (names x ns) e).0 in let z : ◌≡◌ {A = ℕ} 0 1 = cc in omega arith
names-false x (n ∷ ns) e (suc i) s = names-false x ns (or_none (stands x (variables n)) (names x ns) e).1 i s

at_append : (N : ℕ → Type 0) (μ ν ys : Env) → length μ ≡ length ν → ((x : ℕ) → N x → get_elem? μ x ≡ get_elem? ν x)
    → (x : ℕ) → N x → get_elem? (μ ++ ys) x ≡ get_elem? (ν ++ ys) x
at_append N [] [] ys e h x n = refl
at_append N [] (b ∷ ν) ys e h x n = absurd (omega arith)
at_append N (a ∷ μ) [] ys e h x n = absurd (omega arith)
at_append N (a ∷ μ) (b ∷ ν) ys e h zero n = h zero n
at_append N (a ∷ μ) (b ∷ ν) ys e h (suc x) n = at_append (λ y. N (suc y)) μ ν ys (omega arith) (λ y. h (suc y)) x n

same_append : (N : ℕ → Type 0) (μ ν ys : Env) → SameAt N μ ν → SameAt N (μ ++ ys) (ν ++ ys)
same_append N μ ν ys h = (omega (arith, h.0, length-append μ ys, length-append ν ys), at_append N μ ν ys h.0 h.1)

-- OUTCOMES OF EQUAL PARTS ARE EQUAL
module _ {A B : Type 0} where
  bind_ext : {m m' : Out A} {f f' : A → Out B} → m ≡ m' → ((a : A) → f a ≡ f' a) → (m >>= f) ≡ (m' >>= f')
  bind_ext {m} {m'} {f} {f'} e h = rw e (ap (λ (k : A → Out B). m' >>= k) (fun_ext h))

  given_ext : (c : ℕ) {o o' : Option A} {f f' : A → Out B} → o ≡ o' → ((a : A) → f a ≡ f' a) → given c o f ≡ given c o' f'
  given_ext c {o} {o'} {f} {f'} e h = rw e (ap (λ (k : A → Out B). given c o' k) (fun_ext h))

list_ext : {B : Type 0} (l : Values) {x x' : B} {f f' : Value → Values → B} → x ≡ x' → ((v : Value) (r : Values) → f v r ≡ f' v r)
    → on_list l x f ≡ on_list l x' f'
unfolding on_list
list_ext nil e h = e
list_ext (cons v r) e h = h v r

choose_ext : {A P Q : Type 0} (p : Dec P) (q : Dec Q) {x x' y y' : Out A} → x ≡ x' → y ≡ y' → choose p q x y ≡ choose p q x' y'
choose_ext p q e k = rw (e, k)

module _ (N : ℕ → Type 0) where
  -- GET

  abbrev GetsAlike : Getter → Type 0
  GetsAlike g = (n : ℕ) (μ ν : Env) → SameAt N μ ν → g n μ ≡ g n ν

  module _ (g : Getter) (gets : GetsAlike g) (sh : Sheet) (μ ν : Env) (h : SameAt N μ ν) where
    get_node_alike : (nd : Node) → Every N (variables nd) → get_node g sh nd μ ≡ get_node g sh nd ν
    unfolding Semantics.get_node variables
    get_node_alike (Var x) e = given_ext 42 (h.1 x e.0) λ v. refl
    get_node_alike False e = refl
    get_node_alike True e = refl
    get_node_alike Empty e = refl
    get_node_alike (Number n) e = refl
    get_node_alike (Wide n) e = refl
    get_node_alike (Front a b) e = bind_ext (gets a μ ν h) λ f. bind_ext (gets b μ ν h) λ r. refl
    get_node_alike (Pair a b) e = bind_ext (gets a μ ν h) λ f. bind_ext (gets b μ ν h) λ r. refl
    get_node_alike (ListCase s b tb n tn df dr) e = bind_ext (gets s μ ν h) λ v. given_ext 43 refl λ l.
        list_ext l.0 (ap (tested tb) (gets b μ ν h)) λ f r. ap (tested tn) (gets n _ _ (same_append N μ ν (two f (list r)) h))
    get_node_alike (TruthCase s f tf t t₁) e = bind_ext (gets s μ ν h) λ v. given_ext 43 refl λ b. ap (tested _) (gets _ μ ν h)
    get_node_alike (Split s i) e = bind_ext (gets s μ ν h) λ v. given_ext 43 refl λ p. gets i _ _ (same_append N μ ν (two p.0 p.1) h)
    get_node_alike (Call sec x y) e = given_ext 42 (h.1 x e.0) λ a. given_ext 42 (h.1 y e.1.0) λ b. refl
    get_node_alike (Add n c) e = bind_ext (gets n μ ν h) λ v. refl
    get_node_alike (Each s sec x d) e = bind_ext (gets s μ ν h) λ v. given_ext 43 refl λ l. given_ext 42 (h.1 x e.0) λ a. refl

  pub get_alike : (l : ℕ) (sh : Sheet) → Covers sh N → GetsAlike (get l sh)
  unfolding Semantics.get
  get_alike zero sh c n μ ν h = refl
  get_alike (suc l) sh c n μ ν h = ap (plus 1) (get_node_alike (get l sh) (get_alike l sh c) sh μ ν h _ (c n))

  -- PUT: the cells are the same, written with the same

  abbrev PutsAlike : Putter → Type 0
  PutsAlike p = (n : ℕ) (μ ν : Env) (σ : List ℕ) (v : Value) (W : Cells) → SameAt N μ ν → p n μ σ v W ≡ p n ν σ v W

  module _ (g : Getter) (gets : GetsAlike g) (p : Putter) (puts : PutsAlike p) (sh : Sheet) (μ ν : Env) (h : SameAt N μ ν)
      (σ : List ℕ) (v : Value) (W : Cells) where
    both_alike : (a b : ℕ) (x y : Value) → both p μ σ W a x b y ≡ both p ν σ W a x b y
    unfolding Semantics.both
    both_alike a b x y = bind_ext (puts a μ ν σ x W h) λ X. puts b μ ν σ y X h

    under_alike : (b s : ℕ) (mk : Value → Value → Option Value) (f r : Value) → under p μ σ W b v s mk f r ≡ under p ν σ W b v s mk f r
    unfolding Semantics.under
    under_alike b s mk f r = bind_ext (puts b _ _ _ v _ (same_append N μ ν (two f r) h)) λ X. given_ext 42 refl λ x. given_ext 42 refl λ y.
        given_ext 43 refl λ u. given_ext 44 refl λ _. puts s μ ν σ u _ h

    put_node_alike : (nd : Node) → Every N (variables nd) → put_node g p sh nd μ σ v W ≡ put_node g p sh nd ν σ v W
    unfolding Semantics.put_node variables
    put_node_alike (Var x) e = refl
    put_node_alike False e = refl
    put_node_alike True e = refl
    put_node_alike Empty e = refl
    put_node_alike (Number n) e = refl
    put_node_alike (Wide n) e = refl
    put_node_alike (Front a b) e = given_ext 51 refl λ c. both_alike a b _ _
    put_node_alike (Pair a b) e = given_ext 51 refl λ c. both_alike a b _ _
    put_node_alike (ListCase s b tb n tn df dr) e = bind_ext (gets s μ ν h) λ o. given_ext 43 refl λ l. list_ext l.0
        (choose_ext _ _ (both_alike b s v (list nil)) (bind_ext refl λ f. bind_ext refl λ r. given_ext 43 refl λ _. under_alike n s mk_list f r))
        λ f r. choose_ext _ _ (under_alike n s mk_list f (list r)) (both_alike b s v (list nil))
    put_node_alike (TruthCase s f tf t t₁) e = bind_ext (gets s μ ν h) λ o. given_ext 43 refl λ b. choose_ext _ _ (both_alike _ s v _) (both_alike _ s v _)
    put_node_alike (Split s i) e = bind_ext (gets s μ ν h) λ o. given_ext 43 refl λ c. under_alike i s mk_pair _ _
    put_node_alike (Call sec x y) e = given_ext 42 (h.1 x e.0) λ a. given_ext 42 refl λ c. given_ext 42 (h.1 y e.1.0) λ b. refl
    put_node_alike (Add n c) e = given_ext 51 refl λ m. given_ext 52 refl λ _. puts n μ ν σ _ W h
    put_node_alike (Each s sec x d) e = given_ext 51 refl λ l. bind_ext (gets s μ ν h) λ o. given_ext 43 refl λ old. given_ext 42 (h.1 x e.0) λ a.
        given_ext 42 refl λ c. bind_ext refl λ q. puts s μ ν σ _ _ h

  pub put_alike : (l : ℕ) (sh : Sheet) → Covers sh N → PutsAlike (put l sh)
  unfolding Semantics.put
  put_alike zero sh c n μ ν σ v W h = refl
  put_alike (suc l) sh c n μ ν σ v W h = ap (plus 1)
      (put_node_alike (get l sh) (get_alike l sh c) (put l sh) (put_alike l sh c) sh μ ν h σ v W _ (c n))

spares_of : (c : ℕ) (N : ℕ → Type 0) {τ : List ℕ} → All (Not c) τ → Spares N c τ
spares_of c N none x d n e = let z : ◌≡◌ {A = ℕ} 0 1 = cc in absurd (omega arith)
spares_of c N (each k ks) zero d n e = rw (some-injective _ _ e) at k
spares_of c N (each k ks) (suc x) d n e = spares_of c (λ y. N (suc y)) ks x d n e

spares_append : (N : ℕ → Type 0) (c : ℕ) (σ : List ℕ) {τ : List ℕ} → Spares N c σ → All (Not c) τ → Spares N c (σ ++ τ)
spares_append N c [] h k x d n e = spares_of c N k x d n e
spares_append N c (a ∷ σ) h k zero d n e = h zero d n e
spares_append N c (a ∷ σ) h k (suc x) d n e = spares_append (λ y. N (suc y)) c σ (λ y. h (suc y)) k x d n e

at_front : {A : Type 0} (xs ys : List A) (c : ℕ) → c < length xs → get_elem? (xs ++ ys) c ≡ get_elem? xs c
at_front [] ys c h = absurd (omega arith)
at_front (x ∷ xs) ys zero h = refl
at_front (x ∷ xs) ys (suc c) h = at_front xs ys c (omega arith)

at_take : {A : Type 0} (n : ℕ) (xs : List A) (c : ℕ) → c < n → get_elem? (take n xs) c ≡ get_elem? xs c
at_take zero xs c h = absurd (omega arith)
at_take (suc n) [] c h = refl
at_take (suc n) (x ∷ xs) zero h = refl
at_take (suc n) (x ∷ xs) (suc c) h = at_take n xs c (omega arith)

at_other : {A : Type 0} (xs : List A) (d c : ℕ) (a : A) → (d ≡ c → ⊥) → get_elem? (set xs d a) c ≡ get_elem? xs c
at_other [] d c a h = refl
at_other (x ∷ xs) zero zero a h = absurd (h refl)
at_other (x ∷ xs) zero (suc c) a h = refl
at_other (x ∷ xs) (suc d) zero a h = refl
at_other (x ∷ xs) (suc d) (suc c) a h = at_other xs d c a (λ e. h (omega arith))

left_refl : (c : ℕ) (W : Cells) → Left c W W
left_refl c W = record { many = refl; same = refl }

left_trans : {c : ℕ} {W X Y : Cells} → Left c W X → Left c X Y → Left c W Y
left_trans h k = record { many = k.many ∙ h.many; same = k.same ∙ h.same }

-- cells are added behind, and dropped again
left_inside : (c : ℕ) (W new X : Cells) → c < length W → Left c (W ++ new) X → Left c W (take (length W) X)
left_inside c W new X h k = record {
  many = length-take-le (length W) X (omega (arith, length-append W new));
  same = at_take (length W) X c h ∙ k.same ∙ at_front W new c h;
}

module _ (N : ℕ → Type 0) (c : ℕ) where
  abbrev PutsSpare : Putter → Type 0
  PutsSpare p = (n : ℕ) (μ : Env) (σ : List ℕ) (v : Value) (W : Cells) → Spares N c σ → c < length W
      → After (Unit {0}) (λ X s. Left c W X) (p n μ σ v W)

  module _ (g : Getter) (p : Putter) (ih : PutsSpare p) (root d e : ℕ) (ne : Not c e) (a : Value) where
    each_spares : (n : ℕ) (old l : Values) (W : Cells) → c < length W → After (Unit {0}) (λ q s. Left c W q.1) (put_each g p root d e a n old l W)
    unfolding Semantics.put_each
    each_spares n old nil W z = fine (left_refl c W)
    each_spares n old (cons v r) W z = after_bind (after_any _ tt) λ (m : Value) i _ _.
        after_bind (ih root _ _ v _ (spares_of c N (each (λ q. omega arith) (each ne none))) (rw length-append (omega arith))) λ X j _ hx.
        after_given _ λ o _. after_given _ λ _ _. let k = left_inside c W (none ∷ []) X z hx in
        after_bind (each_spares (n + suc (size (or_old o m))) (rest_of old) r _ (omega arith)) λ q t _ hq. fine (left_trans k hq)

  module _ (g : Getter) (p : Putter) (ih : PutsSpare p) (sh : Sheet) (μ : Env) (σ : List ℕ) (v : Value) (W : Cells)
      (sp : Spares N c σ) (z : c < length W) where
    abbrev Leaves : Out Cells → Type 0
    Leaves = After (Unit {0}) (λ X s. Left c W X)

    constant_spares : (u : Value) → Leaves (constant v u W)
    unfolding Semantics.constant
    constant_spares u = after_given _ λ _ _. fine (left_refl c W)

    write_spares : (e : ℕ) (o : Option Value) → Not c e → Leaves (write e v W o)
    unfolding Semantics.write
    write_spares e none ne = fine (record { many = length-set W e (some v); same = at_other W e c (some v) ne })
    write_spares e (some w) ne = after_given _ λ _ _. fine (left_refl c W)

    both_spares : (a b : ℕ) (x y : Value) → Leaves (both p μ σ W a x b y)
    unfolding Semantics.both
    both_spares a b x y = after_bind (ih a μ σ x W sp z) λ X i _ hx. after_map (ih b μ σ y X sp (omega arith)) λ Y j hy. left_trans hx hy

    under_spares : (b s : ℕ) (mk : Value → Value → Option Value) (f r : Value) → Leaves (under p μ σ W b v s mk f r)
    unfolding Semantics.under
    under_spares b s mk f r =
        after_bind (ih b _ _ v _ (spares_append N c σ sp (each (λ q. omega arith) (each (λ q. omega arith) none))) (rw length-append (omega arith)))
        λ X i _ hx. after_given _ λ x _. after_given _ λ y _. after_given _ λ u _. after_given _ λ _ _.
        let k = left_inside c W (two none none) X z hx in after_map (ih s μ σ u _ sp (omega arith)) λ Y j hy. left_trans k hy

    put_node_spares : (nd : Node) → Every N (variables nd) → Leaves (put_node g p sh nd μ σ v W)
    unfolding Semantics.put_node variables
    put_node_spares (Var x) e = after_given _ λ d ed. after_given _ λ o _. write_spares d o (sp x d e.0 ed)
    put_node_spares False e = constant_spares vfalse
    put_node_spares True e = constant_spares vtrue
    put_node_spares Empty e = constant_spares (list nil)
    put_node_spares (Number n) e = constant_spares (number n)
    put_node_spares (Wide n) e = constant_spares (wide n)
    put_node_spares (Front a b) e = after_given _ λ _ _. both_spares a b _ _
    put_node_spares (Pair a b) e = after_given _ λ _ _. both_spares a b _ _
    put_node_spares (ListCase s b tb n tn df dr) e = after_bind (after_any _ tt) λ o i _ _. after_given _ λ l _. after_list l.0
        (λ _. after_choose _ _ (λ _. both_spares b s v (list nil)) λ _. after_bind (after_any _ tt) λ f j _ _. after_bind (after_any _ tt) λ r k _ _.
        after_given _ λ _ _. under_spares n s mk_list f r)
        (λ f r _. after_choose _ _ (λ _. under_spares n s mk_list f (list r)) (λ _. both_spares b s v (list nil)))
    put_node_spares (TruthCase s f tf t t₁) e = after_bind (after_any _ tt) λ o i _ _. after_given _ λ b _.
        after_choose _ _ (λ _. both_spares _ s v _) (λ _. both_spares _ s v _)
    put_node_spares (Split s i) e = after_bind (after_any _ tt) λ o j _ _. after_given _ λ q _. under_spares i s mk_pair _ _
    put_node_spares (Call sec x y) e = after_given _ λ a _. after_given _ λ d ed. after_given _ λ b _. after_given _ λ f ef.
        ih _ _ _ v W (spares_of c N (each (sp x d e.0 ed) (each (sp y f e.1.0 ef) none))) z
    put_node_spares (Add n k) e = after_given _ λ m _. after_given _ λ _ _. ih n μ σ _ W sp z
    put_node_spares (Each s sec x d) e = after_given _ λ l _. after_bind (after_any _ tt) λ o i _ _. after_given _ λ old _. after_given _ λ a _.
        after_given _ λ f ef. after_bind (each_spares g p ih _ d f (sp x f e.0 ef) a _ old.0 l.0 W z) λ q j _ hq.
        after_map (ih s μ σ _ q.1 sp (omega arith)) λ X t hx. left_trans hq hx

  pub put_spares : (l : ℕ) (sh : Sheet) → Covers sh N → PutsSpare (put l sh)
  unfolding Semantics.put
  put_spares zero sh k n μ σ v W sp z = stopped tt
  put_spares (suc l) sh k n μ σ v W sp z = after_plus 1 (put_node_spares (get l sh) (put l sh) (put_spares l sh k) sh μ σ v W sp z _ (k n))

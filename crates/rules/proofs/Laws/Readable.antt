-- Whatever a walk gets or writes can be read back (at most 256 bytes, every number one that the bytes of its kind hold), if the plan and the view
-- could be read.
use Rattle.rules.specs.Counting.{counting}
use Rattle.std.specs.Prelude.{◌≡◌, refl, Bool, true, false, not, ℕ, zero, suc, ◌+◌, ◌-◌, ◌≤◌, ◌<◌, get_or, take, set, length}
use Rattle.std.proofs.Math.Option.{Option, none, some, none-ne-some, some-injective, map-eq-some_iff}
use mathlib.Core.List.{List, [], ◌∷◌, ◌++◌}
use Rattle.std.proofs.Common.{arith}
use Rattle.std.proofs.Math.ListN.{get_elem?}
use Rattle.value.specs.All.{All, none, each}
use Rattle.value.specs.Value.{
  Value,
  Values,
  vfalse,
  vtrue,
  list,
  number,
  wide,
  pair,
  nil,
  cons,
  size,
  truth,
  Fits,
  Encodable,
  e_false,
  e_true,
  e_list,
  e_number,
  e_wide,
  e_pair,
  e_nil,
}
use Rattle.value.specs.Laws.{Readable}
use Rattle.value.proofs.Laws.{readable_front, readable_pair, encodable_front}
use Rattle.value.specs.Views.{as_list}
use Rattle.node.specs.declared.Node.{Node}
use Rattle.node.specs.declared.Node.TheVariants.{Var, False, True, Empty, Number, Front, Pair, ListCase, TruthCase, Split, Call, Add, Each, Wide}
use Rattle.sheet.specs.Sheet.{Sheet}
use Rattle.rules.specs.Outcome.{Out}
use Rattle.rules.specs.Semantics
use Rattle.rules.specs.Counting.{Env, Cells, Getter, Putter, two, tested, get_each, get_node, get, or_old, constant, write, both, under, rest_of}
use Rattle.rules.specs.Counting.{stood_for, put_each, mk_list, mk_pair, put_node, put}
use Rattle.rules.specs.Laws.Outcomes.{After, stopped}
use Rattle.rules.proofs.Laws.Outcomes.{fine, after_plus, after_bind, after_given, after_choose, after_list}

pub data ReadableCell : Option Value → Type 0 where
  blank : ReadableCell none
  full : {v : Value} → Readable v → ReadableCell (some v)

-- EVERY MEMBER OF A LIST

module _ {A : Type 0} {P : A → Type 0} where
  pub all_at : {xs : List A} {a : A} (x : ℕ) → All P xs → get_elem? xs x ≡ some a → P a
  all_at x none e = absurd (none-ne-some _ e)
  all_at zero (each p h) e = rw (some-injective _ _ e) at p
  all_at (suc x) (each p h) e = all_at x h e

  pub all_append : {xs ys : List A} → All P xs → All P ys → All P (xs ++ ys)
  all_append none k = k
  all_append (each p h) k = each p (all_append h k)

  pub all_take : {xs : List A} (n : ℕ) → All P xs → All P (take n xs)
  all_take zero h = none
  all_take (suc n) none = none
  all_take (suc n) (each {a = a} {l = l} p h) = each p (all_take {xs = l} n h)

  pub all_set : {xs : List A} (x : ℕ) (a : A) → All P xs → P a → All P (set xs x a)
  all_set x a none q = none
  all_set zero a (each p h) q = each q h
  all_set (suc x) a (each p h) q = each p (all_set x a h q)

  pub all_two : {a b : A} → P a → P b → All P (two a b)
  all_two p q = each p (each q none)

-- VALUES THAT A WALK MAKES

pub nil_readable : Readable (list nil)
unfolding size
nil_readable = record { fits = omega arith; encodable = e_list e_nil }

pub truth_readable : (b : Bool) → Readable (truth b)
unfolding size
truth_readable false = record { fits = omega arith; encodable = e_false }
truth_readable true = record { fits = omega arith; encodable = e_true }

pub number_readable : {n : ℕ} → n ≤ 65535 → Readable (number n)
unfolding size
number_readable h = record { fits = omega arith; encodable = e_number h }

-- a wide one that four bytes hold
abbrev pub WideFits : ℕ → Type 0
WideFits n = (65535 < n) × (n ≤ 4294967295)

pub wide_readable : {n : ℕ} → WideFits n → Readable (wide n)
unfolding size
wide_readable h = record { fits = omega arith; encodable = e_wide h.0 (omega (arith, h.1)) }

front_readable : {v : Value} {l : Values} → Readable v → Readable (list l) → Fits (list (cons v l)) → Readable (list (cons v l))
front_readable g h z = record { fits = z; encodable = encodable_front g.encodable h.encodable }

pair_readable : {a b : Value} → Readable a → Readable b → Fits (pair a b) → Readable (pair a b)
pair_readable g h z = record { fits = z; encodable = e_pair g.encodable h.encodable }

pub old_readable : {o : Option Value} {v : Value} → ReadableCell o → Readable v → Readable (or_old o v)
unfolding Semantics.or_old
old_readable blank g = g
old_readable (full h) g = h

mk_list_readable : (f r u : Value) → mk_list f r ≡ some u → Readable f → Readable r → Fits u → Readable u
unfolding mk_list
mk_list_readable f r u e gf gr z = let (l, el, eu) = (map-eq-some_iff _ (as_list r)).0 e in rw (← eu) (front_readable gf (rw l.1 at gr) (rw (← eu) at z))

mk_pair_readable : (a b u : Value) → mk_pair a b ≡ some u → Readable a → Readable b → Fits u → Readable u
unfolding mk_pair
mk_pair_readable a b u e ga gb z = let e' = some-injective _ _ e in rw (← e') (pair_readable ga gb (rw (← e') at z))

-- a list that is made member by member, behind others that have n bytes with the 02 that would end them
abbrev pub TailFits : ℕ → Values → Type 0
TailFits n l = Encodable (list l) × (n + size (list l) ≤ 257)

pub tail_nil : {n : ℕ} → n ≤ 256 → TailFits n nil
unfolding size
tail_nil h = (e_list e_nil, omega arith)

pub tail_cons : (n : ℕ) {v : Value} {l : Values} → Readable v → TailFits (n + suc (size v)) l → TailFits n (cons v l)
unfolding size
tail_cons n g h = (encodable_front g.encodable h.0, omega (arith, h.1))

pub tail_readable : {l : Values} → TailFits 1 l → Readable (list l)
tail_readable h = record { fits = omega (arith, h.1); encodable = h.0 }

pub rest_readable : {l : Values} → Readable (list l) → Readable (list (rest_of l))
unfolding rest_of
rest_readable {l = nil} h = h
rest_readable {l = cons m r} h = (readable_front h).1

-- GET

-- the numbers of a sheet's constants
abbrev pub NumberFits : Node → Type 0
NumberFits nd = ((n : ℕ) → nd ≡ Number n → n ≤ 65535) × ((n : ℕ) → nd ≡ Wide n → WideFits n)

abbrev pub NumbersFit : Sheet → Type 0
NumbersFit sh = (i : ℕ) → NumberFits (get_or sh.nodes i False)

abbrev pub GetsReadable : Getter → Type 0
GetsReadable g = (n : ℕ) (μ : Env) → All Readable μ → After (Unit {0}) (λ v s. Readable v) (g n μ)

after_tested : (t : ℕ) (o : Out Value) → After (Unit {0}) (λ v s. Readable v) o → After (Unit {0}) (λ v s. Readable v) (tested t o)
unfolding Semantics.tested
after_tested t o h = after_bind h λ v s _ g. after_given _ λ _ _. fine g

module _ (g : Getter) (ih : GetsReadable g) (root : ℕ) {a : Value} (ga : Readable a) where
  pub get_each_readable : (n : ℕ) (l : Values) → n ≤ 256 → Readable (list l) → After (Unit {0}) (λ ws s. TailFits n ws) (get_each g root a n l)
  unfolding Semantics.get_each
  get_each_readable n nil z gl = fine (tail_nil z)
  get_each_readable n (cons m r) z gl = after_bind (ih root _ (all_two (readable_front gl).0 ga)) λ w i _ gw. after_given _ λ z' _.
      after_bind (get_each_readable (n + suc (size w)) r z' (readable_front gl).1) λ ws j _ b. fine (tail_cons n gw b)

module _ (g : Getter) (ih : GetsReadable g) (sh : Sheet) where
  get_node_readable : (nd : Node) → NumberFits nd → (μ : Env) → All Readable μ → After (Unit {0}) (λ v s. Readable v) (get_node g sh nd μ)
  unfolding Semantics.get_node Semantics.bounded
  get_node_readable (Var x) nf μ ok = after_given _ λ v e. fine (all_at x ok e)
  get_node_readable False nf μ ok = fine (truth_readable false)
  get_node_readable True nf μ ok = fine (truth_readable true)
  get_node_readable Empty nf μ ok = fine nil_readable
  get_node_readable (Number n) nf μ ok = fine (number_readable (nf.0 n refl))
  get_node_readable (Wide n) nf μ ok = fine (wide_readable (nf.1 n refl))
  get_node_readable (Front a b) nf μ ok = after_bind (ih a μ ok) λ f s _ gf. after_bind (ih b μ ok) λ r t _ gr. after_given _ λ l _. after_given _ λ z _.
      fine (front_readable gf (rw l.1 at gr) z)
  get_node_readable (Pair a b) nf μ ok = after_bind (ih a μ ok) λ f s _ gf. after_bind (ih b μ ok) λ r t _ gr. after_given _ λ z _. fine (pair_readable gf gr z)
  get_node_readable (ListCase s e te n tn df dr) nf μ ok = after_bind (ih s μ ok) λ v i _ gv. after_given _ λ l _. after_list l.0
      (λ _. after_tested te _ (ih e μ ok))
      (λ f r el. let gl : Readable (list (cons f r)) = rw (l.1, el) at gv in after_tested tn _
      (ih n _ (all_append ok (all_two (readable_front gl).0 (readable_front gl).1))))
  get_node_readable (TruthCase s f tf t t₁) nf μ ok = after_bind (ih s μ ok) λ v i _ _. after_given _ λ b _. after_tested _ _ (ih _ μ ok)
  get_node_readable (Split s i) nf μ ok = after_bind (ih s μ ok) λ v j _ gv. after_given _ λ p _.
      let gp : Readable (pair p.0 p.1) = rw p.2 at gv in ih i _ (all_append ok (all_two (readable_pair gp).0 (readable_pair gp).1))
  get_node_readable (Call sec x y) nf μ ok = after_given _ λ a ea. after_given _ λ b eb. ih _ _ (all_two (all_at x ok ea) (all_at y ok eb))
  get_node_readable (Add n k) nf μ ok = after_bind (ih n μ ok) λ v s _ _. after_given _ λ m _. after_given _ λ q _. fine (number_readable q)
  get_node_readable (Each s sec x d) nf μ ok = after_bind (ih s μ ok) λ v i _ gv. after_given _ λ l _. after_given _ λ a ea.
      after_bind (get_each_readable g ih _ (all_at x ok ea) _ l.0 (omega arith) (rw l.1 at gv)) λ ws j _ b. fine (tail_readable b)

pub get_readable : (l : ℕ) (sh : Sheet) → NumbersFit sh → GetsReadable (get l sh)
unfolding Semantics.get
get_readable zero sh nf n μ ok = stopped tt
get_readable (suc l) sh nf n μ ok = after_plus 1 (get_node_readable (get l sh) (get_readable l sh nf) sh _ (nf n) μ ok)

-- PUT

abbrev pub PutsReadable : Putter → Type 0
PutsReadable p = (n : ℕ) (μ : Env) (σ : List ℕ) (v : Value) (W : Cells) → All Readable μ → Readable v → All ReadableCell W
    → After (Unit {0}) (λ X s. All ReadableCell X) (p n μ σ v W)

module _ (g : Getter) (gets : GetsReadable g) (p : Putter) (ih : PutsReadable p) (root d c : ℕ) {a : Value} (ga : Readable a) where
  pub stood_readable : (old : Values) → Readable (list old) → After (Unit {0}) (λ m s. Readable m) (stood_for g d old)
  unfolding Semantics.stood_for
  stood_readable old go = after_list old (λ _. gets d [] none) λ m r e. fine (readable_front (rw e at go)).0

  pub put_each_readable : (n : ℕ) (old l : Values) (W : Cells) → n ≤ 256 → Readable (list old) → Readable (list l) → All ReadableCell W
      → After (Unit {0}) (λ q s. TailFits n q.0 × All ReadableCell q.1) (put_each g p root d c a n old l W)
  unfolding Semantics.put_each
  put_each_readable n old nil W z go gl gw = fine (tail_nil z, gw)
  put_each_readable n old (cons v r) W z go gl gw = after_bind (stood_readable old go) λ m i _ gm.
      after_bind (ih root _ _ v _ (all_two gm ga) (readable_front gl).0 (all_append gw (each blank none))) λ X j _ gX. after_given _ λ o eo.
      after_given _ λ z' _. after_bind (put_each_readable (n + suc (size (Semantics.or_old counting o m))) _ r _ z' (rest_readable go) (readable_front gl).1
      (all_take (length W) gX)) λ q k _ h.
      fine (tail_cons n (old_readable (all_at _ gX eo) gm) h.0, h.1)

module _ (g : Getter) (gets : GetsReadable g) (p : Putter) (ih : PutsReadable p) (sh : Sheet) (μ : Env) (σ : List ℕ) (v : Value) (W : Cells)
    (ok : All Readable μ) (gv : Readable v) (gw : All ReadableCell W) where
  abbrev Fine : Out Cells → Type 0
  Fine = After (Unit {0}) (λ X s. All ReadableCell X)

  constant_readable : (u : Value) → Fine (constant v u W)
  unfolding Semantics.constant
  constant_readable u = after_given _ λ _ _. fine gw

  write_readable : (c : ℕ) (o : Option Value) → Fine (write c v W o)
  unfolding Semantics.write
  write_readable c none = fine (all_set c (some v) gw (full gv))
  write_readable c (some w) = after_given _ λ _ _. fine gw

  both_readable : (a b : ℕ) (x y : Value) → Readable x → Readable y → Fine (both p μ σ W a x b y)
  unfolding Semantics.both
  both_readable a b x y gx gy = after_bind (ih a μ σ x W ok gx gw) λ X s _ gX. ih b μ σ y X ok gy gX

  under_readable : (b s : ℕ) (mk : Value → Value → Option Value) (f r : Value)
      → ((x y u : Value) → mk x y ≡ some u → Readable x → Readable y → Fits u → Readable u)
      → Readable f → Readable r → Fine (under p μ σ W b v s mk f r)
  unfolding Semantics.under
  under_readable b s mk f r k gf gr = after_bind (ih b _ _ v _ (all_append ok (all_two gf gr)) gv (all_append gw (all_two blank blank))) λ X i _ gX.
      after_given _ λ x ex. after_given _ λ y ey. after_given _ λ u eu. after_given _ λ z _.
      ih s μ σ u _ ok (k _ _ u eu (old_readable (all_at _ gX ex) gf) (old_readable (all_at _ gX ey) gr) z) (all_take (length W) gX)

  put_node_readable : (nd : Node) → Fine (put_node g p sh nd μ σ v W)
  unfolding Semantics.put_node
  put_node_readable (Var x) = after_given _ λ c _. after_given _ λ o _. write_readable c o
  put_node_readable False = constant_readable vfalse
  put_node_readable True = constant_readable vtrue
  put_node_readable Empty = constant_readable (list nil)
  put_node_readable (Number n) = constant_readable (number n)
  put_node_readable (Wide n) = constant_readable (wide n)
  put_node_readable (Front a b) = after_given _ λ c _. let gc : Readable (list (cons c.0 c.1)) = rw c.2 at gv in both_readable a b _ _
      (readable_front gc).0 (readable_front gc).1
  put_node_readable (Pair a b) = after_given _ λ c _. let gc : Readable (pair c.0 c.1) = rw c.2 at gv in both_readable a b _ _ (readable_pair gc).0
      (readable_pair gc).1
  put_node_readable (ListCase s e te n tn df dr) = after_bind (gets s μ ok) λ o i _ go. after_given _ λ l _. after_list l.0
      (λ _. after_choose _ _ (λ _. both_readable e s v (list nil) gv nil_readable) λ _. after_bind (gets df (v ∷ []) (each gv none)) λ f j _ gf.
      after_bind (gets dr (v ∷ []) (each gv none)) λ r q _ gr.
      after_given _ λ _ _. under_readable n s mk_list f r mk_list_readable gf gr)
      (λ f r el. let gl : Readable (list (cons f r)) = rw (l.1, el) at go in
      after_choose _ _ (λ _. under_readable n s mk_list f (list r) mk_list_readable (readable_front gl).0 (readable_front gl).1)
      (λ _. both_readable e s v (list nil) gv nil_readable))
  put_node_readable (TruthCase s f tf t t₁) = after_bind (gets s μ ok) λ o i _ _. after_given _ λ b _.
      after_choose _ _ (λ _. both_readable _ s v _ gv (truth_readable b.0)) (λ _. both_readable _ s v _ gv (truth_readable (not b.0)))
  put_node_readable (Split s i) = after_bind (gets s μ ok) λ o j _ go. after_given _ λ c _. let gc : Readable (pair c.0 c.1) = rw c.2 at go in
      under_readable i s mk_pair _ _ mk_pair_readable (readable_pair gc).0 (readable_pair gc).1
  put_node_readable (Call sec x y) = after_given _ λ a ea. after_given _ λ c _. after_given _ λ b eb. after_given _ λ d _.
      ih _ _ _ v W (all_two (all_at x ok ea) (all_at y ok eb)) gv gw
  put_node_readable (Add n k) = after_given _ λ m _. after_given _ λ low _. ih n μ σ (number (m.0 - k)) W ok (number_readable (omega (arith, m.2))) gw
  put_node_readable (Each s sec x d) = after_given _ λ l _. after_bind (gets s μ ok) λ o i _ go. after_given _ λ old _. after_given _ λ a ea.
      after_given _ λ c _. after_bind
      (put_each_readable g gets p ih _ d c (all_at x ok ea) _ old.0 l.0 W (omega arith) (rw old.1 at go) (rw l.1 at gv) gw) λ q j _ h.
      ih s μ σ _ _ ok (tail_readable h.0) h.1

pub put_readable : (l : ℕ) (sh : Sheet) → NumbersFit sh → PutsReadable (put l sh)
unfolding Semantics.put
put_readable zero sh nf n μ σ v W ok gv gw = stopped tt
put_readable (suc l) sh nf n μ σ v W ok gv gw = after_plus 1
    (put_node_readable (get l sh) (get_readable l sh nf) (put l sh) (put_readable l sh nf) sh μ σ v W ok gv gw _)

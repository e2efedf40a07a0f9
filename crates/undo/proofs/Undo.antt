-- Taking back an edit (document 02, request 13, first half): where a get of old values gives v and a put of any u under them is done, the put of v
-- under the new values is done too, in as many steps, and writes the old values to the same cells.
use Rattle.std.proofs.Math.Path.{◌≡◌, refl, sym}
use Rattle.std.proofs.Common.{◌∙◌, arith}
use Rattle.std.proofs.Math.Option.{Option, none, some, some-injective}
use Rattle.std.specs.Prelude.{List, ◌++◌, ℕ, zero, suc, ◌+◌, ◌-◌, get_or, take, set}
use Rattle.std.proofs.Math.Nat.{add-sub_cancel}
use Rattle.std.proofs.Math.ListN.{length, get_elem?, length-append}
use Rattle.std.proofs.Math.Seq.{length-take-le}
use Rattle.value.specs.Value.{Value, vfalse, vtrue, list, number, wide, pair, nil, cons, size, Fits}
use Rattle.value.specs.Views.{as_list, as_front, as_pair, as_number}
use Rattle.node.specs.declared.Node.{Node}
use Rattle.node.specs.declared.Node.TheVariants.{Var, False, True, Empty, Number, Front, Pair, ListCase, TruthCase, Split, Call, Add, Each, Wide}
use Rattle.node.specs.Kinds.{children, calls}
use Rattle.sheet.specs.Sheet.{Sheet}
use Rattle.rules.specs.Outcome.{Out, done, ◌>>=◌}
use Rattle.rules.specs.Semantics
use Rattle.rules.specs.Counting.{Env, Cells, Getter, Putter, two, get_node, get, or_old, constant, write, both, under, mk_pair, put_node, put}
use Rattle.rules.specs.Bits.{took}
use Rattle.rules.specs.Laws.Outcomes.{After, finished, stopped}
use Rattle.rules.proofs.Laws.Outcomes.{fine, after_map, after_at, after_plus, after_bind, after_given, gives_out, given-some, given-when, given-number}
use Rattle.rules.specs.Laws.Related.{All2, ends, more}
use Rattle.rules.proofs.Laws.Related.{all2_map, all2_append, all2_at, all2_flip, all2_length, all2_take, all2_set, at_left, at_seam, at_last, at_take}
use Rattle.rules.proofs.Laws.Consistency.{Later, Agree, Puts, Lawful, lawful, or_new}
use Rattle.rules.proofs.Laws.Acceptability.{Old, Keeps, free, stable}
use Rattle.undo.specs.Straight.{Closed}
use Rattle.undo.proofs.Straight.{Paced, get_paced}

-- OF ONE OUTCOME TWO THINGS; AND OF CELLS
module _ {A R : Type 0} where
  after_and : {P Q : A → ℕ → Type 0} {o : Out A} → After R P o → After R Q o → After R (λ a s. P a s × Q a s) o
  after_and (finished p) k = finished (p, after_at k)
  after_and (stopped r) k = stopped r

bind_done : {A B R : Type 0} {Q : B → ℕ → Type 0} {m : Out A} {a : A} {s : ℕ} (f : A → Out B) → m ≡ done a s → After R (λ b t. Q b (s + t)) (f a)
    → After R Q (m >>= f)
unfolding ◌>>=◌
bind_done f e h = rw e (after_plus _ h)

all2_take_both : {A B : Type 0} {R : A → B → Type 0} (n : ℕ) {xs : List A} {ys : List B} → All2 R xs ys → All2 R (take n xs) (take n ys)
all2_take_both zero h = ends
all2_take_both (suc n) ends = ends
all2_take_both (suc n) (more r h) = more r (all2_take_both n h)

all2_set_both : {A B : Type 0} {R : A → B → Type 0} (x : ℕ) {a : A} {b : B} {xs : List A} {ys : List B} → All2 R xs ys → R a b
    → All2 R (set xs x a) (set ys x b)
all2_set_both x ends r = ends
all2_set_both zero (more q h) r = more r h
all2_set_both (suc x) (more q h) r = more q (all2_set_both x h r)

-- X and Y are written in the same places
abbrev pub Alike : Cells → Cells → Type 0
Alike X Y = All2 (λ o q. took o ≡ took q) X Y

earlier : {X Y : Cells} {σ : List ℕ} {μ : Env} → Later X Y → Agree σ Y μ → Agree σ X μ
earlier h = all2_map λ c m r. let (o, eo, k) = all2_at c (all2_flip h) r.1 in (o, eo, λ w e. r.2 w (k w e))

untaken : (n : ℕ) (X : Cells) {σ : List ℕ} {μ : Env} → Agree σ (take n X) μ → Agree σ X μ
untaken n X = all2_map λ c m r. (r.0, at_take n X c r.1, r.2)

-- a cell that was written is written with f; one that was not leaves what f was left at
pub or_back : (x y : Option Value) (f : Value) → ((w : Value) → y ≡ some w → w ≡ f) → took x ≡ took y → or_old y (or_old x f) ≡ f
unfolding Semantics.or_old took
or_back none none f h e = refl
or_back none (some w) f h e = h w refl
or_back (some u) none f h e = let z : ◌≡◌ {A = ℕ} 0 1 = cc in absurd (omega arith)
or_back (some u) (some w) f h e = h w refl

-- THE LAW

-- done in s steps, with the old values ω written where X is written
abbrev pub Again : Env → Cells → ℕ → Out Cells → Type 0
Again ω X s = After ⊥ (λ Y t. (t ≡ s) × Keeps Y ω × Alike X Y)

-- after a put from W to X of s steps: under any values that agree with X, P takes v so
abbrev pub Takes : (Env → Value → Cells → Out Cells) → List ℕ → Env → Cells → Cells → ℕ → Value → Type 0
Takes P σ ω W X s v = (ν : Env) (Z : Cells) → Agree σ X ν → Keeps Z ω → Alike W Z → Again ω X s (P ν v Z)

-- o is the get of the old values
abbrev pub Undoes : (Env → Value → Cells → Out Cells) → List ℕ → Env → Cells → Out Value → Cells → ℕ → Type 0
Undoes P σ ω W o X s = After (Unit {0}) (λ v t. Takes P σ ω W X s v) o

module _ (ω : Env) (c : ℕ) (m : Value) (e : get_elem? ω c ≡ some m) (W Z : Cells) (k : Keeps Z ω) (al : Alike W Z) where
  again_new : (u : Value) (o : Option Value) → took none ≡ took o → Again ω (set W c (some u)) 0 (write c m Z o)
  unfolding Semantics.write took
  again_new u none h = fine (refl, all2_set c (some m) k e (λ w ew. sym (some-injective _ _ ew)), all2_set_both c al refl)
  again_new u (some w) h = let z : ◌≡◌ {A = ℕ} 0 1 = cc in absurd (omega arith)

  again_old : (w : Value) (o : Option Value) → took (some w) ≡ took o → ((x : Value) → o ≡ some x → x ≡ m) → Again ω W 0 (write c m Z o)
  unfolding Semantics.write took
  again_old w none h q = let z : ◌≡◌ {A = ℕ} 0 1 = cc in absurd (omega arith)
  again_old w (some x) h q = given-when _ _ (q x refl) λ _. fine (refl, k, al)

module _ (P : ℕ → Type 0) where
  abbrev pub Undone : Getter → Putter → Type 0
  Undone g p = (n : ℕ) → P n → (μ : Env) (σ : List ℕ) (ω : Env) (u : Value) (W : Cells) → Fits u → Old σ ω μ → length W ≡ length ω
      → After (Unit {0}) (Undoes (λ ν. p n ν σ) σ ω W (g n μ)) (p n μ σ u W)

  module _ (g : Getter) (p : Putter) (law : Lawful g p) (pace : Paced P g)
      (fit : (n : ℕ) (μ : Env) (σ : List ℕ) (ω : Env) → Old σ ω μ → After (Unit {0}) (λ v s. Fits v) (g n μ)) (ih : Undone g p) where
    -- and the put is lawful
    step : (n : ℕ) → P n → (μ : Env) (σ : List ℕ) (ω : Env) (u : Value) (W : Cells) → Fits u → Old σ ω μ → length W ≡ length ω
        → After (Unit {0}) (λ X s. Puts (g n) σ u W X s × Undoes (λ ν. p n ν σ) σ ω W (g n μ) X s) (p n μ σ u W)
    step n q μ σ ω u W z old lw = after_and (law n μ σ u W z) (ih n q μ σ ω u W z old lw)

    module _ (sh : Sheet) (μ : Env) (σ : List ℕ) (ω : Env) (u : Value) (W : Cells) (zu : Fits u) (old : Old σ ω μ) (lw : length W ≡ length ω) where
      var_undoes : (x c : ℕ) → get_elem? σ x ≡ some c → (o : Option Value) → get_elem? W c ≡ some o
          → After (Unit {0}) (Undoes (λ ν. put_node g p sh (Var x) ν σ) σ ω W (get_node g sh (Var x) μ)) (write c u W o)
      unfolding Semantics.write Semantics.get_node Semantics.put_node
      var_undoes x c ec none eo = let (m, em, h) = all2_at x old ec in fine (given-some _ _ em (fine λ ν Z ag k al.
          let (q, eq, t) = all2_at c al eo in given-some _ _ ec (given-some _ _ eq (again_new ω c m h.0 W Z k al u q t))))
      var_undoes x c ec (some w) eo = let (m, em, h) = all2_at x old ec in after_given _ λ _ _. fine (given-some _ _ em (fine λ ν Z ag k al.
          let (q, eq, t) = all2_at c al eo in let (n, en, f) = all2_at c k eq in
          let ne : n ≡ m = let z = h.0 in cc in
          given-some _ _ ec (given-some _ _ eq (again_old ω c m h.0 W Z k al w q t (rw ne at f)))))

      constant_undoes : (nd : Node) (v : Value) → get_node g sh nd μ ≡ done v 0
          → ((ν : Env) (Z : Cells) → put_node g p sh nd ν σ v Z ≡ constant v v Z)
          → After (Unit {0}) (Undoes (λ ν. put_node g p sh nd ν σ) σ ω W (get_node g sh nd μ)) (constant u v W)
      unfolding Semantics.constant
      constant_undoes nd v e h = after_given _ λ _ _. fine (rw e (fine λ ν Z ag k al. rw h (given-when _ _ refl λ _. fine (refl, k, al))))

      -- one put after the other, and both again
      both_again : (a b : ℕ) (v w : Value) (X Y : Cells) (i j : ℕ) → Takes (λ ν. p a ν σ) σ ω W X i v → Later X Y → Takes (λ ν. p b ν σ) σ ω X Y j w
          → (ν : Env) (Z : Cells) → Agree σ Y ν → Keeps Z ω → Alike W Z → Again ω Y (i + j) (both p ν σ Z a v b w)
      unfolding Semantics.both
      both_again a b v w X Y i j ha l hb ν Z ag k al = after_bind (ha ν Z (earlier l ag) k al) λ X' s _ hx.
          after_map (hb ν X' ag hx.1 hx.2) λ Y' t hy. (omega (arith, hx.0, hy.0), hy.1, hy.2)

      both_undoes : (nd : Node) (a b : ℕ) (x y : Value) → P a → P b → Fits x → Fits y
          → ((X Y : Cells) (i j : ℕ) → Undoes (λ ν. p a ν σ) σ ω W (g a μ) X i → Later X Y → Undoes (λ ν. p b ν σ) σ ω X (g b μ) Y j
          → Undoes (λ ν. put_node g p sh nd ν σ) σ ω W (get_node g sh nd μ) Y (i + j))
          → After (Unit {0}) (Undoes (λ ν. put_node g p sh nd ν σ) σ ω W (get_node g sh nd μ)) (both p μ σ W a x b y)
      unfolding Semantics.both
      both_undoes nd a b x y qa qb zx zy k = after_bind (step a qa μ σ ω x W zx old lw) λ X i _ hx.
          after_map (step b qb μ σ ω y X zy old (sym (all2_length hx.0.0) ∙ lw)) λ Y j hy. k X Y i j hx.1 hy.0.0 hy.1

      deeper : (f r : Value) → Fits f → Fits r → Old (σ ++ two (length ω) (suc (length ω))) (ω ++ two f r) (μ ++ two f r)
      deeper f r zf zr = all2_append (all2_map (λ c m h. (at_left ω _ c h.0, h.1)) old) (more (at_seam ω f r, zf) (more (at_last ω f r, zr) ends))

      -- the branch's two variables had f and r, and have what the put left them
      under_again : (b s : ℕ) (f r v : Value) (x y : Option Value) (X Y : Cells) (j t : ℕ) → Fits (pair f r)
          → get_elem? X (length ω) ≡ some x → get_elem? X (suc (length ω)) ≡ some y
          → Takes (λ ν. p b ν (σ ++ two (length ω) (suc (length ω)))) (σ ++ two (length ω) (suc (length ω))) (ω ++ two f r) (W ++ two none none) X j v
          → Later (take (length ω) X) Y → Takes (λ ν. p s ν σ) σ ω (take (length ω) X) Y t (pair f r)
          → (ν : Env) (Z : Cells) → Agree σ Y ν → Keeps Z ω → Alike W Z
          → Again ω Y (j + t) (under p ν σ Z b v s mk_pair (or_old x f) (or_old y r))
      unfolding Semantics.under mk_pair
      under_again b s f r v x y X Y j t z ex ey hb l hs ν Z ag k al = rw (all2_length k)
          (after_bind (hb (ν ++ two (or_old x f) (or_old y r)) (Z ++ two none none)
          (all2_append (untaken (length ω) X (earlier l ag)) (more (x, ex, or_new x f) (more (y, ey, or_new y r) ends)))
          (all2_append k (more (free f) (more (free r) ends))) (all2_append al (more refl (more refl ends)))) λ X' i _ hx.
          let (x', ex', tx) = all2_at _ hx.2 ex in let (y', ey', ty) = all2_at _ hx.2 ey in
          let (f', ef', kx) = all2_at _ hx.1 ex' in let (r', er', ky) = all2_at _ hx.1 ey' in
          let qf : f' ≡ f = some-injective _ _ (sym ef' ∙ at_seam ω f r) in
          let qr : r' ≡ r = some-injective _ _ (sym er' ∙ at_last ω f r) in
          given-some _ _ ex' (given-some _ _ ey' (rw (or_back x x' f (rw qf at kx) tx, or_back y y' r (rw qr at ky) ty)
          (given-some _ _ refl (given-when _ _ z λ _.
          after_map (hs ν _ ag (all2_take ω _ hx.1) (all2_take_both (length ω) hx.2)) λ Y' n hy. (omega (arith, hx.0, hy.0), hy.1, hy.2))))))

      under_undoes : (s b : ℕ) → P s → P b → (f r : Value) (i : ℕ) → g s μ ≡ done (pair f r) i → Fits (pair f r)
          → After (Unit {0}) (λ X t. Undoes (λ ν. put_node g p sh (Split s b) ν σ) σ ω W (get_node g sh (Split s b) μ) X (i + t))
          (under p μ σ W b u s mk_pair f r)
      unfolding Semantics.under Semantics.get_node Semantics.put_node mk_pair size as_pair
      under_undoes s b qs qb f r i es z = rw lw
          (after_bind (step b qb _ _ (ω ++ two f r) u (W ++ two none none) zu (deeper f r (omega arith) (omega arith))
          (omega (arith, length-append W (two none none), length-append ω (two f r)))) λ X j _ hx.
          after_given _ λ x ex. after_given _ λ y ey. after_given _ λ w ew. after_given _ λ zw _.
          let lx : length (take (length ω) X) ≡ length ω =
          length-take-le (length ω) X (omega (arith, all2_length hx.0.0, length-append W (two none none))) in
          after_map (step s qs μ σ ω w (take (length ω) X) zw old lx) λ Y t hy.
          bind_done _ es (given-some _ _ refl (after_map hx.1 λ v t' hv. λ ν Z ag k al.
          let (n, en, _) = gives_out (rw (← some-injective _ _ ew) at (hy.0.1 ν ag)) in
          let q : n ≡ i = after_at (rw en at (after_at (rw es at (pace s qs μ)) ν)) in
          bind_done _ en (given-some _ _ refl
          (after_map (under_again b s f r v x y X Y j t z ex ey hv hy.0.0 (after_at (rw es at hy.1)) ν Z ag k al) λ Y' m hm.
          (omega (arith, hm.0), hm.1, hm.2))))))

      node_undoes : (nd : Node) → Closed P sh nd
          → After (Unit {0}) (Undoes (λ ν. put_node g p sh nd ν σ) σ ω W (get_node g sh nd μ)) (put_node g p sh nd μ σ u W)
      unfolding Semantics.get_node Semantics.put_node size Semantics.bounded as_list as_front as_pair as_number children calls
      node_undoes (Var x) c = after_given _ λ d ed. after_given _ λ o eo. var_undoes x d ed o eo
      node_undoes False c = constant_undoes False vfalse refl λ ν Z. refl
      node_undoes True c = constant_undoes True vtrue refl λ ν Z. refl
      node_undoes Empty c = constant_undoes Empty (list nil) refl λ ν Z. refl
      node_undoes (Number n) c = constant_undoes (Number n) (number n) refl λ ν Z. refl
      node_undoes (Wide n) c = constant_undoes (Wide n) (wide n) refl λ ν Z. refl
      node_undoes (Front a b) c = after_given _ λ d _. let z : Fits (list (cons d.0 d.1)) = rw d.2 at zu in
          both_undoes (Front a b) a b _ _ c.below.0 c.below.1.0 (omega arith) (omega arith) λ X Y i j ha l hb.
          after_bind ha λ f s _ hf. after_bind hb λ r t _ hr. after_given _ λ q _. after_given _ λ _ _.
          fine λ ν Z ag k al. given-some _ _ refl (both_again a b f (list q.0) X Y i j hf l (rw q.1 at hr) ν Z ag k al)
      node_undoes (Pair a b) c = after_given _ λ d _. let z : Fits (pair d.0 d.1) = rw d.2 at zu in
          both_undoes (Pair a b) a b _ _ c.below.0 c.below.1.0 (omega arith) (omega arith) λ X Y i j ha l hb.
          after_bind ha λ f s _ hf. after_bind hb λ r t _ hr. after_given _ λ _ _.
          fine λ ν Z ag k al. given-some _ _ refl (both_again a b f r X Y i j hf l hr ν Z ag k al)
      node_undoes (ListCase s b tb n tn df dr) c = absurd c.kind
      node_undoes (TruthCase s f tf t t₁) c = absurd c.kind
      node_undoes (Split s b) c = after_bind (fit s μ σ ω old) λ o i eo zo. after_given _ λ d _.
          under_undoes s b c.below.0 c.below.1.0 d.0 d.1 i (rw d.2 at eo) (rw d.2 at zo)
      node_undoes (Call sec x y) c = after_given _ λ a ea. after_given _ λ d ed. after_given _ λ b eb. after_given _ λ f ef.
          let (m, em, hm) = all2_at x old ed in let (n, en, hn) = all2_at y old ef in
          let qa : m ≡ a = cc in let qb : n ≡ b = cc in
          after_map (step _ c.roots.0 _ (two d f) ω u W zu (more (rw qa at hm) (more (rw qb at hn) ends)) lw) λ X s h.
          given-some _ _ ea (given-some _ _ eb (after_map h.1 λ v t hv. λ ν Z ag k al.
          let (a', ea', ra) = all2_at x ag ed in let (b', eb', rb) = all2_at y ag ef in
          given-some _ _ ea' (given-some _ _ ed (given-some _ _ eb' (given-some _ _ ef (hv (two a' b') Z (more ra (more rb ends)) k al))))))
      node_undoes (Add n a) c = after_given _ λ m _. after_given _ λ low _.
          after_map (step n c.below.0 μ σ ω (number (m.0 - a)) W (omega arith) old lw) λ X s h.
          after_bind h.1 λ v t _ hv. after_given _ λ q _. after_given _ λ z _. fine λ ν Z ag k al.
          given-number (q.0 + a) _ _ z λ _. given-when _ _ (omega arith) λ _. rw add-sub_cancel ((rw q.1 at hv) ν Z ag k al)
      node_undoes (Each s sec x d) c = absurd c.kind

-- all that a walk gives fits
fits_got : (l : ℕ) (sh : Sheet) (n : ℕ) (μ : Env) (σ : List ℕ) (ω : Env) → Old σ ω μ → After (Unit {0}) (λ v s. Fits v) (get l sh n μ)
fits_got l sh n μ σ ω old = after_map (stable l sh n μ σ ω old) λ v s h. h.0

pub undone : (P : ℕ → Type 0) (l : ℕ) (sh : Sheet) → ((n : ℕ) → P n → Closed P sh (get_or sh.nodes n False)) → Undone P (get l sh) (put l sh)
unfolding Semantics.get Semantics.put
undone P zero sh k n q μ σ ω u W z old lw = stopped tt
undone P (suc l) sh k n q μ σ ω u W z old lw = after_plus 1 (after_map
    (node_undoes P (get l sh) (put l sh) (lawful l sh) (get_paced P l sh k) (fits_got l sh) (undone P l sh k) sh μ σ ω u W z old lw _ (k n q)) λ X s h.
    after_plus 1 (after_map h λ v t hv. λ ν Z ag kp al. after_plus 1 (after_map (hv ν Z ag kp al) λ Y m hm. (omega (arith, hm.0), hm.1, hm.2))))

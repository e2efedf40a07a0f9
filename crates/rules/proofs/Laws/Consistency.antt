-- Law 1, consistency: what put has done, get reads back.
use Rattle.rules.specs.Counting.{counting}
use Rattle.std.specs.Prelude.{◌≡◌, Bool, true, false, not, List, ◌++◌, length, take, set}
use Rattle.std.proofs.Math.Path.{refl}
use Rattle.std.proofs.Common.{sym, sub-add_cancel}
use Rattle.std.proofs.Math.Option.{Option, none, some, none-ne-some, some-injective, map-eq-some_iff}
use Prim.Native.Nat.{ℕ, zero, suc, ◌+◌, ◌-◌, ◌≤◌}
use native.Mathlib.Omega.{arith}
use Rattle.std.proofs.Math.ListN.{get_elem?}
use Rattle.value.specs.Value.{Value, Values, vfalse, vtrue, list, number, wide, pair, nil, cons, size, sizes, truth, Fits}
use Rattle.value.proofs.Encoding.{size_pos}
use Rattle.value.specs.Views.{as_list, as_pair, as_number, as_truth}
use Rattle.value.specs.Tests.{Passes}
use Rattle.node.specs.declared.Node.{Node}
use Rattle.node.specs.declared.Node.TheVariants.{Var, False, True, Empty, Number, Front, Pair, ListCase, TruthCase, Split, Call, Add, Each, Wide}
use Rattle.sheet.specs.Sheet.{Sheet}
use Rattle.rules.specs.Outcome.{Out, done, ◌>>=◌}
use Rattle.rules.specs.Semantics
use Rattle.rules.specs.Counting.{Env, Cells, Getter, Putter, two, pick, on_list, get_each, get_node, get, or_old, constant, write, both, under}
use Rattle.rules.specs.Counting.{put_each, mk_list, mk_pair, put_node, put}
use Rattle.rules.specs.Laws.Outcomes.{After, stopped, DoneWithin}
use Rattle.rules.proofs.Laws.Outcomes.{fine, after_map, after_any, after_at, gives_le, gives_out, after_plus, after_bind, gives_bind, after_given}
use Rattle.rules.proofs.Laws.Outcomes.{given-some, given-when, given-number, after_choose, after_list}
use Rattle.rules.specs.Laws.Related.{All2, ends, more}
use Rattle.rules.proofs.Laws.Related.{all2_map, all2_append, all2_at, all2_of, all2_flip, all2_take, all2_set, all2_self, all2_join, at_take, at_set}

-- X has the cells of W, and what W has written
abbrev pub Later : Cells → Cells → Type 0
Later W X = All2 (λ o q. (w : Value) → o ≡ some w → q ≡ some w) W X

-- m may be the value of a variable whose cell is c: the cell is there, and holds no other
abbrev pub Reads : Cells → ℕ → Value → Type 0
Reads X c m = (o : Option Value) × (get_elem? X c ≡ some o) × ((w : Value) → o ≡ some w → m ≡ w)

abbrev pub Agree : List ℕ → Cells → Env → Type 0
Agree σ X μ = All2 (Reads X) σ μ

-- X is W with v put: whoever reads X gets v back
abbrev pub Puts : (Env → Out Value) → List ℕ → Value → Cells → Cells → ℕ → Type 0
Puts G σ v W X s = Later W X × ((μ : Env) → Agree σ X μ → DoneWithin (G μ) v s)

pub later_refl : (W : Cells) → Later W W
later_refl = all2_self λ o w e. e

pub later_trans : {W X Y : Cells} → Later W X → Later X Y → Later W Y
later_trans = all2_join λ a b c h k w e. k w (h w e)

earlier : {X Y : Cells} {σ : List ℕ} {μ : Env} → Later X Y → Agree σ Y μ → Agree σ X μ
earlier h = all2_map λ c m r. let (o, eo, k) = all2_at c (all2_flip h) r.1 in (o, eo, λ w e. r.2 w (k w e))

untaken : (n : ℕ) (X : Cells) {σ : List ℕ} {μ : Env} → Agree σ (take n X) μ → Agree σ X μ
untaken n X = all2_map λ c m r. (r.0, at_take n X c r.1, r.2)

pub or_new : (o : Option Value) (m w : Value) → o ≡ some w → or_old o m ≡ w
unfolding Semantics.or_old
or_new o m w e = rw e refl

abbrev pub Lawful : Getter → Putter → Type 0
Lawful g p = (n : ℕ) (μ : Env) (σ : List ℕ) (v : Value) (W : Cells) → Fits v → After (Unit {0}) (Puts (g n) σ v W) (p n μ σ v W)

put_same : (G : Env → Out Value) (σ : List ℕ) (v u : Value) (W : Cells) → ((μ : Env) → G μ ≡ done u 0) → After (Unit {0}) (Puts G σ v W) (constant v u W)
unfolding Semantics.constant
put_same G σ v u W h = after_given _ λ e _. fine (later_refl W, λ μ _. rw h (fine (sym e, omega arith)))

-- a get on the way takes steps and nothing else
puts_bind : {A : Type 0} {G : Env → Out Value} {σ : List ℕ} {v : Value} {W : Cells} (m : Out A) {f : A → Out Cells}
    → ((a : A) → After (Unit {0}) (Puts G σ v W) (f a)) → After (Unit {0}) (Puts G σ v W) (m >>= f)
puts_bind m k = after_bind (after_any m tt) λ a s _ _. after_map (k a) λ X t h. (h.0, λ μ ag. gives_le (h.1 μ ag) (omega arith))

module _ (g : Getter) (sh : Sheet) (σ : List ℕ) (x c : ℕ) (e : get_elem? σ x ≡ some c) (v : Value) (W : Cells) where
  read_back : (X : Cells) (μ : Env) → get_elem? X c ≡ some (some v) → Agree σ X μ → DoneWithin (get_node g sh (Var x) μ) v 0
  unfolding Semantics.get_node
  read_back X μ ev ag = let (m, em, (o, eo, h)) = all2_at x ag e in given-some _ _ em (fine (h v (cc), omega arith))

  write_law : (o : Option Value) → get_elem? W c ≡ some o → After (Unit {0}) (Puts (get_node g sh (Var x)) σ v W) (write c v W o)
  unfolding Semantics.write
  write_law none eo = fine (
    all2_flip (all2_set c (some v) (all2_flip (later_refl W)) eo (λ w ew. absurd (none-ne-some w ew))),
    λ μ. read_back (set W c (some v)) μ (at_set W c (some v) eo),
  )
  write_law (some w) eo = after_given _ λ ew _. fine (later_refl W, λ μ. read_back W μ (cc))

as_truth_lem : (b : Bool) → as_truth (truth b) ≡ some (b, refl)
unfolding as_truth
as_truth_lem false = refl
as_truth_lem true = refl

size-truth : (b : Bool) → size (truth b) ≡ 1
unfolding size
size-truth false = refl
size-truth true = refl

module _ (g : Getter) (p : Putter) (ih : Lawful g p) (root d c : ℕ) (a : Value) where
  -- the members as they are then are few enough, and give the view's again: n and k are the bytes of those before, with the 02
  each_law : (n k : ℕ) (old l : Values) (W : Cells) → n ≤ 256 → k + sizes l ≤ 257 → After (Unit {0})
      (λ q s. Later W q.1 × (n + sizes q.0 ≤ 257) × ((b : Value) → Reads q.1 c b → DoneWithin (get_each g root b k q.0) l s))
      (put_each g p root d c a n old l W)
  unfolding Semantics.put_each Semantics.get_each size sizes
  each_law n k old nil W z zl = fine (later_refl W, omega arith, λ b r. fine (refl, omega arith))
  each_law n k old (cons v r) W z zl = after_bind (after_any _ tt) λ m i _ _. after_bind (ih root _ _ v _ (omega arith)) λ X j _ hx.
      after_given _ λ o eo. after_given _ λ z' _. after_bind (each_law (n + suc (size (Semantics.or_old counting o m))) (k + suc (size v)) _ r _ z'
      (omega arith)) λ q t _ h. fine (
        later_trans (all2_flip (all2_take W _ (all2_flip hx.0))) h.0,
        omega (arith, h.1),
        λ b rb. gives_bind _ (hx.1 _ (more (o, eo, or_new o m) (untaken (length W) X (earlier h.0 (more rb ends))))) λ u hu.
            given-when _ _ (omega (arith, size_pos (list r))) λ _. gives_bind _ (h.2 b rb) λ w hw. fine (refl, omega arith),
      )

module _ (g : Getter) (p : Putter) (ih : Lawful g p) (sh : Sheet) (μ : Env) (σ : List ℕ) (v : Value) (W : Cells) where
  abbrev Lays : (Env → Out Value) → Out Cells → Type 0
  Lays G = After (Unit {0}) (Puts G σ v W)

  both_law : (G : Env → Out Value) (a b : ℕ) (x y : Value) → Fits x → Fits y
      → ((μ' : Env) (i j : ℕ) → DoneWithin (g a μ') x i → DoneWithin (g b μ') y j → DoneWithin (G μ') v (i + j)) → Lays G (both p μ σ W a x b y)
  unfolding Semantics.both
  both_law G a b x y zx zy k = after_bind (ih a μ σ x W zx) λ X i _ hx. after_map (ih b μ σ y X zy) λ Y j hy.
      (later_trans hx.0 hy.0, λ μ' ag. k μ' i j (hx.1 μ' (earlier hy.0 ag)) (hy.1 μ' ag))

  under_law : (G : Env → Out Value) (b s : ℕ) (mk : Value → Value → Option Value) (f r : Value) → Fits v
      → ((μ' : Env) (f' r' u : Value) (i j : ℕ) → mk f' r' ≡ some u → DoneWithin (g b (μ' ++ two f' r')) v i → DoneWithin (g s μ') u j
      → DoneWithin (G μ') v (i + j))
      → Lays G (under p μ σ W b v s mk f r)
  unfolding Semantics.under
  under_law G b s mk f r zv k = after_bind (ih b _ _ v _ zv) λ X i _ hx. after_given _ λ x ex. after_given _ λ y ey.
      after_given _ λ u eu. after_given _ λ zu _. after_map (ih s μ σ u _ zu) λ Y j hy. (
        later_trans (all2_flip (all2_take W _ (all2_flip hx.0))) hy.0,
        λ μ' ag. k μ' _ _ u i j eu (hx.1 _ (all2_append (untaken (length W) X (earlier hy.0 ag))
            (more (x, ex, or_new x f) (more (y, ey, or_new y r) ends)))) (hy.1 μ' ag),
      )

  node_law : (n : Node) → Fits v → Lays (get_node g sh n) (put_node g p sh n μ σ v W)
  unfolding Semantics.get_node Semantics.put_node size Semantics.bounded as_list as_pair as_number as_truth Semantics.tested on_list mk_pair mk_list
  node_law (Var x) z = after_given _ λ c e. after_given _ λ o eo. write_law g sh σ x c e v W o eo
  node_law False z = put_same _ σ v vfalse W (λ _. refl)
  node_law True z = put_same _ σ v vtrue W (λ _. refl)
  node_law Empty z = put_same _ σ v (list nil) W (λ _. refl)
  node_law (Number n) z = put_same _ σ v (number n) W (λ _. refl)
  node_law (Wide n) z = put_same _ σ v (wide n) W (λ _. refl)
  node_law (Front a b) z = after_given _ λ c _. let z' : Fits (list (cons c.0 c.1)) = rw c.2 at z in
      both_law _ a b _ _ (omega arith) (omega arith) λ μ' i j ha hb. gives_bind _ ha λ s hs. gives_bind _ hb λ t ht.
      given-some _ _ refl (given-when _ _ z' λ _. fine (sym c.2, omega arith))
  node_law (Pair a b) z = after_given _ λ c _. let z' : Fits (pair c.0 c.1) = rw c.2 at z in
      both_law _ a b _ _ (omega arith) (omega arith) λ μ' i j ha hb. gives_bind _ ha λ s hs. gives_bind _ hb λ t ht.
      given-when _ _ z' λ _. fine (sym c.2, omega arith)
  node_law (ListCase s e te n tn df dr) z = puts_bind _ λ o. after_given _ λ l _. after_list l.0
      (λ _. after_choose _ _ empty λ t. puts_bind _ λ f. puts_bind _ λ r. after_given _ λ _ _. full f r t)
      (λ f r _. after_choose _ _ (full f (list r)) empty)
    where
      empty : Passes te v → Lays (get_node g sh (ListCase s e te n tn df dr)) (both p μ σ W e v s (list nil))
      empty h = both_law _ e s v (list nil) z (omega arith) λ μ' i j hb hs.
          gives_bind _ hs λ t ht. given-some _ _ refl (gives_bind _ hb λ u hu. given-when _ _ h λ _. fine (refl, omega arith))

      full : (f r : Value) → Passes tn v → Lays (get_node g sh (ListCase s e te n tn df dr)) (under p μ σ W n v s mk_list f r)
      full f r h = under_law _ n s mk_list f r z λ μ' f' r' u i j eu hb hs. let (l, el, eu') = (map-eq-some_iff _ (as_list r')).0 eu in
          gives_bind _ (rw (← eu') at hs) λ t ht. given-some _ _ refl (gives_bind _ (rw l.1 at hb) λ x hx. given-when _ _ h λ _. fine (refl, omega arith))
  node_law (TruthCase s f tf t t₁) z = puts_bind _ λ o. after_given _ λ b _. after_choose _ _ (side b.0) (side (not b.0))
    where
      side : (b : Bool) → Passes (pick b tf t₁) v → Lays (get_node g sh (TruthCase s f tf t t₁)) (both p μ σ W (pick b f t) v s (truth b))
      side b h = both_law _ _ s v (truth b) z (rw size-truth (omega arith)) λ μ' i j hb hs.
          gives_bind _ hs λ x hx. given-some _ _ (as_truth_lem b) (gives_bind _ hb λ y hy. given-when _ _ h λ _. fine (refl, omega arith))
  node_law (Split s b) z = puts_bind _ λ o. after_given _ λ c _. under_law _ b s mk_pair _ _ z λ μ' f' r' u i j eu hb hs.
      gives_bind _ (rw (← some-injective _ _ eu) at hs) λ t ht. given-some _ _ refl (after_map hb λ a x hx. (hx.0, omega arith))
  node_law (Call sec x y) z = after_given _ λ a _. after_given _ λ c ec. after_given _ λ b _. after_given _ λ d ed. after_map (ih _ _ _ v W z) λ X s h. (
    h.0,
    λ μ' ag.
        let (m, em, rm) = all2_at x ag ec in let (n, en, rn) = all2_at y ag ed in given-some _ _ em (given-some _ _ en (h.1 _ (more rm (more rn ends)))),
  )
  node_law (Add n k) z = after_given _ λ m _. after_given _ λ low _. after_map (ih n μ σ (number (m.0 - k)) W (omega arith)) λ X s h. (
    h.0,
    λ μ' ag.
        gives_bind _ (h.1 μ' ag) λ t ht. given-number (m.0 - k) _ _ (omega (arith, m.2)) λ _.
        given-when _ _ (omega (arith, m.2)) λ _. fine (rw (sub-add_cancel low) (sym m.1), omega arith),
  )
  node_law (Each s sec x d) z = after_given _ λ l _. let z' : Fits (list l.0) = rw l.1 at z in puts_bind _ λ o. after_given _ λ old _.
      after_given _ λ a _. after_given _ λ c ec. after_bind (each_law g p ih _ d c a _ 1 old.0 l.0 W (omega arith) (omega arith)) λ q i _ hq.
      after_map (ih s μ σ (list q.0) q.1 (omega (arith, hq.1))) λ X j hx. (
        later_trans hq.0 hx.0,
        λ μ' ag. let (b, eb, rb) = all2_at x (earlier hx.0 ag) ec in gives_bind _ (hx.1 μ' ag) λ t ht.
            given-some _ _ refl (given-some _ _ eb (gives_bind _ (hq.2 b rb) λ u hu. fine (sym l.1, omega arith))),
      )

pub lawful : (l : ℕ) (sh : Sheet) → Lawful (get l sh) (put l sh)
unfolding Semantics.get Semantics.put
lawful zero sh n μ σ v W z = stopped tt
lawful (suc l) sh n μ σ v W z = after_plus 1 (after_map (node_law (get l sh) (put l sh) (lawful l sh) sh μ σ v W _ z) λ X s h.
    (h.0, λ μ' ag. after_plus 1 (after_map (h.1 μ' ag) λ a t k. (k.0, omega arith))))

-- The law, in plain words.
module _ (l : ℕ) (sh : Sheet) (n : ℕ) (μ : Env) (σ : List ℕ) (v : Value) (W X : Cells) (s : ℕ) (fits : Fits v) (put_done : put l sh n μ σ v W ≡ done X s) where
  pub consistency : (μ' : Env) → length σ ≡ length μ' → ((x c : ℕ) (m : Value) → get_elem? σ x ≡ some c → get_elem? μ' x ≡ some m → Reads X c m)
      → (t : ℕ) × (get l sh n μ' ≡ done v t) × (t ≤ s)
  consistency μ' e h = gives_out ((after_at (rw put_done at (lawful l sh n μ σ v W fits))).1 μ' (all2_of σ μ' e h))

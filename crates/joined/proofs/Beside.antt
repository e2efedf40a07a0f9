-- A put beside another: made on cells that already hold what another put wrote, it does as it does alone, with what was there merged in, or
-- is refused with 54, and no later.
use Rattle.std.specs.Prelude.{◌≡◌, not, List, [], ◌∷◌, ◌++◌, length, get_or, take, set, replicate}
use Rattle.std.proofs.Math.Path.{refl}
use Rattle.std.proofs.Common.{sym, arith}
use Rattle.std.proofs.Math.Option.{Option, none, some, none-ne-some, some-injective}
use Prim.Native.Nat.{ℕ, zero, suc, ◌+◌, ◌≤◌}
use Rattle.std.proofs.Math.Decide.{dec_le}
use Rattle.std.proofs.Math.ListN.{get_elem?}
use Rattle.value.specs.Value.{Value, Values, vfalse, vtrue, list, number, wide, nil, cons, size, same_value}
use Rattle.value.specs.Views.{as_list, as_front, as_pair, as_number, as_truth}
use Rattle.value.specs.Tests.{passes}
use Rattle.node.specs.declared.Node.{Node}
use Rattle.node.specs.declared.Node.TheVariants.{Var, False, True, Empty, Number, Front, Pair, ListCase, TruthCase, Split, Call, Add, Each, Wide}
use Rattle.sheet.specs.Sheet.{Sheet}
use Rattle.rules.specs.Outcome.{Out, done, refused, plus, steps, when, ◌>>=◌, given, choose}
use Rattle.rules.specs.Semantics
use Rattle.rules.specs.Counting.{Env, Cells, Getter, Putter, two, pick, on_list, rest_of, get, or_old, constant, write, both, under, mk_list, mk_pair}
use Rattle.rules.specs.Counting.{stood_for, put_each, put_node, put}
use Rattle.rules.proofs.Laws.Related.{at_behind, at_seam, at_last}
use Rattle.published.specs.Published.{Merge1, neither, left, right, same, Merge, m_ends, m_more}

-- OUTCOMES: both done in as many steps, and Q; refused alike; or the second refused with 54, no later than the first ends
pub data Meets {A B : Type 0} (Q : A → B → Type 0) : Out A → Out B → Type 0 where
  alike : {a : A} {b : B} {s : ℕ} → Q a b → Meets Q (done a s) (done b s)
  refuses : {c s : ℕ} → Meets Q (refused c s) (refused c s)
  clashes : {o : Out A} {s : ℕ} → s ≤ steps o → Meets Q o (refused 54 s)

steps-plus : {A : Type 0} (s : ℕ) (o : Out A) → steps (plus s o) ≡ s + steps o
unfolding steps plus
steps-plus s (done a t) = refl
steps-plus s (refused c t) = refl

steps_bind : {A B : Type 0} (m : Out A) (f : A → Out B) → steps m ≤ steps (m >>= f)
unfolding steps ◌>>=◌
steps_bind (done a s) f = omega (arith, steps-plus s (f a))
steps_bind (refused c s) f = omega arith

module _ {A B : Type 0} {Q : A → B → Type 0} where
  -- `alike` with its goal read first
  fine : {a : A} {b : B} {s : ℕ} → Q a b → Meets Q (done a s) (done b s)
  fine q = alike q

  clash : (o : Out A) {s : ℕ} → s ≤ steps o → Meets Q o (refused 54 s)
  clash o h = clashes h

  meets_plus : {o : Out A} {o' : Out B} (s : ℕ) → Meets Q o o' → Meets Q (plus s o) (plus s o')
  unfolding plus
  meets_plus s (alike q) = alike q
  meets_plus s refuses = refuses
  meets_plus s (clashes {o} h) = clash (plus s o) (omega (arith, steps-plus s o))

  meets_list : (l : Values) {x : Out A} {x' : Out B} {k : Value → Values → Out A} {k' : Value → Values → Out B} → Meets Q x x'
      → ((f : Value) (r : Values) → Meets Q (k f r) (k' f r)) → Meets Q (on_list l x k) (on_list l x' k')
  unfolding on_list
  meets_list nil h hc = h
  meets_list (cons f r) h hc = hc f r

module _ {A B : Type 0} {Q : A → B → Type 0} {P R : Type 0} where
  meets_choose : (p : Dec P) (q : Dec R) {x y : Out A} {x' y' : Out B} → Meets Q x x' → Meets Q y y' → Meets Q (choose p q x y) (choose p q x' y')
  unfolding choose
  meets_choose (yes p) q h k = h
  meets_choose (no p) (yes q) h k = k
  meets_choose (no p) (no q) h k = refuses

module _ {A B C D : Type 0} {P : A → B → Type 0} {Q : C → D → Type 0} where
  meets_bind : {m : Out A} {m' : Out B} {f : A → Out C} {f' : B → Out D} → Meets P m m' → ((a : A) (b : B) → P a b → Meets Q (f a) (f' b))
      → Meets Q (m >>= f) (m' >>= f')
  unfolding ◌>>=◌
  meets_bind (alike p) k = meets_plus _ (k _ _ p)
  meets_bind refuses k = refuses
  meets_bind {f = f} (clashes {o} h) k = clash (o >>= f) (omega (arith, steps_bind o f))

module _ {A C D : Type 0} {Q : C → D → Type 0} where
  -- a get is the same in both
  meets_got : (m : Out A) {f : A → Out C} {f' : A → Out D} → ((a : A) → Meets Q (f a) (f' a)) → Meets Q (m >>= f) (m >>= f')
  unfolding ◌>>=◌
  meets_got (done a s) k = meets_plus s (k a)
  meets_got (refused c s) k = refuses

  meets_given : (c : ℕ) (o : Option A) {f : A → Out C} {f' : A → Out D} → ((a : A) → Meets Q (f a) (f' a)) → Meets Q (given c o f) (given c o f')
  unfolding given
  meets_given c none k = refuses
  meets_given c (some a) k = k a

-- CELLS: W' is W with E merged in
merge_left_length : {E W W' : Cells} → Merge E W W' → length W ≡ length E
merge_left_length m_ends = refl
merge_left_length (m_more m ms) = omega (arith, merge_left_length ms)

merge_length : {E W W' : Cells} → Merge E W W' → length W' ≡ length E
merge_length m_ends = refl
merge_length (m_more m ms) = omega (arith, merge_length ms)

-- new cells, which E does not have
merge_new : {E W W' : Cells} (N : Cells) → Merge N N N → Merge E W W' → Merge (E ++ N) (W ++ N) (W' ++ N)
merge_new N n m_ends = n
merge_new N n (m_more m ms) = m_more m (merge_new N n ms)

-- are the same in both
same_new : {E W W' : Cells} (c : ℕ) → Merge E W W' → get_elem? E c ≡ some none → get_elem? W' c ≡ get_elem? W c
same_new c m_ends e = refl
same_new zero (m_more neither ms) e = refl
same_new zero (m_more left ms) e = absurd (none-ne-some _ (sym (some-injective _ _ e)))
same_new zero (m_more right ms) e = refl
same_new zero (m_more (same h) ms) e = refl
same_new (suc c) (m_more m ms) e = same_new c ms e

-- and are dropped again
merge_dropped : (E N : Cells) {W W' : Cells} → Merge (E ++ N) W W' → Merge E (take (length E) W) (take (length E) W')
merge_dropped [] N m = m_ends
merge_dropped (o ∷ E) N (m_more m ms) = m_more m (merge_dropped E N ms)

module _ {C D : Type 0} {Q : C → D → Type 0} where
  -- a cell that is looked up is in both or in neither
  meets_cell : {E W W' : Cells} (n c : ℕ) {f : Option Value → Out C} {f' : Option Value → Out D} → Merge E W W'
      → ((x o q : Option Value) → get_elem? E c ≡ some x → get_elem? W c ≡ some o → get_elem? W' c ≡ some q → Merge1 x o q → Meets Q (f o) (f' q))
      → Meets Q (given n (get_elem? W c) f) (given n (get_elem? W' c) f')
  unfolding given
  meets_cell n c m_ends k = refuses
  meets_cell n zero (m_more m ms) k = k _ _ _ refl refl refl m
  meets_cell n (suc c) (m_more m ms) k = meets_cell n c ms k

  -- a new cell has the same in both
  meets_new : {E W W' : Cells} (n c : ℕ) {f : Option Value → Out C} {f' : Option Value → Out D} → Merge E W W' → get_elem? E c ≡ some none
      → ((o : Option Value) → Meets Q (f o) (f' o)) → Meets Q (given n (get_elem? W c) f) (given n (get_elem? W' c) f')
  meets_new {W = W} n c ms e k = rw (same_new c ms e) (meets_given n (get_elem? W c) k)

merge_set : {E W W' : Cells} (c : ℕ) {x o q : Option Value} → Merge E W W' → get_elem? E c ≡ some x → Merge1 x o q → Merge E (set W c o) (set W' c q)
merge_set c m_ends e m = m_ends
merge_set zero (m_more _ ms) e m = m_more (rw (← some-injective _ _ e) at m) ms
merge_set (suc c) (m_more k ms) e m = m_more k (merge_set c ms e m)

merge_met : {E W W' : Cells} (c : ℕ) {x o q : Option Value} → Merge E W W' → get_elem? E c ≡ some x → get_elem? W' c ≡ some q → Merge1 x o q
    → Merge E (set W c o) W'
merge_met c m_ends e d m = m_ends
merge_met zero (m_more _ ms) e d m = m_more (rw (← some-injective _ _ e, ← some-injective _ _ d) at m) ms
merge_met (suc c) (m_more k ms) e d m = m_more k (merge_met c ms e d m)

-- where nothing was written, X is all there is
pub merge_none : (X : Cells) (n : ℕ) → length X ≡ n → Merge X (replicate n none) X
merge_none [] zero e = m_ends
merge_none [] (suc n) e = absurd (omega arith)
merge_none (o ∷ X) zero e = absurd (omega arith)
merge_none (none ∷ X) (suc n) e = m_more neither (merge_none X n (omega arith))
merge_none (some v ∷ X) (suc n) e = m_more left (merge_none X n (omega arith))

-- PUT
abbrev PutsBeside : Putter → Type 0
PutsBeside p = (n : ℕ) (μ : Env) (σ : List ℕ) (v : Value) (E W W' : Cells) → Merge E W W' → Meets (Merge E) (p n μ σ v W) (p n μ σ v W')

module _ (g : Getter) (p : Putter) (ih : PutsBeside p) (root d c : ℕ) (a : Value) where
  each_beside : (n : ℕ) (old l : Values) (E W W' : Cells) → Merge E W W'
      → Meets (λ (q r : Values × Cells). (q.0 ≡ r.0) × Merge E q.1 r.1) (put_each g p root d c a n old l W) (put_each g p root d c a n old l W')
  unfolding Semantics.put_each
  each_beside n old nil E W W' m = fine (refl, m)
  each_beside n old (cons v l) E W W' m = rw (merge_left_length m, merge_length m) (meets_got (stood_for g d old) λ b.
      meets_bind (ih root (two b a) (two (length E) c) v _ _ _ (merge_new (none ∷ []) (m_more neither m_ends) m)) λ X X' k.
      meets_new 42 (length E) k (at_behind E none []) λ o. meets_given 44 (when (dec_le (n + suc (size (or_old o b))) 256)) λ _.
      meets_bind (each_beside (n + suc (size (or_old o b))) (rest_of old) l E _ _ (merge_dropped E (none ∷ []) k)) λ q r h. fine (rw h.0 refl, h.1))

module _ (g : Getter) (p : Putter) (ih : PutsBeside p) (sh : Sheet) (μ : Env) (σ : List ℕ) (v : Value) (E W W' : Cells) (m : Merge E W W') where
  constant_beside : (u : Value) → Meets (Merge E) (constant v u W) (constant v u W')
  unfolding Semantics.constant
  constant_beside u = meets_given 50 (when (same_value v u)) λ _. fine m

  -- what the other wrote is met, and is the same or not
  write_met : (c : ℕ) (w : Value) → get_elem? E c ≡ some (some w) → get_elem? W' c ≡ some (some w) → (d : Dec (w ≡ v))
      → Meets (Merge E) (done (set W c (some v)) 0) (given 54 (when d) λ _. done W' 0)
  unfolding given when
  write_met c w ex eq (yes h) = fine (merge_met c m ex (rw h at eq) (same h))
  write_met c w ex eq (no h) = clash (done (set W c (some v)) 0) (omega arith)

  write_beside : (c : ℕ) (x o q : Option Value) → get_elem? E c ≡ some x → get_elem? W c ≡ some o → get_elem? W' c ≡ some q → Merge1 x o q
      → Meets (Merge E) (write c v W o) (write c v W' q)
  unfolding Semantics.write
  write_beside c x o q ex eo eq neither = fine (merge_set c m ex right)
  write_beside c x o q ex eo eq (left {v = w}) = write_met c w ex eq (same_value w v)
  write_beside c x o q ex eo eq (right {v = w}) = meets_given 54 (when (same_value w v)) λ _. fine m
  write_beside c x o q ex eo eq (same {u = w} h) = meets_given 54 (when (same_value w v)) λ _. fine m

  both_beside : (a b : ℕ) (x y : Value) → Meets (Merge E) (both p μ σ W a x b y) (both p μ σ W' a x b y)
  unfolding Semantics.both
  both_beside a b x y = meets_bind (ih a μ σ x E W W' m) λ X X' k. ih b μ σ y E X X' k

  under_beside : (b s : ℕ) (mk : Value → Value → Option Value) (f r : Value) → Meets (Merge E) (under p μ σ W b v s mk f r) (under p μ σ W' b v s mk f r)
  unfolding Semantics.under
  under_beside b s mk f r = rw (merge_left_length m, merge_length m)
      (meets_bind (ih b (μ ++ two f r) (σ ++ two (length E) (suc (length E))) v _ _ _ (merge_new (two none none) (m_more neither (m_more neither m_ends)) m))
      λ X X' k. meets_new 42 (length E) k (at_seam E none none) λ x. meets_new 42 (suc (length E)) k (at_last E none none) λ y.
      meets_given 43 (mk (or_old x f) (or_old y r)) λ u. meets_given 44 (when (dec_le (size u) 256)) λ _. ih s μ σ u E _ _ (merge_dropped E (two none none) k))

  put_node_beside : (nd : Node) → Meets (Merge E) (put_node g p sh nd μ σ v W) (put_node g p sh nd μ σ v W')
  unfolding Semantics.put_node
  put_node_beside (Var x) = meets_given 42 (get_elem? σ x) λ c. meets_cell 42 c m (write_beside c)
  put_node_beside False = constant_beside vfalse
  put_node_beside True = constant_beside vtrue
  put_node_beside Empty = constant_beside (list nil)
  put_node_beside (Number n) = constant_beside (number n)
  put_node_beside (Wide n) = constant_beside (wide n)
  put_node_beside (Front a b) = meets_given 51 (as_front v) λ c. both_beside a b _ _
  put_node_beside (Pair a b) = meets_given 51 (as_pair v) λ c. both_beside a b _ _
  put_node_beside (ListCase s e te n tn df dr) = meets_got (g s μ) λ o. meets_given 43 (as_list o) λ l. meets_list l.0
      (meets_choose (passes te v) (passes tn v) (both_beside e s v (list nil))
      (meets_got (g df (v ∷ [])) λ f. meets_got (g dr (v ∷ [])) λ r. meets_given 43 (as_list r) λ _. under_beside n s mk_list f r))
      λ f r. meets_choose (passes tn v) (passes te v) (under_beside n s mk_list f (list r)) (both_beside e s v (list nil))
  put_node_beside (TruthCase s f tf t t₁) = meets_got (g s μ) λ o. meets_given 43 (as_truth o) λ b.
      meets_choose (passes (pick b.0 tf t₁) v) (passes (pick (not b.0) tf t₁) v) (both_beside _ s v _) (both_beside _ s v _)
  put_node_beside (Split s i) = meets_got (g s μ) λ o. meets_given 43 (as_pair o) λ c. under_beside i s mk_pair _ _
  put_node_beside (Call sec x y) = meets_given 42 (get_elem? μ x) λ a. meets_given 42 (get_elem? σ x) λ c. meets_given 42 (get_elem? μ y) λ b.
      meets_given 42 (get_elem? σ y) λ d. ih _ _ _ v E W W' m
  put_node_beside (Add n k) = meets_given 51 (as_number v) λ c. meets_given 52 (when (dec_le k c.0)) λ _. ih n μ σ _ E W W' m
  put_node_beside (Each s sec x d) = meets_given 51 (as_list v) λ l. meets_got (g s μ) λ o. meets_given 43 (as_list o) λ old.
      meets_given 42 (get_elem? μ x) λ a. meets_given 42 (get_elem? σ x) λ c.
      meets_bind (each_beside g p ih (get_or sh.sections sec 0) d c a 1 old.0 l.0 E W W' m) λ q r h. rw h.0 (ih s μ σ _ E _ _ h.1)

pub puts_beside : (l : ℕ) (sh : Sheet) → PutsBeside (put l sh)
unfolding Semantics.put
puts_beside zero sh n μ σ v E W W' m = refuses
puts_beside (suc l) sh n μ σ v E W W' m = meets_plus 1 (put_node_beside (get l sh) (put l sh) (puts_beside l sh) sh μ σ v E W W' m _)

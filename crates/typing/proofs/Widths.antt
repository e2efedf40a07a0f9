-- On a sheet that passed no variable is out of scope (42), whatever values the plan and the view have: a scope has as many variables as it has types.
use Rattle.std.specs.Prelude.{◌≡◌, ◌+◌, Bool, not, List, [], ◌∷◌, ◌++◌, take}
use Rattle.std.proofs.Math.Path.{refl}
use Rattle.std.proofs.Common.{◌∙◌, arith, length-set}
use Rattle.std.proofs.Math.Bool.{true, false}
use Rattle.std.proofs.Math.Option.{Option, none, some, none-ne-some}
use Prim.Native.Nat.{ℕ, zero, suc, ◌+◌, ◌≤◌, ◌<◌}
use Rattle.std.proofs.Math.ListN.{length, get_elem?, length-append}
use Rattle.std.proofs.Math.Seq.{length-take-le}
use Rattle.value.specs.All.{All, none as empty, each}
use Rattle.value.specs.Value.{Value, Values, list, nil, cons, size, truth}
use Rattle.node.specs.declared.Node.{Node}
use Rattle.node.specs.declared.Node.TheVariants.{Var, False, True, Empty, Number, Front, Pair, ListCase, TruthCase, Split, Call, Add, Each, Wide}
use Rattle.sheet.specs.Sheet.{Sheet}
use Rattle.sheet.specs.Laws.{Ranged}
use Rattle.rules.specs.Outcome.{Out, plus, ◌>>=◌, given, choose}
use Rattle.rules.specs.Semantics
use Rattle.rules.specs.Semantics.{two, pick, on_list, rest_of, mk_list, mk_pair}
use Rattle.rules.specs.Counting.{counting, Env, Cells, Getter, Putter, get_node, get, put_node, put}
use Rattle.typing.specs.Types.{Ty, lists}
use Rattle.typing.specs.Fits.{Lent, Scope, node_of, root_of, type_of, Fits, places, In, here, there, Reached, root, child, Passed}
use Rattle.typing.proofs.Fits.{section_root_lem}
use Rattle.typing.specs.Widths.{Safe, fine, other, CellsIn, Any}

safe_plus : {A : Type 0} {Q : A → Type 0} {o : Out A} (s : ℕ) → Safe Q o → Safe Q (plus s o)
unfolding plus
safe_plus s (fine q) = fine q
safe_plus s (other h) = other h

safe_bind : {A B : Type 0} {P : A → Type 0} {Q : B → Type 0} {m : Out A} {f : A → Out B} → Safe P m → ((a : A) → P a → Safe Q (f a)) → Safe Q (m >>= f)
unfolding ◌>>=◌
safe_bind (fine p) h = safe_plus _ (h _ p)
safe_bind (other r) h = other r

safe_map : {A : Type 0} {P Q : A → Type 0} {m : Out A} → Safe P m → ((a : A) → P a → Q a) → Safe Q m
safe_map (fine p) h = fine (h _ p)
safe_map (other r) h = other r

module _ {B : Type 0} {Q : B → Type 0} where
  safe_given : {A : Type 0} (c : ℕ) (o : Option A) {f : A → Out B} → (c ≡ 42 → ⊥) → ((a : A) → Safe Q (f a)) → Safe Q (given c o f)
  unfolding given
  safe_given c none n h = other n
  safe_given c (some a) n h = h a

  safe_there : {A : Type 0} (c : ℕ) (o : Option A) {a : A} (f : A → Out B) → o ≡ some a → Safe Q (f a) → Safe Q (given c o f)
  unfolding given
  safe_there c none f e h = absurd (none-ne-some _ e)
  safe_there c (some b) {a} f e h = let z : a ≡ b = cc in rw z at h

  safe_choose : {X Y : Type 0} (p : Dec X) (q : Dec Y) {x y : Out B} → Safe Q x → Safe Q y → Safe Q (choose p q x y)
  unfolding choose
  safe_choose (yes p) q h k = h
  safe_choose (no p) (yes q) h k = k
  safe_choose (no p) (no q) h k = other {c = 53} (λ e. omega arith)

  safe_list : (l : Values) {x : Out B} {f : Value → Values → Out B} → Safe Q x → ((a : Value) (r : Values) → Safe Q (f a r)) → Safe Q (on_list l x f)
  unfolding on_list
  safe_list nil h k = h
  safe_list (cons a r) h k = k a r

-- LISTS OF ONE LENGTH
at_some : {A B : Type 0} (xs : List A) (ys : List B) (i : ℕ) {a : A} → length ys ≡ length xs → get_elem? xs i ≡ some a → (b : B) × (get_elem? ys i ≡ some b)
at_some [] ys i l e = absurd (none-ne-some _ e)
at_some (x ∷ xs) [] i l e = absurd (omega arith)
at_some (x ∷ xs) (y ∷ ys) zero l e = (y, refl)
at_some (x ∷ xs) (y ∷ ys) (suc i) l e = at_some xs ys i (omega arith) e

inside : {A : Type 0} (xs : List A) (i : ℕ) → i < length xs → (a : A) × (get_elem? xs i ≡ some a)
inside [] i h = absurd (omega arith)
inside (x ∷ xs) zero h = (x, refl)
inside (x ∷ xs) (suc i) h = inside xs i (omega arith)

at_all : {A : Type 0} {P : A → Type 0} (l : List A) (i : ℕ) {a : A} → All P l → get_elem? l i ≡ some a → P a
at_all [] i h e = absurd (none-ne-some _ e)
at_all (x ∷ l) zero {a} (each p h) e = let z : x ≡ a = cc in rw z at p
at_all (x ∷ l) (suc i) (each p h) e = at_all l i h e

wider : {k m : ℕ} → k ≤ m → {σ : List ℕ} → CellsIn k σ → CellsIn m σ
wider h empty = empty
wider h (each {a} p r) = each {a = a} (omega arith) (wider h r)

also : {k : ℕ} {σ ρ : List ℕ} → CellsIn k σ → CellsIn k ρ → CellsIn k (σ ++ ρ)
also empty h = h
also (each p r) h = each p (also r h)

-- GET
module _ (sh : Sheet) (ts : Lent) where
  record Gets (nd : Node) (t : Ty) (Γ : Scope) (g : Getter) : Type 0 where
    pub child : {m : ℕ} {Δ : Scope} {ν : Env} → In (m, Δ) (places ts nd t Γ) → length ν ≡ length Δ → Safe Any (g m ν)
    pub root : (c : ℕ) → c < length sh.sections → (a b : Value) → Safe Any (g (root_of sh c) (two a b))

  bounded_safe : (v : Value) → Safe Any (Semantics.bounded counting v)
  unfolding Semantics.bounded
  bounded_safe v = safe_given 44 _ (λ e. omega arith) λ _. fine tt

  tested_safe : (k : ℕ) {m : Out Value} → Safe Any m → Safe Any (Semantics.tested counting k m)
  unfolding Semantics.tested
  tested_safe k h = safe_bind h λ v _. safe_given 46 _ (λ e. omega arith) λ _. fine tt

  get_each_safe : (g : Getter) (k : ℕ) (a : Value) → ((m : Value) → Safe Any (g k (two m a))) → (n : ℕ) (l : Values)
      → Safe Any (Semantics.get_each counting g k a n l)
  unfolding Semantics.get_each
  get_each_safe g k a h n nil = fine tt
  get_each_safe g k a h n (cons m r) =
      safe_bind (h m) λ w _. safe_given 44 _ (λ e. omega arith) λ _. safe_bind (get_each_safe g k a h (n + suc (size w)) r) λ ws _. fine tt

  module _ (g : Getter) (t : Ty) (Γ : Scope) (μ : Env) (w : length μ ≡ length Γ) (nodes own : ℕ) where
    two_more : (a b : Value) (x y : Ty) → length (μ ++ two a b) ≡ length (Γ ++ two x y)
    two_more a b x y = rw (length-append, length-append) (omega arith)

    get_node_safe : (nd : Node) → Fits ts nd t Γ → Ranged nodes (length sh.sections) own nd → Gets nd t Γ g → Safe Any (get_node g sh nd μ)
    unfolding Semantics.get_node
    get_node_safe (Var x) f r h = let (v, e) = at_some Γ μ x w f in safe_there 42 _ _ e (fine tt)
    get_node_safe False f r h = fine tt
    get_node_safe True f r h = fine tt
    get_node_safe Empty f r h = fine tt
    get_node_safe (Number n) f r h = fine tt
    get_node_safe (Wide n) f r h = fine tt
    get_node_safe (Front a b) f r h = safe_bind (h.child here w) λ u _. safe_bind (h.child (there here) w) λ v _.
        safe_given 43 _ (λ e. omega arith) λ l. bounded_safe _
    get_node_safe (Pair a b) f r h = safe_bind (h.child here w) λ u _. safe_bind (h.child (there here) w) λ v _. bounded_safe _
    get_node_safe (ListCase s e te n tn df dr) f r h = safe_bind (h.child here w) λ v _. safe_given 43 _ (λ z. omega arith) λ l.
        safe_list l.0 (tested_safe te (h.child (there here) w)) λ a b. tested_safe tn (h.child (there (there here))
        (rw f.0 (two_more a (list b) (type_of ts df) (lists (type_of ts df)))))
    get_node_safe (TruthCase s f₁ tf t₁ tt₁) f r h = safe_bind (h.child here w) λ v _. safe_given 43 _ (λ z. omega arith) λ b. tested_safe _ (side b.0)
      where
        side : (b : Bool) → Safe Any (g (pick b f₁ t₁) μ)
        side false = h.child (there here) w
        side true = h.child (there (there here)) w
    get_node_safe (Split s i) f r h = safe_bind (h.child here w) λ v _. safe_given 43 _ (λ z. omega arith) λ c.
        h.child (there here) (rw f.2 (two_more c.0 c.1 f.0 f.1))
    get_node_safe (Call c x y) f r h = let (a, ea) = at_some Γ μ x w f.0 in let (b, eb) = at_some Γ μ y w f.1 in
        safe_there 42 _ _ ea (safe_there 42 _ _ eb (h.root c r.0 a b))
    get_node_safe (Add m k) f r h = safe_bind (h.child here w) λ v _. safe_given 43 _ (λ z. omega arith) λ n. safe_given 45 _ (λ z. omega arith) λ _. fine tt
    get_node_safe (Each s c x d) f r h = safe_bind (h.child here w) λ v _. safe_given 43 _ (λ z. omega arith) λ l.
        let (a, ea) = at_some Γ μ x w f.2 in
        safe_there 42 _ _ ea (safe_bind (get_each_safe g (root_of sh c) a (λ m. h.root c r.1.0 m a) 1 l.0) λ ws _. fine tt)

  -- PUT: as many cells as there were

  abbrev Same : Cells → Cells → Type 0
  Same W Y = length Y ≡ length W

  record Puts (nd : Node) (t : Ty) (Γ : Scope) (p : Putter) : Type 0 where
    pub child : {m : ℕ} {Δ : Scope} {ν : Env} {ρ : List ℕ} {X : Cells} (u : Value) → In (m, Δ) (places ts nd t Γ) → length ν ≡ length Δ
        → length ρ ≡ length Δ → CellsIn (length X) ρ → Safe (Same X) (p m ν ρ u X)
    pub root : (c : ℕ) → c < length sh.sections → (a b : Value) {i j : ℕ} {X : Cells} (u : Value) → i < length X → j < length X
        → Safe (Same X) (p (root_of sh c) (two a b) (two i j) u X)

  constant_safe : (v u : Value) (W : Cells) → Safe (Same W) (Semantics.constant counting v u W)
  unfolding Semantics.constant
  constant_safe v u W = safe_given 50 _ (λ e. omega arith) λ _. fine refl

  write_safe : (c : ℕ) (v : Value) (W : Cells) (o : Option Value) → Safe (Same W) (Semantics.write counting (λ v. v) c v W o)
  unfolding Semantics.write
  write_safe c v W none = fine (length-set W c (some v))
  write_safe c v W (some w) = safe_given 54 _ (λ e. omega arith) λ _. fine refl

  module _ (g : Getter) (p : Putter) (t : Ty) (Γ : Scope) (μ : Env) (σ : List ℕ) (W : Cells) (w : length μ ≡ length Γ) (w' : length σ ≡ length Γ)
      (k : CellsIn (length W) σ) (nd : Node) (gs : Gets nd t Γ g) (ps : Puts nd t Γ p) where
    -- a child in the node's own scope
    own_child : {m : ℕ} {X : Cells} (u : Value) → In (m, Γ) (places ts nd t Γ) → length X ≡ length W → Safe (Same X) (p m μ σ u X)
    own_child u i l = ps.child u i w w' (wider (omega arith) k)

    both_safe : {a b : ℕ} (v u : Value) → In (a, Γ) (places ts nd t Γ) → In (b, Γ) (places ts nd t Γ) → Safe (Same W) (Semantics.both counting p μ σ W a v b u)
    unfolding Semantics.both
    both_safe v u i j = safe_bind (own_child v i refl) λ X l. safe_map (own_child u j l) λ Y q. q ∙ l

    under_safe : {b s : ℕ} (x y : Ty) (v : Value) (mk : Value → Value → Option Value) (f r : Value) → In (b, Γ ++ two x y) (places ts nd t Γ)
        → In (s, Γ) (places ts nd t Γ) → Safe (Same W) (Semantics.under counting p μ σ W b v s mk f r)
    unfolding Semantics.under
    under_safe x y v mk f r i j =
        let n = length W in
        let long : length (W ++ two none none) ≡ n + 2 = rw length-append in
        safe_bind (ps.child {X = W ++ two none none} v i (rw (length-append, length-append) (omega arith)) (rw (length-append, length-append) (omega arith))
        (also (wider (omega (arith, long)) k) (each {a = n} (omega (arith, long)) (each {a = suc n} (omega (arith, long)) empty)))) λ X l.
        let (a, ea) = inside X n (omega (arith, long)) in let (b, eb) = inside X (suc n) (omega (arith, long)) in
        safe_there 42 _ _ ea (safe_there 42 _ _ eb (safe_given 43 _ (λ e. omega arith) λ u. safe_given 44 _ (λ e. omega arith) λ _.
        let q : length (take n X) ≡ n = length-take-le n X (omega (arith, long)) in
        safe_map (own_child u j q) λ Y z. z ∙ q))

  module _ (g : Getter) (p : Putter) where
    -- what a member stands for
    stood_safe : (d : ℕ) (old : Values) → Safe Any (g d []) → Safe Any (Semantics.stood_for counting g d old)
    unfolding Semantics.stood_for
    stood_safe d old h = safe_list old h λ m r. fine tt

    put_each_safe : (k d : ℕ) → Safe Any (g d []) → (a : Value)
        → ((m u : Value) (i j : ℕ) (X : Cells) → i < length X → j < length X → Safe (Same X) (p k (two m a) (two i j) u X))
        → (c n : ℕ) (old l : Values) (W : Cells) → c < length W → Safe (λ q. length q.1 ≡ length W) (Semantics.put_each counting g p k d c a n old l W)
    unfolding Semantics.put_each
    put_each_safe k d dh a h c n old nil W lt = fine refl
    put_each_safe k d dh a h c n old (cons v r) W lt =
        let m = length W in
        let long : length (W ++ none ∷ []) ≡ m + 1 = rw length-append in
        safe_bind (stood_safe d old dh) λ s _. safe_bind (h s v m c (W ++ none ∷ []) (omega (arith, long)) (omega (arith, long))) λ X l.
        let (o, eo) = inside X m (omega (arith, long)) in
        let q : length (take m X) ≡ m = length-take-le m X (omega (arith, long)) in
        safe_there 42 _ _ eo (safe_given 44 _ (λ e. omega arith) λ _.
        safe_bind (put_each_safe k d dh a h c (n + suc (size (Semantics.or_old counting o s))) (rest_of old) r (take m X) (omega (arith, q))) λ y z. fine (z ∙
        q))

  module _ (g : Getter) (p : Putter) (t : Ty) (Γ : Scope) (μ : Env) (σ : List ℕ) (W : Cells) (w : length μ ≡ length Γ) (w' : length σ ≡ length Γ)
      (k : CellsIn (length W) σ) (nodes own : ℕ) where
    put_node_safe : (nd : Node) (v : Value) → Fits ts nd t Γ → Ranged nodes (length sh.sections) own nd → Gets nd t Γ g → Puts nd t Γ p
        → Safe (Same W) (put_node g p sh nd μ σ v W)
    unfolding Semantics.put_node
    put_node_safe (Var x) v f r gs ps =
        let (c, ec) = at_some Γ σ x w' f in
        let (o, eo) = inside W c (at_all σ x k ec) in
        safe_there 42 _ _ ec (safe_there 42 _ _ eo (write_safe c v W o))
    put_node_safe False v f r gs ps = constant_safe v _ W
    put_node_safe True v f r gs ps = constant_safe v _ W
    put_node_safe Empty v f r gs ps = constant_safe v _ W
    put_node_safe (Number n) v f r gs ps = constant_safe v _ W
    put_node_safe (Wide n) v f r gs ps = constant_safe v _ W
    put_node_safe (Front a b) v f r gs ps = safe_given 51 _ (λ e. omega arith) λ c.
        both_safe g p t Γ μ σ W w w' k (Front a b) gs ps c.0 (list c.1) here (there here)
    put_node_safe (Pair a b) v f r gs ps = safe_given 51 _ (λ e. omega arith) λ c.
        both_safe g p t Γ μ σ W w w' k (Pair a b) gs ps c.0 c.1 here (there here)
    put_node_safe (ListCase s e te n tn df dr) v f r gs ps = safe_bind (gs.child here w) λ o _. safe_given 43 _ (λ z. omega arith) λ l.
        safe_list l.0
        (safe_choose _ _ empties (safe_bind (gs.child (there (there (there here))) refl) λ a _.
        safe_bind (gs.child (there (there (there (there here)))) refl) λ b _. safe_given 43 _ (λ z. omega arith) λ _. parts a b))
        λ a b. safe_choose _ _ (parts a (list b)) empties
      where
        empties : Safe (Same W) (Semantics.both counting p μ σ W e v s (list nil))
        empties = both_safe g p t Γ μ σ W w w' k (ListCase s e te n tn df dr) gs ps v (list nil) (there here) here

        parts : (a b : Value) → Safe (Same W) (Semantics.under counting p μ σ W n v s mk_list a b)
        parts a b = under_safe g p t Γ μ σ W w w' k (ListCase s e te n tn df dr) gs ps (type_of ts df) (lists (type_of ts df)) v mk_list a b
            (rw f.0 (there (there here))) here
    put_node_safe (TruthCase s f₁ tf t₁ tt₁) v f r gs ps = safe_bind (gs.child here w) λ o _. safe_given 43 _ (λ z. omega arith) λ b.
        safe_choose _ _ (side b.0 (truth b.0)) (side (not b.0) (truth (not b.0)))
      where
        side : (b : Bool) (u : Value) → Safe (Same W) (Semantics.both counting p μ σ W (pick b f₁ t₁) v s u)
        side false u = both_safe g p t Γ μ σ W w w' k (TruthCase s f₁ tf t₁ tt₁) gs ps v u (there here) here
        side true u = both_safe g p t Γ μ σ W w w' k (TruthCase s f₁ tf t₁ tt₁) gs ps v u (there (there here)) here
    put_node_safe (Split s i) v f r gs ps = safe_bind (gs.child here w) λ o _. safe_given 43 _ (λ z. omega arith) λ c.
        under_safe g p t Γ μ σ W w w' k (Split s i) gs ps f.0 f.1 v mk_pair c.0 c.1 (rw f.2 (there here)) here
    put_node_safe (Call c x y) v f r gs ps =
        let (a, ea) = at_some Γ μ x w f.0 in let (i, ei) = at_some Γ σ x w' f.0 in
        let (b, eb) = at_some Γ μ y w f.1 in let (j, ej) = at_some Γ σ y w' f.1 in
        safe_there 42 _ _ ea (safe_there 42 _ _ ei (safe_there 42 _ _ eb (safe_there 42 _ _ ej
        (ps.root c r.0 a b v (at_all σ x k ei) (at_all σ y k ej)))))
    put_node_safe (Add m n) v f r gs ps = safe_given 51 _ (λ e. omega arith) λ u. safe_given 52 _ (λ e. omega arith) λ _. ps.child _ here w w' k
    put_node_safe (Each s c x d) v f r gs ps = safe_given 51 _ (λ e. omega arith) λ l. safe_bind (gs.child here w) λ o _.
        safe_given 43 _ (λ e. omega arith) λ old.
        let (a, ea) = at_some Γ μ x w f.2 in let (i, ei) = at_some Γ σ x w' f.2 in
        safe_there 42 _ _ ea (safe_there 42 _ _ ei (safe_bind
        (put_each_safe g p (root_of sh c) d (gs.child (there here) refl) a (λ m u i j X lt lt'. ps.root c r.1.0 m a u lt lt') i 1 old.0 l.0 W
        (at_all σ x k ei)) λ q e. safe_map (ps.child _ here w w' (wider (omega (arith, e)) k)) λ Y z. z ∙ e))

-- WHOLE WALKS OF A SHEET THAT PASSED
module _ (sh : Sheet) (ts : Lent) (passed : Passed sh ts) (ranged : (n : ℕ) → Ranged (length sh.nodes) (length sh.sections) n (node_of sh n)) where
  module _ (l : ℕ) (ih : (n : ℕ) (Γ : Scope) (μ : Env) → Reached sh ts n Γ → length μ ≡ length Γ → Safe Any (get l sh n μ)) where
    gets_below : {n : ℕ} {Γ : Scope} → Reached sh ts n Γ → Gets sh ts (node_of sh n) (type_of ts n) Γ (get l sh)
    gets_below r = record { child = λ i w. ih _ _ _ (child r i) w; root = λ c lt a b. ih _ _ _ (root (section_root_lem sh ts c lt)) refl }

  pub get_safe : (l n : ℕ) (Γ : Scope) (μ : Env) → Reached sh ts n Γ → length μ ≡ length Γ → Safe Any (get l sh n μ)
  unfolding Semantics.get
  get_safe zero n Γ μ r w = other {c = 40} (λ e. omega arith)
  get_safe (suc l) n Γ μ r w = safe_plus 1 (get_node_safe sh ts (get l sh) (type_of ts n) Γ μ w (length sh.nodes) n (node_of sh n) (passed n Γ r).fits
      (ranged n) (gets_below l (get_safe l) r))

  module _ (l : ℕ) (ih : (n : ℕ) (Γ : Scope) (μ : Env) (σ : List ℕ) (v : Value) (W : Cells) → Reached sh ts n Γ → length μ ≡ length Γ → length σ ≡ length Γ
      → CellsIn (length W) σ → Safe (λ Y. length Y ≡ length W) (put l sh n μ σ v W)) where
    puts_below : {n : ℕ} {Γ : Scope} → Reached sh ts n Γ → Puts sh ts (node_of sh n) (type_of ts n) Γ (put l sh)
    puts_below r = record {
      child = λ u i w w' k. ih _ _ _ _ _ _ (child r i) w w' k;
      root = λ c lt a b {i} {j} u p q. ih _ _ _ _ _ _ (root (section_root_lem sh ts c lt)) refl refl (each {a = i} p (each {a = j} q empty));
    }

  pub put_safe : (l n : ℕ) (Γ : Scope) (μ : Env) (σ : List ℕ) (v : Value) (W : Cells) → Reached sh ts n Γ → length μ ≡ length Γ → length σ ≡ length Γ
      → CellsIn (length W) σ → Safe (λ Y. length Y ≡ length W) (put l sh n μ σ v W)
  unfolding Semantics.put
  put_safe zero n Γ μ σ v W r w w' k = other {c = 40} (λ e. omega arith)
  put_safe (suc l) n Γ μ σ v W r w w' k = safe_plus 1 (put_node_safe sh ts (get l sh) (put l sh) (type_of ts n) Γ μ σ W w w' k (length sh.nodes) n
      (node_of sh n) v (passed n Γ r).fits (ranged n) (gets_below l (get_safe l) r) (puts_below l (put_safe l) r))

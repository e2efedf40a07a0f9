-- A sheet that holds another one, its nodes and sections under other numbers, gets and puts the held nodes as the other does: in any two
-- readings of the text that are related.
use Rattle.std.specs.Prelude.{◌≡◌, Bool, true, false, not, length, get_or, take, set}
use Rattle.std.proofs.Math.Path.{refl}
use Rattle.std.proofs.Common.{ap, sym, ◌∙◌}
use Rattle.std.proofs.Math.Option
use Rattle.std.proofs.Math.Option.{Option, none, some}
use mathlib.Core.List.{List, [], ◌∷◌, map, map-append}
use Prim.Native.Nat.{ℕ, zero, suc, ◌+◌}
use Rattle.std.proofs.lemmas.List.{length-map}
use Rattle.std.proofs.Math.ListN.{get_elem?}
use Rattle.value.specs.Value.{Value, Values, nil, cons, size}
use Rattle.node.specs.declared.Node.{Node}
use Rattle.node.specs.declared.Node.TheVariants.{Var, False, True, Empty, Number, Front, Pair, ListCase, TruthCase, Split, Call, Add, Each, Wide}
use Rattle.node.specs.Kinds.{form_of, children, calls}
use Rattle.sheet.specs.Renumbering.{of_kind, renumber}
use Rattle.sheet.specs.Sheet.{Sheet}
use Rattle.sheet.specs.Rows.{Every}
use Rattle.sheet.proofs.Rows.{renumbered_same}
use Rattle.rules.specs.Semantics
use Rattle.rules.specs.Semantics.{Reading, Env, two, pick, on_list}
use Rattle.rules.specs.Laws.Embedding.{Sent, Holds, Relates, itself}

-- a sheet holds itself
pub every_any : {P : ℕ → Type 0} (l : List ℕ) → ((n : ℕ) → P n) → Every P l
every_any [] h = tt
every_any (n ∷ l) h = (h n, every_any l h)

pub held_itself : (sh : Sheet) → Holds (λ n. Unit) (λ n. n) (λ i. i) sh sh
held_itself sh = record {
  node = λ n p. sym (renumbered_same (get_or sh.nodes n False));
  below = λ n p. every_any (children (get_or sh.nodes n False)) (λ c. tt);
  called = λ n p. every_any (calls (get_or sh.nodes n False)) (λ i. record { root = tt; same = refl });
}

option_same : {A : Type 0} (o : Option A) → o ≡ Option.map itself o
option_same none = refl
option_same (some a) = refl

pub cells_same : {A : Type 0} (W : List (Option A)) → map (Option.map itself) W ≡ W
cells_same [] = refl
cells_same (o ∷ W) = ap (λ z. z ∷ map (Option.map itself) W) (sym (option_same o)) ∙ ap (λ z. o ∷ z) (cells_same W)

picked : (P : ℕ → Type 0) (b : Bool) {x y : ℕ} → P x → P y → P (pick b x y)
picked P false p q = p
picked P true p q = q

pick-anew : (f : ℕ → ℕ) (b : Bool) (x y : ℕ) → pick b (f x) (f y) ≡ f (pick b x y)
pick-anew f false x y = refl
pick-anew f true x y = refl

module _ {R S : Reading} {f : ℕ → ℕ} (X : Relates R S f) where
  open X use {Rel, cell, gives, binds, givens, sees, chooses, enters, deeps, marks, helds, clashes}

  asked : {A B D : Type 0} {u : B → D} (c : ℕ) (o : Option A) {k : A → R.M B} (j : A → S.M D) → ((a : A) → Rel u (k a) (j a))
      → Rel u (R.given c o k) (S.given c o j)
  asked c o j e = givens itself c o o j (option_same o) e

  lists : {A B : Type 0} {h : A → B} (l : Values) {x : R.M A} {u : S.M B} {k : Value → Values → R.M A} {j : Value → Values → S.M B} → Rel h x u
      → ((v : Value) (r : Values) → Rel h (k v r) (j v r)) → Rel h (on_list l x k) (on_list l u j)
  unfolding on_list
  lists nil e k = e
  lists (cons v r) e k = k v r

  -- GET

  bounded_held : (v : Value) → Rel itself (Semantics.bounded R v) (Semantics.bounded S v)
  unfolding Semantics.bounded
  bounded_held v = asked 44 _ _ λ _. gives itself v

  tested_held : (t : ℕ) {m : R.M Value} {o : S.M Value} → Rel itself m o → Rel itself (Semantics.tested R t m) (Semantics.tested S t o)
  unfolding Semantics.tested
  tested_held t e = binds _ e λ v. asked 46 _ _ λ _. gives itself v

  module _ {P : ℕ → Type 0} {ψ : ℕ → ℕ} {sh sh' : Sheet} (held : Holds P f ψ sh sh') where
    abbrev pub Gets : Semantics.Getter R → Semantics.Getter S → Type 0
    Gets g k = (n : ℕ) (μ : Env) → P n → Rel itself (g n μ) (k (f n) μ)

    module _ (g : Semantics.Getter R) (k : Semantics.Getter S) (ih : Gets g k) (μ : Env) where
      pub get_each_held : (root : ℕ) → P root → (a : Value) (n : ℕ) (l : Values)
          → Rel itself (Semantics.get_each R g root a n l) (Semantics.get_each S k (f root) a n l)
      unfolding Semantics.get_each
      get_each_held root p a n nil = gives itself _
      get_each_held root p a n (cons m r) = binds _ (ih root _ p) λ w. asked 44 _ _ λ _. binds _ (get_each_held root p a (n + (suc (size w))) r) λ ws. gives
          itself _

      pub get_node_held : (nd : Node) → Every P (children nd) → Every (Sent P f ψ sh sh') (calls nd)
          → Rel itself (Semantics.get_node R g sh nd μ) (Semantics.get_node S k sh' (renumber f ψ nd) μ)
      unfolding Semantics.get_node renumber of_kind form_of children calls
      get_node_held (Var x) c s = asked 42 _ _ λ v. gives itself v
      get_node_held False c s = gives itself _
      get_node_held True c s = gives itself _
      get_node_held Empty c s = gives itself _
      get_node_held (Number n) c s = gives itself _
      get_node_held (Wide n) c s = gives itself _
      get_node_held (Front a b) c s = binds _ (ih a μ c.0) λ x. binds _ (ih b μ c.1.0) λ r. sees 43 _ _ _ λ l. bounded_held _
      get_node_held (Pair a b) c s = binds _ (ih a μ c.0) λ u. binds _ (ih b μ c.1.0) λ v. bounded_held _
      get_node_held (ListCase u e te n tn df dr) c s = binds _ (ih u μ c.0) λ v. sees 43 _ _ _ λ l.
          lists l.0 (tested_held te (ih e μ c.1.0)) λ x r. tested_held tn (ih n _ c.1.1.0)
      get_node_held (TruthCase u a ta b tb) c s = binds _ (ih u μ c.0) λ v. sees 43 _ _ _ λ t.
          rw (pick-anew f t.0 a b) (tested_held _ (ih _ μ (picked P t.0 c.1.0 c.1.1.0)))
      get_node_held (Split u i) c s = binds _ (ih u μ c.0) λ v. sees 43 _ _ _ λ p. ih i _ c.1.0
      get_node_held (Call sec x y) c s = asked 42 _ _ λ a. asked 42 _ _ λ b. rw s.0.same (ih _ _ s.0.root)
      get_node_held (Add n a) c s = binds _ (ih n μ c.0) λ v. sees 43 _ _ _ λ m. asked 45 _ _ λ _. gives itself _
      get_node_held (Each u sec x d) c s = binds _ (ih u μ c.0) λ v. sees 43 _ _ _ λ l. asked 42 _ _ λ a.
          rw s.0.same (binds _ (get_each_held _ s.0.root a _ l.0) λ ws. gives itself _)

    pub get_held : (l : ℕ) → Gets (Semantics.get R l sh) (Semantics.get S l sh')
    unfolding Semantics.get
    get_held zero n μ p = deeps itself n
    get_held (suc l) n μ p = rw (held.node n p, Semantics.get) (enters n (get_node_held _ _ (get_held l) μ _ (held.below n p) (held.called n p)))

  -- PUT

  abbrev pub cells : Semantics.Cells R → Semantics.Cells S
  cells W = map (Option.map cell) W

  cells_at : (W : Semantics.Cells R) (i : ℕ) → get_elem? (cells W) i ≡ Option.map (Option.map cell) (get_elem? W i)
  cells_at [] i = refl
  cells_at (o ∷ W) zero = refl
  cells_at (o ∷ W) (suc i) = cells_at W i

  cells-take : (n : ℕ) (W : Semantics.Cells R) → take n (cells W) ≡ cells (take n W)
  cells-take zero W = refl
  cells-take (suc n) [] = refl
  cells-take (suc n) (o ∷ W) = ap (λ z. Option.map cell o ∷ z) (cells-take n W)

  cells-set : (W : Semantics.Cells R) (i : ℕ) (o : Option R.Cell) → set (cells W) i (Option.map cell o) ≡ cells (set W i o)
  cells-set [] i o = refl
  cells-set (x ∷ W) zero o = refl
  cells-set (x ∷ W) (suc i) o = ap (λ z. Option.map cell x ∷ z) (cells-set W i o)

  pub old_held : (o : Option R.Cell) (v : Value) → Semantics.or_old S (Option.map cell o) v ≡ Semantics.or_old R o v
  unfolding Semantics.or_old
  old_held none v = refl
  old_held (some w) v = helds w

  constant_held : (v u : Value) (W : Semantics.Cells R) → Rel cells (Semantics.constant R v u W) (Semantics.constant S v u (cells W))
  unfolding Semantics.constant
  constant_held v u W = asked 50 _ _ λ _. gives cells W

  write_held : (n c : ℕ) (v : Value) (W : Semantics.Cells R) (o : Option R.Cell)
      → Rel cells (Semantics.write R (R.mark n) c v W o) (Semantics.write S (S.mark (f n)) c v (cells W) (Option.map cell o))
  unfolding Semantics.write
  write_held n c v W none = rw (marks n v, cells-set W c (some (R.mark n v))) (gives cells _)
  write_held n c v W (some w) = rw (helds w) (clashes w _ _ λ _. gives cells W)

  module _ {P : ℕ → Type 0} {ψ : ℕ → ℕ} {sh sh' : Sheet} (held : Holds P f ψ sh sh') where
    abbrev pub Puts : Semantics.Putter R → Semantics.Putter S → Type 0
    Puts p q = (n : ℕ) (μ : Env) (σ : List ℕ) (v : Value) (W : Semantics.Cells R) → P n → Rel cells (p n μ σ v W) (q (f n) μ σ v (cells W))

    module _ (g : Semantics.Getter R) (k : Semantics.Getter S) (gets : Gets held g k) (p : Semantics.Putter R) (q : Semantics.Putter S) (ih : Puts p q)
        (μ : Env) (σ : List ℕ) (v : Value) (W : Semantics.Cells R) where
      both_held : (a : ℕ) (x : Value) (b : ℕ) (u : Value) → P a → P b
          → Rel cells (Semantics.both R p μ σ W a x b u) (Semantics.both S q μ σ (cells W) (f a) x (f b) u)
      unfolding Semantics.both
      both_held a x b u y z = binds _ (ih a μ σ x W y) λ X. ih b μ σ u X z

      under_held : (b s : ℕ) (mk : Value → Value → Option Value) (x r : Value) → P b → P s
          → Rel cells (Semantics.under R p μ σ W b v s mk x r) (Semantics.under S q μ σ (cells W) (f b) v (f s) mk x r)
      unfolding Semantics.under
      under_held b s mk x r y z = rw (length-map W (Option.map cell), Semantics.under, ← map-append (Option.map cell) W (two none none)) (
          binds _ (ih b _ _ v _ y) λ X. rw (cells_at X (length W), cells_at X (suc (length W))) (
          givens (Option.map cell) 42 _ _ _ refl λ c. givens (Option.map cell) 42 _ _ _ refl λ d. rw (old_held c x, old_held d r) (
          sees 43 _ _ _ λ u. asked 44 _ _ λ _. rw (cells-take (length W) X) (ih s μ σ u _ z))))

      pub put_each_held : (root d c : ℕ) → P root → P d → (a : Value) (n : ℕ) (old l : Values) (X : Semantics.Cells R) → Rel (λ t. (t.0, cells t.1))
          (Semantics.put_each R g p root d c a n old l X) (Semantics.put_each S k q (f root) (f d) c a n old l (cells X))
      unfolding Semantics.put_each Semantics.stood_for
      put_each_held root d c y z a n old nil X = gives _ _
      put_each_held root d c y z a n old (cons u r) X = rw (length-map X (Option.map cell), Semantics.put_each, ← map-append (Option.map cell) X (none ∷ [])) (
          binds _ (lists old (gets d [] z) λ m _. gives itself m) λ m. binds _ (ih root _ _ u _ y) λ Y. rw (cells_at Y (length X)) (
          givens (Option.map cell) 42 _ _ _ refl λ o. rw (old_held o m) (asked 44 _ _ λ _. rw (cells-take (length X) Y) (
          binds _ (put_each_held root d c y z a (n + (suc (size (Semantics.or_old R o m)))) _ r _) λ t. gives _ _))))

      pub put_node_held : (n : ℕ) (nd : Node) → Every P (children nd) → Every (Sent P f ψ sh sh') (calls nd)
          → Rel cells (Semantics.put_node R (R.mark n) g p sh nd μ σ v W) (Semantics.put_node S (S.mark (f n)) k q sh' (renumber f ψ nd) μ σ v (cells W))
      unfolding Semantics.put_node renumber of_kind form_of children calls
      put_node_held n (Var x) c s = asked 42 _ _ λ i. rw (cells_at W i) (givens (Option.map cell) 42 _ _ _ refl λ o. write_held n i v W o)
      put_node_held n False c s = constant_held v _ W
      put_node_held n True c s = constant_held v _ W
      put_node_held n Empty c s = constant_held v _ W
      put_node_held n (Number m) c s = constant_held v _ W
      put_node_held n (Wide m) c s = constant_held v _ W
      put_node_held n (Front a b) c s = sees 51 _ _ _ λ t. both_held _ _ _ _ c.0 c.1.0
      put_node_held n (Pair a b) c s = sees 51 _ _ _ λ t. both_held _ _ _ _ c.0 c.1.0
      put_node_held n (ListCase z e te m tn df dr) c s = binds _ (gets z μ c.0) λ o. sees 43 _ _ _ λ l. lists l.0
          (chooses _ _ (both_held _ _ _ _ c.1.0 c.0) (binds _ (gets df _ c.1.1.1.0) λ x. binds _ (gets dr _ c.1.1.1.1.0) λ r.
          sees 43 _ _ _ λ _. under_held _ _ _ _ _ c.1.1.0 c.0))
          (λ x r. chooses _ _ (under_held _ _ _ _ _ c.1.1.0 c.0) (both_held _ _ _ _ c.1.0 c.0))
      put_node_held n (TruthCase z a ta b tb) c s = binds _ (gets z μ c.0) λ o. sees 43 _ _ _ λ t.
          rw (pick-anew f t.0 a b, pick-anew f (not t.0) a b) (chooses _ _
          (both_held _ _ _ _ (picked P t.0 c.1.0 c.1.1.0) c.0) (both_held _ _ _ _ (picked P (not t.0) c.1.0 c.1.1.0) c.0))
      put_node_held n (Split z i) c s = binds _ (gets z μ c.0) λ o. sees 43 _ _ _ λ t. under_held _ _ _ _ _ c.1.0 c.0
      put_node_held n (Call sec x y) c s = asked 42 _ _ λ a. asked 42 _ _ λ i. asked 42 _ _ λ b. asked 42 _ _ λ j.
          rw s.0.same (ih _ _ _ v W s.0.root)
      put_node_held n (Add m j) c s = sees 51 _ _ _ λ a. asked 52 _ _ λ _. ih _ _ _ _ W c.0
      put_node_held n (Each z sec x d) c s = sees 51 _ _ _ λ l. binds _ (gets z μ c.0) λ o. sees 43 _ _ _ λ old. asked 42 _ _ λ a. asked 42 _ _ λ i.
          rw s.0.same (binds _ (put_each_held _ d i s.0.root c.1.0 a _ old.0 l.0 W) λ t. ih z μ σ _ _ c.0)

    pub put_held : (l : ℕ) → Puts (Semantics.put R l sh) (Semantics.put S l sh')
    unfolding Semantics.put
    put_held zero n μ σ v W p = deeps cells n
    put_held (suc l) n μ σ v W p = rw (held.node n p, Semantics.put) (
        enters n (put_node_held _ _ (get_held held l) _ _ (put_held l) μ σ v W n _ (held.below n p) (held.called n p)))
